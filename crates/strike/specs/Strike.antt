-- A rising count's events from what is kept: where a run stands, and what its next events leave of it (01, "Count, direction, next event").
-- The sheet: nothing of its own, it is reckoned from Count.
use Rattle.std.specs.Prelude.{ℕ, ◌+◌, ◌-◌, ◌<◌, ◌≤◌, ◌^◌, ◌≡◌, true, false, List, leb, ℤ, length, get_or, take, drop}
use Rattle.std.proofs.lemmas.List.Edits.{sets}
use Rattle.records.specs.Records.{records_of}
use Rattle.time.specs.declared.units.Prescaler.{Prescaler}
use Rattle.time.specs.Units.{ticks_at, cycle_at}
use Rattle.wave.specs.Kinds.{F}
use Rattle.wave.specs.Count.{top_of, counted}
use Rattle.wave.specs.Distance.{gap}
use Rattle.tick.specs.declared.setting.Moving.{Moving}
use Rattle.tick.specs.declared.setting.Setting.{Setting}
use Rattle.tick.specs.Tick.{Step, events_of, raised, tick}
use Rattle.tick.specs.Skip.{linear}
use Rattle.tick.specs.Sound.{Sound}
use Rattle.passage.specs.declared.Progress.{Progress}
use Rattle.passage.specs.declared.Aside as passage
use Rattle.passage.specs.Passage.{ticks, standing, Ready}
use Rattle.scene.specs.declared.state.Scene.{Scene}
use Rattle.scene.specs.Scene.{scene_of, Apart}
use Rattle.strike.specs.declared.Rise.{Rise}
use Rattle.strike.specs.declared.Aside.{Aside}

-- what moves, of a rise whose direction and odometer are given: no tick of a rising count turns it, and no match is blocked
abbrev pub moving_in : ℤ → ℕ → Rise → Moving
moving_in d o r = record { counter = record { count = r.count; direction = d; blocked = false; odometer = o }; ocr = r.ocr; oc = r.oc; drives = r.drives; tifr = r.tifr }

-- the number of the tick that the count stands at
abbrev pub tick_in : Prescaler → Rise → ℕ
tick_in p r = ticks_at p r.next - (r.gap + 1)

-- the run that a rise tells, from the direction, the odometer and the tick of its beginning
abbrev pub run_in : Prescaler → ℤ → ℕ → ℕ → Rise → Progress
run_in p d o first r = record { moving = moving_in d (counted o (tick_in p r - first)) r; gap = r.gap; at = record { 0 = tick_in p r }; to = r.to }

-- what moves in it, before its next event's tick
abbrev pub near_in : Setting → Prescaler → ℤ → ℕ → ℕ → Rise → Moving
near_in s p d o first r = linear s.wave r.gap (run_in p d o first r).moving

-- its next event's tick
abbrev pub event_in : Setting → Prescaler → ℤ → ℕ → ℕ → Rise → Step
event_in s p d o first r = tick s (near_in s p d o first r)

-- what a rise knows is so
pub record Known (s : Setting) (p : Prescaler) (d : ℤ) (o first : ℕ) (r : Rise) : Type 0 where
  pub kind : leb s.wave.kind F ≡ true
  pub apart : Apart s
  pub sound : Sound s (run_in p d o first r).moving
  pub gap : r.gap ≡ gap s.wave (run_in p d o first r).moving.counter r.ocr
  pub top : r.top ≡ top_of s.wave (get_or r.ocr 0 0)
  pub flags : r.flags ≡ raised s (events_of s (near_in s p d o first r))
  pub aligned : cycle_at p (ticks_at p r.next) ≡ r.next
  pub due : r.gap < ticks_at p r.next
  pub since : first ≤ tick_in p r

-- numbers that the code can reckon with: counts up to the next event are at most MAX, and so is any TOP
pub record Fit (c : Scene) (shift : ℕ) (r : Rise) (room : ℕ) : Type 0 where
  pub most : c.max < 65536
  pub limit : get_or c.buffer 0 0 ≤ c.max
  pub top : r.top ≤ c.max
  pub near : r.count + r.gap ≤ c.max
  pub steps : shift ≤ 10
  pub place : r.to ≤ room

-- the next event's tick worked: what it leaves, its records from the place on, and what is then known
pub record Struck (s : Setting) (p : Prescaler) (d : ℤ) (o first : ℕ) (a : Rise) (before : List ℕ) (b : Rise) (after : List ℕ) : Type 0 where
  pub moving : (run_in p d o first b).moving ≡ (event_in s p d o first a).moving
  pub at : tick_in p b ≡ tick_in p a + (a.gap + 1)
  pub to : b.to ≡ a.to + length (records_of a.next (event_in s p d o first a).log)
  pub area : after ≡ sets before a.to (records_of a.next (event_in s p d o first a).log)
  pub most : b.to ≤ a.to + 110
  pub known : Known s p d o first b

-- an event's tick made aside, as the run that it tells
abbrev pub aside_in : Prescaler → ℤ → ℕ → ℕ → Aside → passage.Aside
aside_in p d o first r = record { after = run_in p d o first r.after; log = r.log }

-- a run on its way up: what is still to come of it is what was
pub record Climbed (s : Setting) (p : Prescaler) (d : ℤ) (o first : ℕ) (a : Rise) (end : ℕ) (before : List ℕ) (b : Rise) (after : List ℕ) : Type 0 where
  pub rest : ticks s p (λ k. leb k (length before)) (end - tick_in p b) (standing (run_in p d o first b) after) ≡ ticks s p (λ k. leb k (length before)) (end - tick_in p a) (standing (run_in p d o first a) before)
  pub left : drop b.to after ≡ drop b.to before
  pub ready : Ready s p (run_in p d o first b) end (length before)
  pub grows : a.to ≤ b.to
  pub known : Known s p d o first b

-- the events up to a cycle worked, or those before the first whose records do not fit
pub record Rose (s : Setting) (p : Prescaler) (d : ℤ) (o first : ℕ) (a : Rise) (cycle : ℕ) (before : List ℕ) (b : Rise) (after : List ℕ) : Type 0 where
  pub reached : cycle < b.next → (tick_in p b ≤ ticks_at p cycle) × (ticks s p (λ k. leb k (length before)) (ticks_at p cycle - tick_in p b) (standing (run_in p d o first b) after) ≡ ticks s p (λ k. leb k (length before)) (ticks_at p cycle - tick_in p a) (standing (run_in p d o first a) before))
  pub stopped : b.next ≤ cycle → ticks s p (λ k. leb k (length before)) (ticks_at p cycle - tick_in p a) (standing (run_in p d o first a) before) ≡ record { moving = near_in s p d o first b; at = tick_in p b + b.gap; bytes = take b.to after; paused = true }
  pub left : drop b.to after ≡ drop b.to before
  pub room : b.to ≤ length before
  pub grows : a.to ≤ b.to
  pub known : Known s p d o first b

-- what each function says of every run that its numbers tell: a scene is a setting's, and ticks come every 2^shift cycles
abbrev pub EveryRun : Scene → ℕ → Rise → (Setting → Prescaler → ℤ → ℕ → ℕ → Type 0) → Type 0
EveryRun c shift a Says = (s : Setting) (p : Prescaler) (d : ℤ) (o first : ℕ) → c ≡ scene_of s → p.divisor ≡ 2 ^ shift → Known s p d o first a → Says s p d o first

-- a run to the next event's cycle, where its records fit, strikes that event alone
pub record Lone (c : Scene) (shift : ℕ) (a : Rise) (before : List ℕ) (b : Rise) (after : List ℕ) : Type 0 where
  pub later : a.next < b.next
  pub most : b.to ≤ a.to + 110
  pub struck : EveryRun c shift a (λ s p d o first. Struck s p d o first a before b after)
