-- An advance: the run that is due, and what the code hands back of it.
use Prim.Native.Nat.{ℕ, ◌-◌, ◌≤◌, ◌<◌, ◌^◌, max}
use native.Mathlib.Omega.{arith}
use native.Mathlib.Nat.{le_refl, div-le_self}
use mathlib.Core.Path.{◌≡◌, refl, sym, ◌∙◌}
use mathlib.Core.Bool.{Bool, true, false, cond}
use mathlib.Core.List.{List}
use lib.ListN.{length, take, drop, take-append-drop}
use lib.Seq.{length-take-le}
use Rattle.wave.specs.declared.kinds.Wave.{Wave}
use Rattle.time.specs.declared.units.Prescaler.{Prescaler}
use Rattle.time.specs.Units.{ticks_at, cycle_at}
use Rattle.wave.specs.Distance.{gap}
use Rattle.time.proofs.Clocks.{ticks-mono, cycle-mono, tick-before}
use Rattle.passage.specs.declared.Progress.{Progress}
use Rattle.passage.specs.declared.Finished.{Finished}
use Rattle.tick.specs.declared.setting.Moving.{Moving}
use Rattle.tick.specs.declared.setting.Setting.{Setting}
use Rattle.tick.specs.declared.tick.Logged.{Logged as Ticked}
use Rattle.tick.specs.Skip.{linear}
use Rattle.tick.specs.Tick.{tick, Logs as TickLogs}
use Rattle.passage.specs.Passage.{ticks, Ready, Ran, Finishes}
use Rattle.tick.specs.Sound.{Steady}
use Rattle.passage.proofs.Loops.{within, run_of, begins, ended, joined}
use Rattle.counter.specs.declared.advance.Work.{Work}
use Rattle.counter.specs.declared.state.Timer.{Timer}
use Rattle.counter.specs.Modes.{prescaler_of, running_of, mode_of, wave_of}
use Rattle.counter.specs.Setting.{setting_at, setting_of, moving_of, settle}
use Rattle.counter.specs.Passage.{due, start, sync_to, sync_of, passed, advanced, quietly, work_of, Works, Advances}
use Rattle.counter.specs.Logs.{Logs, struck}
use Rattle.counter.specs.Valid.{Valid}
use Rattle.counter.proofs.Bounds.{valid-sound}
use Rattle.counter.proofs.Clocks.{running-divides}
use Rattle.counter.proofs.Lasting.{advance-keeps}

-- what a paused run hands back
pub paused-work : (f : Finished) (p : Prescaler) (sync cycle : ℕ) {last later : ℕ} → f.paused ≡ true → last ≡ cycle_at p f.at.0 → later ≡ max sync last
    → record { moving = f.moving; sync = record { 0 = later }; written = f.to; paused = true } ≡ work_of f p sync cycle
paused-work f p sync cycle e a b = rw (e, b, a)

-- what the code hands back of the run that is due
works : (t : Timer) (cycle : ℕ) (before after : List ℕ) (m : Moving) (at sync to : ℕ) (paused : Bool)
    → ticks (setting_of t) (prescaler_of t) (within before) (due t cycle) (start t) ≡ record { moving = m; at = at; bytes = take to after; paused = paused }
    → sync ≡ cond paused (max t.clock.sync.0 (cycle_at (prescaler_of t) at)) cycle
    → to ≤ length after
    → drop to after ≡ drop to before
    → Works t (advanced ticks t cycle (length before)) before (record { moving = m; sync = record { 0 = sync }; written = to; paused = paused }) after
unfolding advanced passed sync_of
works t cycle before after m at sync to paused e y l d =
    let n = length-take-le to after l in
    record {
      timer = rw (e, y);
      written = rw e (sym n);
      paused = rw e;
      area = rw (e, n, ← d) (sym (take-append-drop to after));
    }

-- the counter stands
pub idle : (t : Timer) (cycle : ℕ) (before : List ℕ) {m : Moving} {r : Work} → running_of t ≡ false → m ≡ moving_of t → r ≡ quietly m cycle → Works t (advanced ticks t cycle (length before)) before r before
unfolding due start ticks
idle t cycle before {m} e em er = rw er (works t cycle before before m (ticks_at (prescaler_of t) t.clock.sync.0) cycle 0 false (rw (e, em)) refl (omega arith) refl)

-- what the calls before the run ask
pub ticks-asked : (t : Timer) {p : Prescaler} (cycle : ℕ) → Valid t → t.clock.sync.0 ≤ cycle → p ≡ prescaler_of t → running_of t ≡ true → (p.origin.0 ≤ cycle) × (0 < p.divisor)
ticks-asked t cycle v h ep r = (rw ep (let o = v.origin in omega arith), rw ep (running-divides t r))

pub count-asked : (t : Timer) {mode : ℕ} {w : Wave} → Valid t → mode ≡ mode_of t → w ≡ wave_of t mode → t.counter.count ≤ w.max
unfolding setting_at
count-asked t v em ew = rw (ew, em) (valid-sound t v).steady.count

pub setting-is : (t : Timer) {s : Setting} {mode : ℕ} {w : Wave} → mode ≡ mode_of t → w ≡ wave_of t mode → s ≡ setting_at t mode w → s ≡ setting_of t
setting-is t em ew es = es ∙ rw (ew, em)

ticks-small : (p : Prescaler) (cycle : ℕ) → ticks_at p cycle ≤ cycle
unfolding ticks_at
ticks-small p cycle = let h = div-le_self (cycle - p.origin.0) p.divisor in omega arith

-- what work has at hand where a run begins: the prescaler p, the waveform w, what moves m, the gap g, and the numbers a and e of the ticks at its begin and end
pub record Begun (t : Timer) (cycle : ℕ) (p : Prescaler) (w : Wave) (m : Moving) (g a e : ℕ) : Type 0 where
  pub valid : Valid t
  pub late : t.clock.latest.0 ≤ cycle
  pub small : cycle < 2 ^ 62
  pub runs : running_of t ≡ true
  pub prescaler : p ≡ prescaler_of t
  pub wave : w ≡ wave_of t (mode_of t)
  pub moving : m ≡ moving_of t
  pub gap : g ≡ gap w t.counter t.ocr
  pub first : a ≡ ticks_at p t.clock.sync.0
  pub last : e ≡ ticks_at p cycle

abbrev pub begun_at : Moving → ℕ → ℕ → Progress
begun_at m g a = record { moving = m; gap = g; at = record { 0 = a }; to = 0 }

module _ {t : Timer} {cycle : ℕ} {p : Prescaler} {w : Wave} {m : Moving} {g a e : ℕ} (x : Begun t cycle p w m g a e) where
  begun-late : t.clock.sync.0 ≤ cycle
  begun-late = let l = x.late in let s = x.valid.sync in omega arith

  begun-asked : (p.origin.0 ≤ cycle) × (0 < p.divisor)
  begun-asked = ticks-asked t cycle x.valid begun-late x.prescaler x.runs

  pub begun-upto : a ≤ e
  begun-upto = rw (x.first, x.last) (ticks-mono p t.clock.sync.0 cycle begun-asked.1 begun-late)

  pub begun-cycle : (k : ℕ) → k ≤ e → cycle_at p k < 2 ^ 64
  begun-cycle k h =
      let s = x.small in
      let c = cycle-mono p k e h in
      let b : cycle_at p e ≤ cycle = rw x.last (tick-before p cycle begun-asked.0) in
      omega arith

  pub begun-steady : Steady w m
  unfolding setting_at
  begun-steady = rw (x.wave, x.moving) (valid-sound t x.valid).steady

  pub begun-gap : g ≡ gap w m.counter m.ocr
  begun-gap = x.gap ∙ rw x.moving

  pub begun-ready : {s : Setting} (before : List ℕ) → s ≡ setting_of t → Ready s p (begun_at m g a) e (length before)
  unfolding setting_at
  begun-ready before es =
      record {
        sound = rw (es, x.moving) (valid-sound t x.valid);
        gap = rw (es, ← x.wave) begun-gap;
        upto = begun-upto;
        ticks = (let h : e ≤ cycle = rw x.last (ticks-small p cycle) in let l = x.small in omega arith);
        cycles = begun-cycle e (le_refl e);
        bytes = omega arith;
      }

  begun-run : (s : Setting) (before : List ℕ) → s ≡ setting_of t → ticks (setting_of t) (prescaler_of t) (within before) (due t cycle) (start t) ≡ run_of s p (begun_at m g a) e before
  unfolding due start
  begun-run s before es = rw (x.runs, es, x.moving, x.first, x.last, x.prescaler)

  -- no event at or before the cycle
  pub begun-quiet : (before : List ℕ) {near : Moving} {r : Work} → e - a ≤ g → near ≡ linear w (e - a) m → r ≡ quietly near cycle → Works t (advanced ticks t cycle (length before)) before r before
  unfolding setting_at
  begun-quiet before {near} h en er =
      let f : Finishes (setting_of t) p (begun_at m g a) e before (record { moving = near; at = record { 0 = e }; to = 0; paused = false }) before
      = ended (begins before (begun-ready before refl)) a refl h (rw (← x.wave) en) in
      rw er (works t cycle before before near e cycle 0 false (begun-run (setting_of t) before refl ∙ f.run) refl (omega arith) refl)

  -- run, then finish
  pub begun-works : {s : Setting} {before area after : List ℕ} {b : Progress} {f : Finished} {r : Work}
      → s ≡ setting_of t
      → Ran s p (begun_at m g a) e before b area
      → length area ≡ length before
      → length after ≡ length area
      → Finishes s p b e area f after
      → r ≡ work_of f p t.clock.sync.0 cycle
      → Works t (advanced ticks t cycle (length before)) before r after
  begun-works {s} {before} {area} {after} {b} {f} es h l n k er =
      let j = joined h l (n ∙ l) k in
      let o = j.room in
      rw er (works t cycle before after f.moving f.at.0 (work_of f p t.clock.sync.0 cycle).sync.0 f.to f.paused (begun-run s before es ∙ j.run) (rw x.prescaler) (omega arith) j.left)

-- ---- advance
pub advances : (t : Timer) (cycle : ℕ) {before after : List ℕ} {w : Work} {t₁ t₂ : Timer}
    → (Valid t) × (t.clock.latest.0 ≤ cycle) × (cycle < 2 ^ 62)
    → Works t (advanced ticks t cycle (length before)) before w after
    → t₁ ≡ settle t w.moving
    → t₂ ≡ sync_to t₁ w.sync.0
    → Advances (advanced ticks t cycle (length before)) before (record { timer = t₂; written = w.written; paused = w.paused }) after
advances t cycle {before} {after} {w} {t₁} {t₂} v h e₁ e₂ =
    let e : t₂ ≡ (advanced ticks t cycle (length before)).timer = e₂ ∙ rw e₁ h.timer in
    record {
      timer = e;
      written = h.written;
      paused = h.paused;
      area = h.area;
      valid = rw e (advance-keeps t cycle (length before) v.0 v.1 v.2);
    }

-- ---- a tick of the T pin
pub strikes : (t : Timer) (cycle : ℕ) {s : Setting} {m : Moving} {x : Ticked} {r : Timer} → s ≡ setting_of t → m ≡ moving_of t → TickLogs (tick s m) cycle x → r ≡ settle t x.moving
    → Logs (struck t) cycle (record { timer = r; log = x.log })
unfolding struck
strikes t cycle es em h er =
    record {
      timer = er ∙ rw (h.moving, em, es);
      bytes = h.bytes ∙ rw (em, es);
      size = h.size;
      len = h.len;
    }
