-- Every tick accounted for (02, 2.11): what is claimed of counts, overflows and ticks. The proof stands apart, in proofs/.
use Rattle.std.specs.Prelude.{ℕ, zero, suc, ◌+◌, ◌*◌, ◌/◌, ◌%◌, Bool, true, false, ◌&&◌, List, [], ◌∷◌, ◌≡◌, eqb, get_or, drop}
use Rattle.config.specs.declared.Config.{Config}
use Rattle.config.specs.Config.{accepted}
use Rattle.wave.specs.Count.{counted}
use Rattle.wave.specs.Kinds.{N}
use Rattle.tick.specs.Outputs.{bit}
use Rattle.counter.specs.declared.state.Timer.{Timer}
use Rattle.counter.specs.Fresh.{fresh_of}
use Rattle.counter.specs.Modes.{mode_of, kind_at, max_at}
use Rattle.passage.specs.Passage.{ticks}
use Rattle.answers.specs.Answers.{Told}
use Rattle.timer.specs.Claims.{Request, told, outcomes, last, sets_count}
use Rattle.account.specs.Watch.{Watch, made_at, follows}

-- a record raises a flag: kind 1 in the top bits of its first byte, and the flag's bit in its ninth, the bits raised (01, "The record area")
unfoldable pub raises : ℕ → List ℕ → Bool
raises flag area = eqb (get_or area 0 0 / 64) 1 && eqb (get_or area 8 0 / flag % 2) 1

-- how many of the first records in an area do
unfoldable pub raisings : ℕ → ℕ → List ℕ → ℕ
raisings flag zero area = 0
raisings flag (suc n) area = bit (raises flag area) + raisings flag n (drop 10 area)

-- those that a list of outcomes wrote into their areas
unfoldable pub overflows : ℕ → List Told → ℕ
overflows flag [] = 0
overflows flag (x ∷ xs) = raisings flag (x.written / 10) x.area + overflows flag xs

-- a normal mode
abbrev pub Normal : Timer → Type 0
Normal t = kind_at t.config.wide (mode_of t) ≡ N

-- every call is accepted, none writes TCNT or resets, and the mode is a normal one throughout
abbrev pub Counting : Timer → List Request → Type 0
Counting t [] = Normal t
Counting t (q ∷ qs) = Normal t × ((told ticks t q).number ≡ 0) × (sets_count t q.call ≡ false) × Counting (told ticks t q).timer qs

-- the clock as a timer has it, with no tick made yet
abbrev pub watch_of : Timer → Watch
watch_of t = record { sync = t.clock.sync.0; made = 0; origin = t.clock.origin.0; select = t.registers.tccrb % 8; halts = t.halts }

-- the ticks made from the start's sync cycle to the end's
abbrev pub ticks_made : Timer → List Request → ℕ
ticks_made t qs = made_at t.config (follows t.config (watch_of t) qs) (last ticks t qs).clock.sync.0

-- the sums close: overflows and remainder are the ticks made, and so is the odometer's growth
pub record Closes (t : Timer) (qs : List Request) : Type 0 where
  pub count : t.counter.count + ticks_made t qs ≡ (last ticks t qs).counter.count + (max_at t.config.wide + 1) * overflows t.config.tov (outcomes ticks t qs)
  pub odometer : (last ticks t qs).counter.odometer ≡ counted t.counter.odometer (ticks_made t qs)

-- Account: after any list, over any list of accepted calls in a normal mode throughout, without TCNT write and reset
abbrev pub Account : Type 0
Account = (c : Config) → accepted c ≡ true → (ps qs : List Request) → let t = last ticks (fresh_of c) ps in Counting t qs → Closes t qs
