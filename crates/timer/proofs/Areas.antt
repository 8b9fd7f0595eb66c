-- A call leaves its area as long as it was.
use Prim.Native.Nat.{ℕ, zero, suc, ◌≤◌}
use native.Mathlib.Omega.{arith}
use mathlib.Core.Bool.{Bool, true}
use mathlib.Core.List.{List, ◌++◌}
use mathlib.Core.Path.{◌≡◌, refl}
use borrow.Author.Tests.{le-leb, leb-true}
use lib.Dec.{eqb, leb}
use lib.ListN.{length, drop, length-append, length-drop}
use Rattle.records.specs.Records.{records_of}
use Rattle.time.specs.declared.units.Prescaler.{Prescaler}
use Rattle.tick.specs.declared.setting.Setting.{Setting}
use Rattle.tick.proofs.Choices.{cond-case, cond-all}
use Rattle.passage.specs.Passage.{Run, ticks, one}
use Rattle.passage.proofs.Runs.{one-all}
use Rattle.counter.specs.Modes.{prescaler_of}
use Rattle.counter.specs.Passage.{Passed, due, start, passed, advanced}
use Rattle.counter.specs.Setting.{setting_of}
use Rattle.counter.specs.declared.state.Timer.{Timer}
use Rattle.answers.specs.Answers.{Told}
use Rattle.timer.specs.declared.calls.Call.{Call}
use Rattle.timer.specs.Calls.{asks, works, before, worked, moved, performed, refusal_of, answered}

ticks-fit : (s : Setting) (p : Prescaler) (fits : ℕ → Bool) (n : ℕ) (r : Run) → fits (length r.bytes) ≡ true → fits (length (ticks s p fits n r).bytes) ≡ true
unfolding ticks
ticks-fit s p fits zero r f = f
ticks-fit s p fits (suc n) r f = ticks-fit s p fits n (one s p fits r) (one-all s p fits (λ (x : Run). fits (length x.bytes) ≡ true) r f f (λ e. e))

-- an advance's records have room
advanced-fits : (t : Timer) (cycle room : ℕ) → length (advanced ticks t cycle room).bytes ≤ room
unfolding advanced passed start
advanced-fits t cycle room = leb-true _ room (ticks-fit (setting_of t) (prescaler_of t) (λ (k : ℕ). leb k room) (due t cycle) (start t) (le-leb 0 room (omega arith)))

-- and they stand in place of as many bytes
in_place : (bytes area : List ℕ) → length bytes ≤ length area → length (bytes ++ drop (length bytes) area) ≡ length area
in_place bytes area h = simp (length-append, length-drop) (omega arith)

-- what a call tells, with an area as long as the one given
abbrev pub Whole : List ℕ → Told → Type 0
Whole area x = length x.area ≡ length area

worked-whole : (x : Passed) (t : Timer) (c : Call) (cycle : ℕ) (area : List ℕ) → Whole area (worked x t c cycle area)
unfolding worked
worked-whole x t c cycle area =
    let bytes : List ℕ = x.bytes ++ records_of cycle (works x.timer c cycle).log in
    cond-case (Whole area) (leb (length bytes) (length area)) (λ e. in_place bytes area (leb-true (length bytes) (length area) e)) (λ e. refl)

pub answered-area : (t : Timer) (c : Call) (cycle : ℕ) (area : List ℕ) → Whole area (answered ticks t c cycle area)
unfolding answered performed moved
answered-area t c cycle area =
    cond-all (Whole area) (eqb (refusal_of t c cycle) 0)
    (cond-all (Whole area) (asks t c).advances (in_place (advanced ticks t cycle (length area)).bytes area (advanced-fits t cycle (length area)))
    (worked-whole (before ticks t (asks t c).syncs cycle) t c cycle area))
    refl
