-- The counter that skips and the plain counter give the same outcomes and the same last timer.
use Prim.Native.Nat.{ℕ}
use mathlib.Core.Path.{◌≡◌, refl}
use mathlib.Core.Bool.{Bool, true, false}
use mathlib.Core.List.{List, [], ◌∷◌}
use lib.ListN.{length}
use Rattle.counter.specs.declared.state.Timer.{Timer}
use Rattle.passage.specs.Passage.{ticks, events}
use Rattle.counter.specs.Valid.{Valid}
use Rattle.counter.proofs.Runs.{syncs-alike, advances-alike}
use Rattle.timer.specs.Calls.{asks, before, performed, answered}
use Rattle.timer.specs.Claims.{Request, told, outcomes, last, Same, Alike}
use Rattle.counter.proofs.Keeps.{fresh-is-valid}
use Rattle.timer.proofs.Keeps.{call-keeps}

before-alike : (t : Timer) (syncs : Bool) (cycle : ℕ) → Valid t → before events t syncs cycle ≡ before ticks t syncs cycle
unfolding before
before-alike t true cycle v = syncs-alike t cycle v
before-alike t false cycle v = refl

-- one request
pub told-alike : (t : Timer) (q : Request) → Valid t → told events t q ≡ told ticks t q
unfolding answered performed
told-alike t q v = rw (before-alike t (asks t q.call).syncs q.cycle v, advances-alike t q.cycle (length q.area) v)

-- a list of them
pub same : (t : Timer) (qs : List Request) → Valid t → Same t qs
unfolding outcomes last
same t [] v = record { outcomes = refl; last = refl }
same t (q ∷ qs) v =
    let e = told-alike t q v in
    let g = same (told ticks t q).timer qs (call-keeps t q v) in
    record { outcomes = rw (e, g.outcomes); last = rw e g.last }

pub alike : Alike
alike c e qs = same _ qs (fresh-is-valid c e)
