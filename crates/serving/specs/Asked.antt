-- A call in numbers, and what is answered to it.
use Rattle.std.specs.Prelude.{ℕ, suc, zero, List, [], ◌∷◌}
use Rattle.counter.specs.declared.state.Timer.{Timer}
use Rattle.passage.specs.Passage.{ticks}
use Rattle.serving.specs.declared.asked.Asked.{Asked}
use Rattle.serving.specs.declared.asked.Wanted.{Wanted}
use Rattle.serving.specs.declared.asked.Wanted.TheVariants as wanted
use Rattle.answers.specs.Answers.{Told, turned}
use Rattle.timer.specs.Calls.{answered}
use Rattle.timer.specs.declared.calls.Call.{Call}
use Rattle.timer.specs.declared.calls.Call.TheVariants as call

-- the calls in the order of their numbers, with the arguments that each takes
abbrev pub calls : Asked → List Call
calls q =
    call.Advance ∷ call.Next ∷ call.Read q.address ∷ call.Peek q.address ∷ call.Write q.address q.value ∷ call.Tifr ∷ call.Timsk ∷ call.WriteTifr q.value ∷ call.WriteTimsk q.value
    ∷ call.Edge q.pin q.value ∷ call.Output q.value ∷ call.Route q.value ∷ call.Sleep q.value ∷ call.Wake ∷ call.Reduce q.address ∷ call.Tsm q.value ∷ call.Prescale q.value ∷ call.Reset ∷ []

-- the call at a place of a list
abbrev pub known : List Call → ℕ → Wanted
known [] n = wanted.Unknown
known (c ∷ cs) zero = wanted.Known c
known (c ∷ cs) (suc n) = known cs n

abbrev pub call_of : Asked → Wanted
call_of q = known (calls q) q.kind

-- the call that a number names; a number that names none is turned away with 255
abbrev pub answered_to : Timer → Wanted → ℕ → List ℕ → Told
answered_to t (wanted.Known c) cycle area = answered ticks t c cycle area
answered_to t wanted.Unknown cycle area = turned 255 t area
