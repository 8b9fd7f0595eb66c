-- What each call of a scheduler answers and leaves, said of the list of events that it holds (scheduler.rs, `impl Scheduler`).
use Rattle.std.specs.Prelude.{ℕ, Bool, cond, not, ◌&&◌, List, [], ◌∷◌, ◌++◌, ltb, leb, eqb, length, get_or, set, Option, Some, None, Result, Ok, Err}
use Rattle.events.specs.declared.EventKey.{EventKey}
use Rattle.events.specs.declared.Event.{Event}
use Rattle.events.specs.Events.{blank, place_of, earliest, foremost, swap_removed}
use Rattle.scheduler.specs.declared.Scheduler.{Scheduler}
use Rattle.scheduler.specs.declared.Full.{Full}
use Rattle.scheduler.specs.declared.Popping.{Popping}

-- some event has the key
abbrev pub holds : EventKey → List Event → Bool
holds key l = ltb (place_of key l) (length l)

-- `at`: the event of the key moves to the cycle in its place, or a new one goes to the end
unfoldable pub put : EventKey → ℕ → List Event → List Event
put key cycle l =
    cond (holds key l) (set l (place_of key l) (record { key = key; cycle = cycle })) (l ++ record { key = key; cycle = cycle } ∷ [])

-- 01's refusal 11: a new key when 64 are held
abbrev pub refuses : EventKey → List Event → Bool
refuses key l = not (holds key l) && eqb (length l) 64

-- `at`: the refusal, or the scheduler after the call
unfoldable pub scheduled : EventKey → ℕ → Scheduler → Result Scheduler Full
scheduled key cycle s = cond (refuses key s) (Err (record {})) (Ok (put key cycle s))

-- `cancel`: the event of the key, if there is one, is swap-removed
unfoldable pub removed : EventKey → List Event → List Event
removed key l = cond (holds key l) (swap_removed (place_of key l) l) l

-- `is_scheduled`: the cycle of the event of the key
unfoldable pub cycle_of : EventKey → List Event → Option ℕ
cycle_of key l = cond (holds key l) (Some (get_or l (place_of key l) blank).cycle) None

-- an event is due: `next` is at most `now`, and some event is held
abbrev pub is_due : ℕ → List Event → Bool
is_due now l = leb (earliest l) now && ltb 0 (length l)

-- `pop_due`: the event popped, and the scheduler after the call
unfoldable pub popped : ℕ → Scheduler → Popping
popped now s =
    cond (is_due now s)
    (record { due = Some (get_or s (foremost s) blank); scheduler = swap_removed (foremost s) s })
    (record { due = None; scheduler = s })
