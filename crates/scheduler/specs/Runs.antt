-- What holds of a scheduler after any list of calls from `new`.
use Rattle.std.specs.Prelude.{ℕ, ◌-◌, ◌≤◌, ◌<◌, ◌^◌, ◌≡◌, List, [], ◌∷◌, length, get_or}
use Rattle.std.specs.Result.{result_unwrap_or}
use Rattle.events.specs.declared.EventKey.{EventKey}
use Rattle.scheduler.specs.declared.Scheduler.{Scheduler}
use Rattle.events.specs.Events.{blank, earliest, Met}
use Rattle.scheduler.specs.Scheduler.{scheduled, removed, popped}

-- a call of each method
pub data Call : Type 0 where
  at : EventKey → ℕ → Call
  cancel : EventKey → Call
  is_scheduled : EventKey → Call
  pop_due : ℕ → Call
  clear : Call
  next : Call

-- the scheduler after one call, which stays as it was where the call is refused
unfoldable pub after : Scheduler → Call → Scheduler
after s (at key cycle) = result_unwrap_or (scheduled key cycle s) s
after s (cancel key) = removed key s
after s (is_scheduled key) = s
after s (pop_due now) = (popped now s).scheduler
after s clear = []
after s next = s

-- the scheduler after a list of calls
unfoldable pub run : Scheduler → List Call → Scheduler
run s [] = s
run s (call ∷ calls) = run (after s call) calls

-- what is claimed of a scheduler
pub record Sound (s : Scheduler) : Type 0 where
  -- no key is held twice
  pub once : (i j : ℕ) → i < length s → j < length s → (get_or s i blank).key ≡ (get_or s j blank).key → i ≡ j
  -- at most 64 events are held
  pub room : length s ≤ 64
  -- what `next` answers is the minimum of the held cycles: at most each, and one of them, or 2^64 - 1 when none is held
  pub low : (i : ℕ) → i < length s → earliest s ≤ (get_or s i blank).cycle
  pub met : 0 < length s → Met s (earliest s)
  pub none : length s ≡ 0 → earliest s ≡ 2 ^ 64 - 1

-- the theorem: after any calls from `new` (proved in proofs/Runs.antt)
abbrev pub Always : Type 0
Always = (calls : List Call) → Sound (run [] calls)
