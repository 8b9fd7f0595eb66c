-- Calls turned away (01, the table of that name): the first number that applies.
-- The sheet: nothing of its own, refusals are 01's.
use Rattle.std.specs.Prelude.{ℕ, Bool, cond, not, ◌&&◌, leb, eqb}
use Rattle.time.specs.Units.{late_at}
use Rattle.counter.specs.declared.state.Timer.{Timer}
use Rattle.counter.specs.Modes.{running_of}
use Rattle.counter.specs.Next.{next_at}

-- the next event lies at or before the cycle
unfoldable pub is_due : Timer → ℕ → Bool
is_due t cycle = running_of t && leb (next_at t) cycle

-- 2: cycle over 2^62 − 1; 3: cycle below the latest accepted
unfoldable pub late : Timer → ℕ → ℕ
late t cycle = late_at t.clock.latest.0 cycle

-- then 4, 5, 6 and 7; 0 for none
unfoldable pub refusal : Timer → ℕ → Bool → Bool → Bool → Bool → ℕ
refusal t cycle absent wrong tested halted =
    cond (not (eqb (late t cycle) 0)) (late t cycle)
    (cond absent 4 (cond wrong 5 (cond (tested && is_due t cycle) 6 (cond halted 7 0))))
