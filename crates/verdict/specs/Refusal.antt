-- Why a record log is refused (02, 2.3 and 2.10).
use Rattle.std.specs.Prelude.{ℕ, zero, suc, ◌-◌, ◌/◌, ◌%◌, ◌^◌, Bool, false, cond, not, ◌&&◌, ◌||◌, List, eqb, ltb, leb, length, Option, None, Some}
use Rattle.std.specs.Option.{option_or}
use Rattle.verdict.specs.declared.judge.Fault.{Fault}
use Rattle.verdict.specs.declared.judge.Fault.TheVariants as fault
use Rattle.records.specs.Records.{record_at, kind_in, cycle_in, body_in}

-- filler bits that are zero: six in a pin record, three in a flag record, four in a trigger record; of the watchdog (02, 2.8) body 1, an interrupt, or 2, a reset
unfoldable pub formed : ℕ → ℕ → Bool
formed kind body =
    cond (eqb kind 0) (eqb (body % 64) 0)
    (cond (eqb kind 1) (eqb (body % 8) 0)
    (cond (eqb kind 2) (eqb (body % 16) 0)
    (cond (eqb kind 3) (eqb body 1 || eqb body 2) false)))

-- the cycle of the record before the nth, 0 where there is none
unfoldable pub before : List ℕ → ℕ → ℕ
before log n = cond (eqb n 0) 0 (cycle_in (record_at log (n - 1)))

-- the first fault of a record: its form, a cycle below the one before it, a cycle over 2^48 - 1, in that order
unfoldable pub first_fault : Bool → Bool → Bool → Option Fault
first_fault malformed below over = cond malformed (Some fault.Malformed) (cond below (Some fault.OutOfOrder) (cond over (Some fault.TooLarge) None))

-- the nth record by itself
unfoldable pub refused_at : List ℕ → ℕ → Option Fault
refused_at log n = first_fault (not (formed (kind_in (record_at log n)) (body_in (record_at log n)))) (ltb (cycle_in (record_at log n)) (before log n)) (leb (2 ^ 48) (cycle_in (record_at log n)))

-- the first fault among a log's first n records
unfoldable pub first_refusal : List ℕ → ℕ → Option Fault
first_refusal log zero = None
first_refusal log (suc n) = option_or (first_refusal log n) (refused_at log n)

-- the longest log that is taken, in bytes (02, 2.10)
abbrev pub longest : ℕ
longest = 2 ^ 30

-- the length comes first: a multiple of ten, at most 2^30
unfoldable pub refusal_of : List ℕ → Option Fault
refusal_of log = cond (eqb (length log % 10) 0 && leb (length log) longest) (first_refusal log (length log / 10)) (Some fault.Malformed)
