-- How many bytes are shown of the board, at most.
use Prim.Native.Nat.{ℕ, ◌+◌, ◌*◌, ◌≤◌}
use Prim.Native.String.{String, len}
use native.Mathlib.Omega.{arith}
use mathlib.Core.List.{◌++◌}
use Rattle.std.specs.Prelude.{Option, Some, None}
use lib.ListN.{length, length-append}
use Rattle.figures.specs.Figures.{text}
use Rattle.figures.proofs.Writing.{number_short}
use Rattle.page.proofs.Lengths.{numbered, codes-length, pair-length}
use Rattle.counter.specs.Next.{next_of}
use Rattle.scheduler.specs.Scheduler.{cycle_of}
use Rattle.m328p.specs.declared.Id.TheVariants as id
use Rattle.plans.specs.Plans.{key_of}
use Rattle.display.proofs.Claims.{short-state}
use Rattle.display.proofs.Lengths.{bytes-short, cycle-short, event-flags-short, said-short, unless-short}
use Rattle.board.specs.Calls.{Areas}
use Rattle.board.specs.declared.outcome.Outcome.{Outcome}
use Rattle.board.specs.declared.outcome.Written.{Written}
use Rattle.board.specs.declared.state.Board.{Board}
use Rattle.board_lines.specs.Shown.{nexts_of, records_of, answer_of, held_at, plans_of, board_of}

-- ---- an order's answer

nexts-short : (b : Board) → length (nexts_of b) ≤ 83
unfolding nexts_of
nexts-short b =
    let zero = cycle-short " next=" (next_of b.zero) in
    let one = cycle-short "," (next_of b.one) in
    let two = cycle-short "," (next_of b.two) in
    let x = event-flags-short " flags=" (next_of b.zero) in
    let y = event-flags-short "," (next_of b.one) in
    let z = event-flags-short "," (next_of b.two) in
    simp length-append (omega arith)

records-short : (w : Written) (areas : Areas) → length (records_of w areas) ≤ 83 + 2 * (length areas.zero + length areas.one + length areas.two)
unfolding records_of
records-short w areas =
    let zero = number_short w.zero in
    let one = number_short w.one in
    let two = number_short w.two in
    let x = bytes-short " records=" areas.zero w.zero in
    let y = bytes-short "," areas.one w.one in
    let z = bytes-short "," areas.two w.two in
    simp (length-append, codes-length) (omega arith)

left-short : (o : Outcome) (areas : Areas) → length (nexts_of o.board ++ records_of o.written areas) ≤ 166 + 2 * (length areas.zero + length areas.one + length areas.two)
left-short o areas =
    let h = nexts-short o.board in
    let k = records-short o.written areas in
    simp length-append (omega arith)

pub answer-short : (o : Outcome) (areas : Areas) → length (answer_of o areas) ≤ 199 + 2 * (length areas.zero + length areas.one + length areas.two)
answer-short o areas =
    let h = said-short o.answer in
    let k = unless-short o.answer (nexts_of o.board ++ records_of o.written areas) in
    let l = left-short o areas in
    simp length-append (omega arith)

-- ---- the board as it stands

held-short : (label : String) (cycle : Option ℕ) → length (held_at (text label) cycle) ≤ len label + 20
unfolding held_at
held-short label (Some cycle) = numbered label _ cycle (omega arith)
held-short label None = simp (length-append, codes-length) (omega arith)

plans-short : (b : Board) → length (plans_of b) ≤ 83
unfolding plans_of
plans-short b =
    let zero = held-short " sched=" (cycle_of (key_of id.Zero) b.scheduler) in
    let one = held-short "," (cycle_of (key_of id.One) b.scheduler) in
    let two = held-short "," (cycle_of (key_of id.Two) b.scheduler) in
    simp (length-append, codes-length, pair-length) (omega arith)

pub board-short : (b : Board) → length (board_of b) ≤ 1877
unfolding board_of
board-short b =
    let h = plans-short b in
    let x = short-state b.zero in
    let y = short-state b.one in
    let z = short-state b.two in
    simp length-append (omega arith)
