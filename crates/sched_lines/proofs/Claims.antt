-- How long the answers of the scheduler's lines may be.
use Rattle.std.proofs.Common.{ℕ, ◌+◌, ◌-◌, ◌^◌, ◌≤◌, [], length, ltb, arith, Option, Some, None, Result, Ok, Err}
use Prim.Native.String.{String, len}
use lib.ListN.{length-append}
use Rattle.events.specs.Events.{earliest}
use Rattle.events.specs.declared.Event.{Event}
use Rattle.figures.specs.Figures.{text}
use Rattle.figures.proofs.Writing.{number_short}
use Rattle.page.proofs.Lengths.{Upto, said, numbered, either, codes-length, unreadable-short}
use Rattle.scheduler.specs.declared.Full.{Full}
use Rattle.scheduler.specs.declared.Scheduler.{Scheduler}
use Rattle.scheduler.specs.Scheduler.{scheduled, removed, cycle_of, popped}
use Rattle.words.specs.declared.Unreadable.{Unreadable}
use Rattle.sched_lines.specs.declared.Asked.{Asked}
use Rattle.sched_lines.specs.declared.Asked.TheVariants as asked
use Rattle.sched_lines.specs.Sched.{asked_of, until_of, next_line, at_line, event_line, pop_line, set_of, called_of, heard_of}
use Rattle.sched_lines.specs.Claims.{ShortSched}

until-short : (label : String) (n : ℕ) → length (until_of (text label) n) ≤ len label + 20
unfolding until_of
until-short label n = either (Upto (len label + 20)) (ltb n (2 ^ 64 - 1)) (numbered label _ n (omega arith)) (simp (length-append, codes-length) (omega arith))

next-short : (s : Scheduler) → Upto 104 (next_line s)
next-short s = let h = until-short "ok next=" (earliest s) in omega arith

at-short : (cycle : Option ℕ) → Upto 104 (at_line cycle)
unfolding at_line
at-short (Some cycle) = numbered _ _ cycle (omega arith)
at-short None = said _ (omega arith)

pop-short : (e : Option Event) (next : ℕ) → Upto 104 (pop_line e next)
unfolding pop_line event_line
pop-short (Some e) next =
    let a = number_short e.key.owner in
    let b = number_short e.key.tag in
    let c = number_short e.cycle in
    let d = until-short " next=" next in
    simp (length-append, codes-length) (omega arith)
pop-short None next = said _ (omega arith)

set-short : (s : Scheduler) (r : Result Scheduler Full) → Upto 104 (set_of s r).1
unfolding set_of
set-short s (Ok after) = next-short after
set-short s (Err why) = numbered _ _ 11 (omega arith)

called-short : (q : Asked) (s : Scheduler) → Upto 104 (called_of q s).1
unfolding called_of
called-short (asked.At key cycle) s = set-short s (scheduled key cycle s)
called-short (asked.Cancel key) s = next-short (removed key s)
called-short (asked.Is key) s = at-short (cycle_of key s)
called-short (asked.Pop now) s = let p = popped now s in pop-short p.due (earliest p.scheduler)
called-short asked.Clear s = next-short []

heard-short : (s : Scheduler) (nth : ℕ) (r : Result Asked Unreadable) → Upto 104 (heard_of s nth r).1
unfolding heard_of
heard-short s nth (Ok q) = called-short q s
heard-short s nth (Err why) = let h = unreadable-short nth why in omega arith

pub short-sched : ShortSched
short-sched s nth line at = heard-short s nth (asked_of line at)
