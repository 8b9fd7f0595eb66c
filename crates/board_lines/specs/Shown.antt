-- What is shown of the board (docs/SCRIPT.md, "The board"): "What is shown of a timer's call, here of Timer0, Timer1 and Timer2 as the line leaves them".
use Rattle.std.specs.Prelude.{ℕ, List, [], ◌∷◌, ◌++◌}
use Rattle.std.specs.Prelude.{Option, Some, None}
use Rattle.figures.specs.Figures.{text, number}
use Rattle.page.specs.Page.{pair}
use Rattle.counter.specs.Next.{next_of}
use Rattle.scheduler.specs.Scheduler.{cycle_of as cycle_in}
use Rattle.scheduler.specs.declared.Scheduler.{Scheduler}
use Rattle.m328p.specs.declared.Id.{Id}
use Rattle.m328p.specs.declared.Id.TheVariants as id
use Rattle.plans.specs.Plans.{key_of}
use Rattle.board.specs.Calls.{Areas}
use Rattle.board.specs.declared.outcome.Outcome.{Outcome}
use Rattle.board.specs.declared.outcome.Written.{Written}
use Rattle.board.specs.declared.state.Board.{Board}
use Rattle.display.specs.Answers.{bytes_of, cycle_of, flags_of, said_of, unless_refused}
use Rattle.display.specs.States.{state_of}

-- "next=N,N,N flags=FF,FF,FF"
unfoldable pub nexts_of : Board → List ℕ
nexts_of b =
    cycle_of (text " next=") (next_of b.zero) ++ cycle_of (text ",") (next_of b.one) ++ cycle_of (text ",") (next_of b.two)
    ++ flags_of (text " flags=") (next_of b.zero) ++ flags_of (text ",") (next_of b.one) ++ flags_of (text ",") (next_of b.two)

-- "bytes=B,B,B records=HEX,HEX,HEX"
unfoldable pub records_of : Written → Areas → List ℕ
records_of w areas =
    (text " bytes=" ++ number w.zero) ++ (text "," ++ number w.one) ++ (text "," ++ number w.two)
    ++ bytes_of (text " records=") areas.zero w.zero ++ bytes_of (text ",") areas.one w.one ++ bytes_of (text ",") areas.two w.two

-- the line of an order: nothing follows a refusal
abbrev pub answer_of : Outcome → Areas → List ℕ
answer_of o areas = said_of o.answer ++ unless_refused o.answer (nexts_of o.board ++ records_of o.written areas)

-- a label and a cycle, or none
unfoldable pub held_at : List ℕ → Option ℕ → List ℕ
held_at label (Some cycle) = label ++ number cycle
held_at label None = label ++ text "none"

-- "the cycle that the board's scheduler holds for each id, or none"
abbrev pub held_of : List ℕ → Scheduler → Id → List ℕ
held_of label s i = held_at label (cycle_in (key_of i) s)

-- "board gtccr=VV sched=N,N,N"
unfoldable pub plans_of : Board → List ℕ
plans_of b =
    (text "board gtccr=" ++ pair b.gtccr) ++ held_of (text " sched=") b.scheduler id.Zero ++ held_of (text ",") b.scheduler id.One ++ held_of (text ",") b.scheduler id.Two

-- and "a `state` line for each timer follows"
unfoldable pub board_of : Board → List ℕ
board_of b = plans_of b ++ 10 ∷ [] ++ state_of b.zero ++ 10 ∷ [] ++ state_of b.one ++ 10 ∷ [] ++ state_of b.two
