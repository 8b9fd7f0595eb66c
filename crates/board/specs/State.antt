-- The board's state (02, 2.6): three timers, the scheduler of their next events, GTCCR.
use Rattle.std.specs.Prelude.{ℕ, []}
use Rattle.counter.specs.declared.state.Timer.{Timer}
use Rattle.counter.specs.Fresh.{fresh_of}
use Rattle.counter.specs.Next.{next_of}
use Rattle.counter.specs.Valid.{Valid as Running}
use Rattle.plans.specs.Plans.{planned_of}
use Rattle.m328p.specs.declared.Id.{Id}
use Rattle.m328p.specs.declared.Id.TheVariants as id
use Rattle.m328p.specs.Timers.{timer0, timer1, timer2}
use Rattle.board.specs.declared.state.Board.{Board}

-- the premises of the calls, which they keep
pub record Valid (b : Board) : Type 0 where
  pub zero : Running b.zero
  pub one : Running b.one
  pub two : Running b.two

-- the timer of an id
abbrev pub timer_of : Board → Id → Timer
timer_of b id.Zero = b.zero
timer_of b id.One = b.one
timer_of b id.Two = b.two

-- one timer after a call of its own, and its next event; the two others as they were
unfoldable pub board_to : Board → Id → Timer → Board
board_to b id.Zero t = record { zero = t; one = b.one; two = b.two; scheduler = planned_of b.scheduler id.Zero (next_of t); gtccr = b.gtccr }
board_to b id.One t = record { zero = b.zero; one = t; two = b.two; scheduler = planned_of b.scheduler id.One (next_of t); gtccr = b.gtccr }
board_to b id.Two t = record { zero = b.zero; one = b.one; two = t; scheduler = planned_of b.scheduler id.Two (next_of t); gtccr = b.gtccr }

-- all three after what reached them, their next events, and GTCCR
unfoldable pub board_all : Board → Timer → Timer → Timer → ℕ → Board
board_all b x y z gtccr =
    record { zero = x; one = y; two = z; scheduler = planned_of (planned_of (planned_of b.scheduler id.Zero (next_of x)) id.One (next_of y)) id.Two (next_of z); gtccr = gtccr }

-- a fresh board, at cycle 0
abbrev pub fresh_board : Board
fresh_board = record { zero = fresh_of timer0; one = fresh_of timer1; two = fresh_of timer2; scheduler = []; gtccr = 0 }
