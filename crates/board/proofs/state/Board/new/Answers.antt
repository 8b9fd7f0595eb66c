use Rattle.counter.proofs.Keeps.{fresh-is-valid}
use Rattle.m328p.specs.Timers.{timer0, timer1, timer2}
use Rattle.m328p.specs.declared.Id.TheVariants as id
use Rattle.m328p.proofs.Claims.{all-accepted}
use Rattle.board.proofs.state.Board.new.Goals as goal

pub returns : goal.returns
returns c = (
  rw (c.fresh.ensures, c.fresh-2.ensures, c.fresh-3.ensures, c.timer0.ensures, c.timer1.ensures, c.timer2.ensures, c.new.ensures),
  record {
    zero = rw (c.fresh.ensures, c.timer0.ensures) (fresh-is-valid timer0 (all-accepted id.Zero));
    one = rw (c.fresh-2.ensures, c.timer1.ensures) (fresh-is-valid timer1 (all-accepted id.One));
    two = rw (c.fresh-3.ensures, c.timer2.ensures) (fresh-is-valid timer2 (all-accepted id.Two));
  },
)
