use Rattle.board.specs.Calls.{areas_of}
use Rattle.bench_lines.specs.Shelved.{answered_of}
use Rattle.bench_lines.proofs.shelved.answered.Goals as goal

pub returns-in-Scheduler : goal.returns-in-Scheduler
unfolding answered_of
returns-in-Scheduler c = rw c.in-Scheduler.is (c.scheduled.ensures (areas_of c.args.room.now c.args.one.now c.args.two.now))

pub returns-in-Board : goal.returns-in-Board
unfolding answered_of
returns-in-Board c = rw c.in-Board.is c.ordered.ensures
