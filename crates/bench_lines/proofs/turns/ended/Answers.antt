use Rattle.bench_lines.proofs.Hearing.{ended_later, ended_now}
use Rattle.bench_lines.proofs.turns.ended.Goals as goal

pub returns-in-Some : goal.returns-in-Some
returns-in-Some c = λ x old room area items l. ended_later x old _ room area items c.args.h l c.in-Some.later c.in-Some.is

pub returns-in-None : goal.returns-in-None
returns-in-None c = λ x old room area items l. ended_now x old _ room area items c.args.h l _ c.in-None.is c.byte.ensures
