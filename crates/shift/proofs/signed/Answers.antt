use Rattle.shift.proofs.Signs.{up_is, down_fits, down-back}
use Rattle.shift.proofs.signed.Goals as goal

pub overflow_sub-result : goal.overflow_sub-result
overflow_sub-result c = down_fits c.args.size c.requires

pub returns-then-back : goal.returns-then-back
returns-then-back c = rw c.if-back.true (down-back c.args.size c.requires)

pub returns-else-back : goal.returns-else-back
returns-else-back c = rw c.if-back.false (up_is c.args.size c.requires)
