-- `shell::exports::paddlemauve_next` meets its contract.
use Rattle.held.proofs.Answers.{next-right}
use Rattle.shell.proofs.exports.paddlemauve_next.Goals as goal

pub returns : goal.returns
returns c = let x = c.args in rw c.nexting-a.ensures (next-right x.t.now x.cycle c.requires)
