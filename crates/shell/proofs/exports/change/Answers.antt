-- `shell::exports::change` meets its contract.

use Rattle.shell.proofs.exports.change.Goals as goal

pub returns-then-asked-gt11 : goal.returns-then-asked-gt11
returns-then-asked-gt11 c = c.turn.ensures c.args.area.now
