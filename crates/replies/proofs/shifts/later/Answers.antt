use mathlib.Core.Path.{ap, ◌∙◌}
use Rattle.shift.proofs.Determined.{answer-is}
use Rattle.replies.specs.Shifts.{shifted_of}
use Rattle.replies.proofs.shifts.later.Goals as goal

pub returns : goal.returns
returns c = c.numbers.ensures ∙ ap shifted_of (answer-is c.shift.ensures)
