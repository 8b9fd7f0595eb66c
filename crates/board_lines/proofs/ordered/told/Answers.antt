-- An area that changed has its own words.
use Rattle.std.proofs.Common.{sym, ◌∙◌, Some}
use Rattle.figures.specs.Figures.{codes}
use Rattle.board_lines.specs.Ordered.{told_of}
use Rattle.board_lines.proofs.Ordering.{stays}
use Rattle.board_lines.proofs.ordered.told.Goals as goal

pub returns-then-any_spoilt : goal.returns-then-any_spoilt
unfolding codes told_of
returns-then-any_spoilt c = rw (sym c.any_spoilt.ensures ∙ c.if-any_spoilt.true) (stays (Some c.args.o.board) _ c.requires c.quiet.ensures c.text.ensures)
