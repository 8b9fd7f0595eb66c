use Rattle.page.specs.Page.{pattern}
use Rattle.page.proofs.Sheets.{then}
use Rattle.page.proofs.Page.sixteen.Goals as goal

pub returns : goal.returns
unfolding pattern
returns c = then c.text.ensures c.last.ensures
