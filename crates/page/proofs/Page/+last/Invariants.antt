use Rattle.page.proofs.Page.+last.Given as goal

abbrev pub decreases-last : goal.decreases-last
decreases-last l = l.k
