use Rattle.board.proofs.Outcomes.{aim-tells, nowhere-tells, shown-tells}
use Rattle.board.proofs.call.Goals as goal

pub returns-in-Nowhere : goal.returns-in-Nowhere
returns-in-Nowhere c = nowhere-tells _ _ _ _ c.aimed-aim.ensures c.requires c.in-Nowhere.is c.refused.ensures

pub returns-in-Shown : goal.returns-in-Shown
returns-in-Shown c = shown-tells _ _ _ _ c.aimed-aim.ensures c.requires c.in-Shown.is c.nothing.ensures

pub returns-in-Own : goal.returns-in-Own
returns-in-Own c = aim-tells _ _ _ _ c.aimed-aim.ensures _ c.in-Own.is c.own.ensures

pub returns-in-All : goal.returns-in-All
returns-in-All c = aim-tells _ _ _ _ c.aimed-aim.ensures _ c.in-All.is c.all.ensures
