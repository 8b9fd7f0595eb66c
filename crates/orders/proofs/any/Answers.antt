use Rattle.orders.proofs.Obeyed.{known_tells, unknown-tells}
use Rattle.orders.proofs.any.Goals as goal

pub returns-in-Known : goal.returns-in-Known
returns-in-Known c = known_tells _ c.args.asked _ _ _ _ _ _ _ c.order-meant.ensures c.in-Known.is c.call.ensures

pub returns-in-Unknown : goal.returns-in-Unknown
returns-in-Unknown c = unknown-tells _ c.args.asked _ _ _ _ _ c.requires c.order-meant.ensures c.in-Unknown.is c.refused.ensures
