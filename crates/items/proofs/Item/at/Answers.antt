use Rattle.items.proofs.Bytes.{item-at}
use Rattle.items.proofs.Item.at.Goals as goal

pub returns : goal.returns
returns c = item-at c.args.list.now c.args.from _ _ c.requires c.two-head.ensures c.eight-rest.ensures
