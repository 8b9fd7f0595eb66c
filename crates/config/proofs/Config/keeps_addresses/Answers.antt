use Rattle.config.specs.Config.{address_rule}
use Rattle.config.proofs.Config.keeps_addresses.Goals as goal

pub returns : goal.returns
unfolding address_rule
returns c = rw (c.distinct.ensures, c.within.ensures, c.owned-owned.ensures.0)
