use Rattle.config.specs.Config.{pin_rule}
use Rattle.config.proofs.Config.keeps_pins.Goals as goal

pub returns : goal.returns
unfolding pin_rule
returns c = simp (c.distinct.ensures, c.within.ensures, c.pins-pins.ensures.0)
