use Rattle.config.specs.Config.{flag_rule}
use Rattle.config.proofs.Config.keeps_flags.Goals as goal

pub returns : goal.returns
unfolding flag_rule
returns c = simp (c.is_one_bit.ensures, c.is_flagged.ensures, c.is_flagged-2.ensures, c.is_flagged-3.ensures, c.is_flagged-4.ensures, c.distinct.ensures, c.flags.ensures.0)
