use Rattle.config.specs.Config.{accepted}
use Rattle.config.proofs.Config.is_accepted.Goals as goal

pub returns : goal.returns
unfolding accepted
returns c = simp (c.keeps_choices.ensures, c.keeps_width.ensures, c.keeps_layout.ensures, c.keeps_compares.ensures, c.keeps_addresses.ensures, c.keeps_flags.ensures, c.keeps_pins.ensures)
