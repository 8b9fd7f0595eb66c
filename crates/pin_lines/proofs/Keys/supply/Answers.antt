-- Five volts are the nearest to five.
use lib.Ieee.{of_bits}
use Rattle.words.specs.Decimals.{nearest}
use Rattle.pin_lines.specs.PinLines.{vcc_of}
use Rattle.pin_lines.proofs.Keys.supply.Goals as goal

pub returns : goal.returns
unfolding vcc_of nearest of_bits
returns c = c.unwrap_or.ensures
