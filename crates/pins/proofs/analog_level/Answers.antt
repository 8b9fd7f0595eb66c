-- `pins::analog_level` meets its contract: each arm rewrites with the tests that led there. The patterns of 0.6 and 0.3 compute to the same values as `tenths 6` and `tenths 3`. Assumes nothing.
use lib.Ieee.{of_bits}
use Rattle.pins.specs.Pins.{tenths}
use Rattle.pins.proofs.analog_level.Goals as goal

pub returns-then-v-vcc : goal.returns-then-v-vcc
unfolding of_bits tenths
returns-then-v-vcc c = simp c.if-v-vcc.true

pub returns-then-v-vcc-2 : goal.returns-then-v-vcc-2
unfolding of_bits tenths
returns-then-v-vcc-2 c = simp (c.if-v-vcc.false, c.if-v-vcc-2.true)

pub returns-else-v-vcc-2 : goal.returns-else-v-vcc-2
unfolding of_bits tenths
returns-else-v-vcc-2 c = simp (c.if-v-vcc.false, c.if-v-vcc-2.false)
