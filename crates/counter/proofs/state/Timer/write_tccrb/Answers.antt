use mathlib.Core.Path.{◌≡◌}
use lib.Bits.{bit_and}
use Rattle.counter.specs.Registers.{stored_b, written_b}
use Rattle.counter.proofs.state.Timer.write_tccrb.Goals as goal

pub returns-then-config : goal.returns-then-config
unfolding stored_b written_b
returns-then-config c = let e : stored_b c.args.self.config c.args.value ≡ bit_and c.args.value 0xDF = simp c.if-config.true in rw (e, ← c.strobes-forces.ensures, ← c.configured.ensures) c.driven.ensures

pub returns-else-config : goal.returns-else-config
unfolding stored_b written_b
returns-else-config c = let e : stored_b c.args.self.config c.args.value ≡ bit_and c.args.value 0x0F = simp c.if-config.false in rw (e, ← c.strobes-forces.ensures, ← c.configured-else-config.ensures) c.driven-else-config.ensures
