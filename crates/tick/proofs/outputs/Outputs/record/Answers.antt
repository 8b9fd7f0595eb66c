use native.Mathlib.Omega.{arith}
use Rattle.tick.proofs.Writes.{wrote-same, wrote-new}
use Rattle.tick.proofs.outputs.Outputs.record.Goals as goal

pub returns-then-enables-ch : goal.returns-then-enables-ch
returns-then-enables-ch c = (wrote-same _ _ _ _ _ _ _ c.if-enables-ch.true, omega arith)

pub returns-else-enables-ch : goal.returns-else-enables-ch
returns-else-enables-ch c = (wrote-new _ _ _ _ _ _ _ c.if-enables-ch.false c.with-d.ensures c.pin_entry.ensures c.put-to.ensures, omega arith)
