use native.Mathlib.Omega.{arith}
use Rattle.tick.proofs.Ticks.{tick_is}
use Rattle.tick.proofs.setting.Setting.tick.Goals as goal

pub put_flags-to-requires : goal.put_flags-to-requires
put_flags-to-requires c = omega (arith, c.requires.1, c.outputs-outs.ensures.1, c.area-1.given)

pub next_count-requires : goal.next_count-requires
next_count-requires c = (c.requires.0.steady.count, c.requires.0.steady.most, c.requires.0.steady.turns)

pub returns : goal.returns
returns c = tick_is _ _ c.events-e.result _ _ _ c.requires.0.steady.turns c.top-top.ensures c.events-e.ensures c.raised-up.ensures c.outputs-outs.ensures (rw c.flag_entry.ensures at c.put_flags-to.ensures) c.next_count.ensures c.next_direction.ensures c.counted.ensures c.loaded-active.ensures
