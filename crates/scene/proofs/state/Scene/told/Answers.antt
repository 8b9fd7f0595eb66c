use Rattle.scene.proofs.Told.{told_none, told-put}
use Rattle.tick.proofs.Ticks.{also-most}
use Rattle.std.proofs.Common.{arith, eq-eqb, ne_eqb}
use Rattle.scene.proofs.state.Scene.told.Goals as goal

pub returns-then-up-eq0 : goal.returns-then-up-eq0
returns-then-up-eq0 c = told_none _ _ _ _ _ _ (eq-eqb _ _ c.if-up-eq0.true)

pub also-second-requires : goal.also-second-requires
also-second-requires c = omega (arith, also-most _ _ c.on.result _ c.also-first.ensures.0)

pub also-third-requires : goal.also-third-requires
also-third-requires c = omega (arith, c.requires, also-most _ _ c.on.result _ c.also-first.ensures.0, also-most _ _ c.on-2.result _ c.also-second.ensures.0)

pub also-requires : goal.also-requires
also-requires c = omega (arith, c.requires, c.put-flagged.ensures.0, c.area-1.given, also-most _ _ c.on.result _ c.also-first.ensures.0, also-most _ _ c.on-2.result _ c.also-second.ensures.0, also-most _ _ c.on-3.result _ c.also-third.ensures.0)

pub returns : goal.returns
returns c = told-put _ _ _ _ _ _ (ne_eqb _ _ c.if-up-eq0.false) c.lines.ensures c.trigger_entry.ensures c.trigger_entry-2.ensures c.trigger_entry-3.ensures c.trigger_entry-4.ensures c.put-flagged.ensures (rw c.on.ensures at c.also-first.ensures) (rw c.on-2.ensures at c.also-second.ensures) (rw c.on-3.ensures at c.also-third.ensures) (rw c.on-4.ensures at c.also.ensures)
