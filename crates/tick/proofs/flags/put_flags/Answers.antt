use native.Mathlib.Omega.{arith}
use Rattle.tick.proofs.Ticks.{also-most, flags-none, flags-put}
use Rattle.tick.proofs.flags.put_flags.Goals as goal

pub also-second-requires : goal.also-second-requires
also-second-requires c = omega (arith, also-most _ _ c.args.e.a _ c.also-first.ensures.0)

pub also-third-requires : goal.also-third-requires
also-third-requires c = omega (arith, c.requires, also-most _ _ c.args.e.a _ c.also-first.ensures.0, also-most _ _ c.args.e.b _ c.also-second.ensures.0)

pub also-requires : goal.also-requires
also-requires c = omega (arith, c.requires, c.put-flagged.ensures.0, c.area-1.given, also-most _ _ c.args.e.a _ c.also-first.ensures.0, also-most _ _ c.args.e.b _ c.also-second.ensures.0, also-most _ _ c.args.e.overflow _ c.also-third.ensures.0)

pub shape_of-area : goal.shape_of-area
shape_of-area c = omega (arith, c.area-1.given)

pub returns-then-e : goal.returns-then-e
returns-then-e c = flags-put _ _ _ _ _ _ c.if-e.true c.trigger_entry.ensures c.trigger_entry-then-e.ensures c.trigger_entry-then-e-2.ensures c.trigger_entry-then-e-3.ensures c.put-flagged.ensures c.also-first.ensures c.also-second.ensures c.also-third.ensures c.also.ensures

pub returns-else-e : goal.returns-else-e
returns-else-e c = flags-none _ _ _ _ _ _ c.if-e.false
