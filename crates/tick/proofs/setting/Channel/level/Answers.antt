use native.Mathlib.Omega.{arith}
use borrow.Author.Tests.{ne_eqb, le-leb, lt-leb}
use Rattle.tick.specs.Outputs.{level_of}
use Rattle.tick.proofs.setting.Channel.level.Goals as goal

pub returns-in-1 : goal.returns-in-1
unfolding level_of
returns-in-1 c = simp (c.in-1.is, c.bit.ensures.0)

pub returns-in-0-to-2 : goal.returns-in-0-to-2
unfolding level_of
returns-in-0-to-2 c = simp (c.bit-in-0-to-2.ensures.0, ne_eqb _ _ c.in_default.in_default-own.rest.1, le-leb c.args.kind 2 (omega arith))

pub returns-in_default-kind : goal.returns-in_default-kind
unfolding level_of
returns-in_default-kind c = simp (c.bit-in_default-kind.ensures.0, ne_eqb _ _ c.in_default.in_default-own.rest.1, lt-leb c.args.kind 2 (omega arith))
