use mathlib.Core.Path.{sym}
use native.Mathlib.Omega.{arith}
use Rattle.counter.proofs.Bounds.{sync-divides, sync-undivided, timer2-divides}
use Rattle.counter.proofs.state.Timer.divisor_at.Goals as goal

pub returns-in-0-to-5 : goal.returns-in-0-to-5
returns-in-0-to-5 c = rw c.in-0.is (sym (sync-divides c.args.select (omega arith)))

pub returns-in_default-select : goal.returns-in_default-select
returns-in_default-select c = rw c.in-0.is (sym (sync-undivided c.args.select (omega arith) (omega arith)))

pub returns-in_default : goal.returns-in_default
returns-in_default c = sym (timer2-divides c.args.clocks c.args.select c.in_default.in_default-own.rest.1)
