use mathlib.Core.Path.{sym}
use native.Mathlib.Omega.{arith}
use Rattle.counter.proofs.Bounds.{sync-unchosen, sync-falling, sync-rising, timer2-unchosen}
use Rattle.counter.proofs.state.Timer.chosen.Goals as goal

pub returns-in-0-to-5 : goal.returns-in-0-to-5
returns-in-0-to-5 c = rw c.in-0.is (sym (sync-unchosen c.args.select c.args.level (omega arith)))

pub returns-in-2048 : goal.returns-in-2048
returns-in-2048 c =
    rw c.in-0.is (sym (sync-falling c.args.select c.args.level c.in-2048.is))

pub returns-in_default-edge : goal.returns-in_default-edge
returns-in_default-edge c =
    rw c.in-0.is (sym (sync-rising c.args.select c.args.level (omega arith) (omega arith) c.in_default-edge.in_default-edge-own.rest.1))

pub returns-in_default : goal.returns-in_default
returns-in_default c = sym (timer2-unchosen c.args.clocks c.args.select c.in_default.in_default-own.rest.1 c.args.level)
