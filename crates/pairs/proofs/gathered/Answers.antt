-- `pairs::gathered` meets its contract. The loop's invariant: it takes a step for each of the line's words.
use Rattle.std.proofs.Common.{sym, rules}
use Rattle.pairs.specs.Pairs.{stepped}
use Rattle.pairs.proofs.Lines.{turns_first, turns_more, turns_stopped, turns_all, takes_ok, takes_err}
use Rattle.pairs.proofs.gathered.Goals as goal

pub loop-at-init : goal.loop-at-init
loop-at-init g c = turns_first (stepped g.K.Keyed.kept) c.args.line.now c.args.keys c.args.from c.skip-at.result c.skip-at.ensures.2

pub returns-in_err-step : goal.returns-in_err-step
returns-in_err-step g c =
    let e = turns_stopped (stepped g.K.Keyed.kept) c.args.line.now c.find-end.result c.in_err-step.field-0.0 c.loop-at.invariant c.loop-at-test.true c.find-end.ensures.2 (takes_err _ _ _ _ c.step.ensures c.in_err-step.was) in
    rw e (search rules)

pub loop-at-preserved : goal.loop-at-preserved
loop-at-preserved g c = turns_more (stepped g.K.Keyed.kept) c.args.line.now c.find-end.result c.skip-at-in-loop-at.result c.loop-at.invariant c.loop-at-test.true c.find-end.ensures.2 c.skip-at-in-loop-at.ensures.2 (takes_ok _ _ _ _ c.step.ensures c.in_ok-step.was)

pub returns : goal.returns
returns g c = sym (turns_all (stepped g.K.Keyed.kept) c.args.line.now c.loop-at.invariant c.loop-at-test.false)
