use Rattle.std.proofs.Common.{◌≡◌, ◌&&◌, ◌==◌, false, arith, rules, ne_eqb}
use Rattle.wave.specs.Count.{next_count}
use Rattle.wave.proofs.Signs.{turn-back, turns-back}
use Rattle.wave.proofs.Steps.{step-sign, step_down, step-up}
use Rattle.wave.proofs.kinds.Wave.next_count.Goals as goal

pub step-step-requires : goal.step-step-requires
step-step-requires c = turns-back c.requires.2

pub stepped-requires : goal.stepped-requires
stepped-requires c = (omega arith, step_down c.step-step.ensures.1 ((step-sign c.args.self c.args.counter c.step-step.result c.requires.2 c.step-step.ensures.0 c.falls.ensures) c.if-falls.true) (omega arith))

pub stepped-requires-else-count-self : goal.stepped-requires-else-count-self
stepped-requires-else-count-self c = (omega arith, step-up c.step-step.ensures.1 ((step-sign c.args.self c.args.counter c.step-step.result c.requires.2 c.step-step.ensures.0 c.falls.ensures) c.if-falls.false))

pub returns-else-count-eq0 : goal.returns-else-count-eq0
unfolding next_count
returns-else-count-eq0 c = simp (c.stepped.ensures, turn-back c.step-step.ensures.1, (step-sign c.args.self c.args.counter c.step-step.result c.requires.2 c.step-step.ensures.0 c.falls.ensures) c.if-falls.true, ← c.falls.ensures, c.if-falls.true, ne_eqb _ _ c.if-count-eq0.false)

pub returns-else-count-self : goal.returns-else-count-self
unfolding next_count
returns-else-count-self c =
    let on : (c.ends_at_top.result && c.args.counter.count == c.args.top) ≡ false = search rules in
    simp (c.stepped-else-count-self.ensures, turn-back c.step-step.ensures.1, (step-sign c.args.self c.args.counter c.step-step.result c.requires.2 c.step-step.ensures.0 c.falls.ensures) c.if-falls.false, ← c.falls.ensures, c.if-falls.false, ← c.ends_at_top.ensures, on, ne_eqb _ _ c.if-count-self.false)
