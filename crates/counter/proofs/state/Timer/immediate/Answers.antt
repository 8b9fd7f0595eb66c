use Rattle.counter.specs.Registers.{immediate}
use Rattle.counter.proofs.state.Timer.immediate.Goals as goal

pub returns : goal.returns
unfolding immediate
returns c = simp (c.non_pwm.ensures, c.kind_at.ensures, c.mode.ensures.0)
