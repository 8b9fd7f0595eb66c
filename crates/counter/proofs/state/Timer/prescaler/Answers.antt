use Rattle.counter.proofs.state.Timer.prescaler.Goals as goal

pub returns : goal.returns
returns c = simp c.divisor.ensures
