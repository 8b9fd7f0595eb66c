use Rattle.counter.proofs.state.Timer.accepted.Goals as goal

pub returns : goal.returns
returns c = simp (c.with_clock.ensures, c.accepted.ensures)
