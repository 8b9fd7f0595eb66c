use Rattle.scene.proofs.state.drives.Goals as goal

pub returns : goal.returns
returns c = simp c.acts_at_bottom.ensures
