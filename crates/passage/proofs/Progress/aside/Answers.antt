use Rattle.passage.proofs.Loops.{near-sound, event-sound, made}
use Rattle.passage.proofs.Progress.aside.Goals as goal

pub logged-t-requires : goal.logged-t-requires
logged-t-requires c = near-sound c.requires c.skip-near.ensures

pub gap-requires : goal.gap-requires
gap-requires c = (event-sound c.requires c.skip-near.ensures c.logged-t.ensures.moving).steady.count

pub returns : goal.returns
returns c = made c.requires c.skip-near.ensures c.cycle.ensures c.logged-t.ensures c.gap.ensures
