use Rattle.std.proofs.Common.{◌<◌, le_refl, rules}
use Rattle.wave.specs.Distance.{space, gap, looked}
use Rattle.wave.proofs.Searches.{space-reach}
use Rattle.wave.proofs.kinds.Wave.search.Goals as goal

pub seek-requires : goal.seek-requires
unfolding space
seek-requires c = simp (c.space-all.ensures, c.if-down.true) (le_refl _)

pub seek-requires-else-down : goal.seek-requires-else-down
seek-requires-else-down c =
    let x = c.args in
    let t : c.top.result < 4294967296 = search rules in
    let m : x.self.max < 4294967296 = search rules in
    rw (c.space-all.ensures, c.if-down.false) (space-reach x.counter.count c.top.result x.self.max c.requires t m)

pub returns-then-down : goal.returns-then-down
unfolding gap looked
returns-then-down c = simp (c.seek.ensures, c.space-all.ensures, c.top.ensures, ← c.falls-down.ensures, c.if-down.true)

pub returns-else-down : goal.returns-else-down
unfolding gap looked
returns-else-down c = simp (c.seek-else-down.ensures, c.space-all.ensures, c.top.ensures, ← c.falls-down.ensures, c.if-down.false)
