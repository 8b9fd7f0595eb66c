use Rattle.std.proofs.Common.{◌<◌, ◌∙◌, rules}
use Rattle.wave.proofs.Searches.{nearer-falling, nearer-rising}
use Rattle.wave.proofs.distance.nearer.Goals as goal
use Rattle.wave.proofs.distance.nearer.Goals.{then-down, else-down}

pub returns : goal.returns
returns c =
    let x = c.args in
    let f = c.ranges in
    let p = c.requires in
    c.smaller.ensures
    ∙ elim c.if-down.branch [
      | then-down w ↦ let v = w.wrapping_sub_u32-way in let l : v.result < 4294967296 = search rules in rw (w.if-down.true, w.way'-is) (nearer-falling x.count x.compare v.result x.gap f.count.fits f.compare.fits l v.ensures.value (rw w.if-down.true at p))
      | else-down w ↦ let v = w.wrapping_sub_u32-way-else-down in let l : v.result < 4294967296 = search rules in rw (w.if-down.false, w.way'-is) (nearer-rising x.count x.compare v.result x.gap f.count.fits f.compare.fits l v.ensures.value (rw w.if-down.false at p))
    ]
