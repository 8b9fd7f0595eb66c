use Rattle.std.proofs.Common.{◌<◌, arith}
use Rattle.coming.proofs.Ways.{space-moves, space-short}
use Rattle.coming.proofs.coming.Goals as goal

pub gap-n-requires : goal.gap-n-requires
gap-n-requires c = (c.requires.count, c.requires.under, c.requires.most)

pub overflow_add-result : goal.overflow_add-result
overflow_add-result c = let short : c.gap-n.result < 65536 = let x = c.args in let p = c.requires in space-short x.down x.counter.count x.top x.s.max c.gap-n.result p.count p.under p.most c.gap-n.ensures.1 in record { fits = omega (arith, short) }

pub moved-requires : goal.moved-requires
moved-requires c = let x = c.args in let p = c.requires in space-moves x.down x.counter.count x.top x.s.max c.gap-n.result p.count p.under p.most c.gap-n.ensures.1

pub returns : goal.returns
returns c = rw (c.bits.ensures, c.moved.ensures, c.gap-n.ensures.0)
