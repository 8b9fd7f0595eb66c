use Rattle.m328p.proofs.Owners.{told_of}
use Rattle.m328p.specs.Places.{register_at}
use Rattle.m328p.proofs.register.Goals as goal

pub returns-then-is_of : goal.returns-then-is_of
unfolding register_at
returns-then-is_of c = simp (told_of _ c.timer0.ensures c.is_of.ensures c.if-is_of.true)

pub returns-then-is_of-2 : goal.returns-then-is_of-2
unfolding register_at
returns-then-is_of-2 c = simp (told_of _ c.timer0.ensures c.is_of.ensures c.if-is_of.false, told_of _ c.timer1.ensures c.is_of-2.ensures c.if-is_of-2.true)

pub returns-then-is_of-3 : goal.returns-then-is_of-3
unfolding register_at
returns-then-is_of-3 c = simp (told_of _ c.timer0.ensures c.is_of.ensures c.if-is_of.false, told_of _ c.timer1.ensures c.is_of-2.ensures c.if-is_of-2.false, told_of _ c.timer2.ensures c.is_of-3.ensures c.if-is_of-3.true)

pub returns : goal.returns
unfolding register_at
returns c = simp (told_of _ c.timer0.ensures c.is_of.ensures c.if-is_of.false, told_of _ c.timer1.ensures c.is_of-2.ensures c.if-is_of-2.false, told_of _ c.timer2.ensures c.is_of-3.ensures c.if-is_of-3.false)
