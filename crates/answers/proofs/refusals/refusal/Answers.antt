use Rattle.answers.specs.Refusals.{refusal}
use borrow.Author.Tests.{ne_eqb}
use Rattle.answers.proofs.refusals.refusal.Goals as goal

pub is_due-requires : goal.is_due-requires
is_due-requires c = c.requires

pub returns-then-n-ne0 : goal.returns-then-n-ne0
unfolding refusal
returns-then-n-ne0 c = simp (← c.late-n.ensures, ne_eqb _ 0 c.if-n-ne0.true)

pub returns-then-absent : goal.returns-then-absent
unfolding refusal
returns-then-absent c = simp (← c.late-n.ensures, c.if-n-ne0.false, c.if-absent.true)

pub returns-then-wrong : goal.returns-then-wrong
unfolding refusal
returns-then-wrong c = simp (← c.late-n.ensures, c.if-n-ne0.false, c.if-absent.false, c.if-wrong.true)

pub returns-then-tested-is_due : goal.returns-then-tested-is_due
unfolding refusal
returns-then-tested-is_due c = simp (← c.late-n.ensures, c.if-n-ne0.false, c.if-absent.false, c.if-wrong.false, ← c.is_due.ensures, c.if-tested-is_due.true)

pub returns-then-halted : goal.returns-then-halted
unfolding refusal
returns-then-halted c = simp (← c.late-n.ensures, c.if-n-ne0.false, c.if-absent.false, c.if-wrong.false, ← c.is_due.ensures, c.if-tested-is_due.false, c.if-halted.true)

pub returns-else-halted : goal.returns-else-halted
unfolding refusal
returns-else-halted c = simp (← c.late-n.ensures, c.if-n-ne0.false, c.if-absent.false, c.if-wrong.false, ← c.is_due.ensures, c.if-tested-is_due.false, c.if-halted.false)
