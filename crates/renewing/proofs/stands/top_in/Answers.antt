use Rattle.renewing.proofs.stands.top_in.Goals as goal

pub returns-then-follows : goal.returns-then-follows
returns-then-follows c = rw c.if-follows.true

pub returns-else-follows : goal.returns-else-follows
returns-else-follows c = rw c.if-follows.false
