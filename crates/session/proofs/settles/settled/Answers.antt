use Rattle.session.specs.Files.{settled_of}
use Rattle.session.proofs.settles.settled.Goals as goal

pub returns-in-Ok : goal.returns-in-Ok
unfolding settled_of
returns-in-Ok c = (c.requires.0, c.requires.1, λ was line old l one two eb es f h x. rw c.in-Ok.is x)

pub returns-in-Err : goal.returns-in-Err
returns-in-Err c = (c.failed.ensures.0, c.failed.ensures.1, λ was line old l one two eb es f h x. rw c.in-Err.is (c.failed.ensures.2 was line old l one two eb es f h x))
