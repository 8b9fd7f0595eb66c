use mathlib.Core.Path.{refl}
use Rattle.serving.specs.Looking.{work_of}
use Rattle.serving.proofs.looking.works.Goals as goal

pub returns-in-Advance : goal.returns-in-Advance
unfolding work_of
returns-in-Advance c = rw (c.yielding.ensures, c.in-Advance.is) refl

pub returns-in-Next : goal.returns-in-Next
unfolding work_of
returns-in-Next c = rw (c.nexts.ensures, c.in-Next.is) refl

pub returns-in-Read : goal.returns-in-Read
unfolding work_of
returns-in-Read c = rw (c.reads.ensures, c.place.ensures, c.in-Read.is) refl

pub returns-in-Peek : goal.returns-in-Peek
unfolding work_of
returns-in-Peek c = rw (c.yielding-in-Peek.ensures, c.peek.ensures, c.place-in-Peek.ensures, c.in-Peek.is) refl

pub returns-in-Write : goal.returns-in-Write
unfolding work_of
returns-in-Write c = rw (c.yielding-in-Write.ensures, c.in-Write.is) refl

pub returns-in-Tifr : goal.returns-in-Tifr
unfolding work_of
returns-in-Tifr c = rw (c.yielding-in-Tifr.ensures, c.in-Tifr.is) refl

pub returns-in-Timsk : goal.returns-in-Timsk
unfolding work_of
returns-in-Timsk c = rw (c.yielding-in-Timsk.ensures, c.in-Timsk.is) refl

pub returns-in-WriteTifr : goal.returns-in-WriteTifr
unfolding work_of
returns-in-WriteTifr c = rw (c.flagged.ensures, c.in-WriteTifr.is) refl

pub returns-in-WriteTimsk : goal.returns-in-WriteTimsk
unfolding work_of
returns-in-WriteTimsk c = rw (c.flagged-in-WriteTimsk.ensures, c.in-WriteTimsk.is) refl

pub returns-in-Edge : goal.returns-in-Edge
unfolding work_of
returns-in-Edge c = rw (c.yielding-in-Edge.ensures, c.in-Edge.is) refl

pub returns-in-Output : goal.returns-in-Output
unfolding work_of
returns-in-Output c = rw (c.yielding-in-Output.ensures, c.in-Output.is) refl

pub returns-in-Route : goal.returns-in-Route
unfolding work_of
returns-in-Route c = rw (c.routes.ensures, c.in-Route.is) refl

pub returns-in-Sleep : goal.returns-in-Sleep
unfolding work_of
returns-in-Sleep c = rw (c.yielding-in-Sleep.ensures, c.in-Sleep.is) refl

pub returns-in-Wake : goal.returns-in-Wake
unfolding work_of
returns-in-Wake c = rw (c.yielding-in-Wake.ensures, c.in-Wake.is) refl

pub returns-in-Reduce : goal.returns-in-Reduce
unfolding work_of
returns-in-Reduce c = rw (c.yielding-in-Reduce.ensures, c.in-Reduce.is) refl

pub returns-in-Tsm : goal.returns-in-Tsm
unfolding work_of
returns-in-Tsm c = rw (c.yielding-in-Tsm.ensures, c.in-Tsm.is) refl

pub returns-in-Prescale : goal.returns-in-Prescale
unfolding work_of
returns-in-Prescale c = rw (c.yielding-in-Prescale.ensures, c.in-Prescale.is) refl

pub returns-in-Reset : goal.returns-in-Reset
unfolding work_of
returns-in-Reset c = rw (c.yielding-in-Reset.ensures, c.in-Reset.is) refl
