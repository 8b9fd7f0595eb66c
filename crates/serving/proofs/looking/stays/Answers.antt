use mathlib.Core.Path.{refl}
use Rattle.serving.specs.Looking.{stays_of}
use Rattle.serving.proofs.looking.stays.Goals as goal

pub returns-in-Advance : goal.returns-in-Advance
unfolding stays_of
returns-in-Advance c = rw c.in-Advance.is refl

pub returns-in-Next : goal.returns-in-Next
unfolding stays_of
returns-in-Next c = rw c.in-Next.is refl

pub returns-in-Read : goal.returns-in-Read
unfolding stays_of
returns-in-Read c = rw c.in-Read.is refl

pub returns-in-Peek : goal.returns-in-Peek
unfolding stays_of
returns-in-Peek c = rw c.in-Peek.is refl

pub returns-in-Write : goal.returns-in-Write
unfolding stays_of
returns-in-Write c = rw c.in-Write.is refl

pub returns-in-Tifr : goal.returns-in-Tifr
unfolding stays_of
returns-in-Tifr c = rw c.in-Tifr.is refl

pub returns-in-Timsk : goal.returns-in-Timsk
unfolding stays_of
returns-in-Timsk c = rw c.in-Timsk.is refl

pub returns-in-WriteTifr : goal.returns-in-WriteTifr
unfolding stays_of
returns-in-WriteTifr c = rw c.in-WriteTifr.is refl

pub returns-in-WriteTimsk : goal.returns-in-WriteTimsk
unfolding stays_of
returns-in-WriteTimsk c = rw c.in-WriteTimsk.is refl

pub returns-in-Edge : goal.returns-in-Edge
unfolding stays_of
returns-in-Edge c = rw (c.edge_ticks.ensures, c.in-Edge.is) refl

pub returns-in-Output : goal.returns-in-Output
unfolding stays_of
returns-in-Output c = rw c.in-Output.is refl

pub returns-in-Route : goal.returns-in-Route
unfolding stays_of
returns-in-Route c = rw c.in-Route.is refl

pub returns-in-Sleep : goal.returns-in-Sleep
unfolding stays_of
returns-in-Sleep c = rw c.in-Sleep.is refl

pub returns-in-Wake : goal.returns-in-Wake
unfolding stays_of
returns-in-Wake c = rw c.in-Wake.is refl

pub returns-in-Reduce : goal.returns-in-Reduce
unfolding stays_of
returns-in-Reduce c = rw c.in-Reduce.is refl

pub returns-in-Tsm : goal.returns-in-Tsm
unfolding stays_of
returns-in-Tsm c = rw c.in-Tsm.is refl

pub returns-in-Prescale : goal.returns-in-Prescale
unfolding stays_of
returns-in-Prescale c = rw c.in-Prescale.is refl

pub returns-in-Reset : goal.returns-in-Reset
unfolding stays_of
returns-in-Reset c = rw c.in-Reset.is refl
