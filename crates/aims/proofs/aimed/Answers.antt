use Rattle.aims.specs.Aims.{aim_of}
use Rattle.aims.proofs.aimed.Goals as goal

pub returns-in-Advance : goal.returns-in-Advance
unfolding aim_of
returns-in-Advance c = rw c.in-Advance.is

pub returns-in-Next : goal.returns-in-Next
unfolding aim_of
returns-in-Next c = rw c.in-Next.is

pub returns-in-Reset : goal.returns-in-Reset
unfolding aim_of
returns-in-Reset c = rw c.in-Reset.is

pub returns-in-Edge : goal.returns-in-Edge
unfolding aim_of
returns-in-Edge c = rw c.in-Edge.is

pub returns-in-Route : goal.returns-in-Route
unfolding aim_of
returns-in-Route c = rw c.in-Route.is

pub returns-in-Output : goal.returns-in-Output
unfolding aim_of
returns-in-Output c = rw c.in-Output.is

pub returns-in-Read : goal.returns-in-Read
unfolding aim_of
returns-in-Read c = rw c.in-Read.is (rw c.placed.ensures at c.looked.ensures)

pub returns-in-Peek : goal.returns-in-Peek
unfolding aim_of
returns-in-Peek c = rw c.in-Peek.is (rw c.placed-in-Peek.ensures at c.looked-in-Peek.ensures)

pub returns-in-Write : goal.returns-in-Write
unfolding aim_of
returns-in-Write c = rw c.in-Write.is (rw c.placed-in-Write.ensures at c.written.ensures)

pub returns-in-Sleep : goal.returns-in-Sleep
unfolding aim_of
returns-in-Sleep c = rw c.in-Sleep.is

pub returns-in-Wake : goal.returns-in-Wake
unfolding aim_of
returns-in-Wake c = rw c.in-Wake.is

pub returns-in-Reduce : goal.returns-in-Reduce
unfolding aim_of
returns-in-Reduce c = rw c.in-Reduce.is

pub returns-in-Tifr : goal.returns-in-Tifr
unfolding aim_of
returns-in-Tifr c = rw c.in-Tifr.is

pub returns-in-Timsk : goal.returns-in-Timsk
unfolding aim_of
returns-in-Timsk c = rw c.in-Timsk.is

pub returns-in-WriteTifr : goal.returns-in-WriteTifr
unfolding aim_of
returns-in-WriteTifr c = rw c.in-WriteTifr.is

pub returns-in-WriteTimsk : goal.returns-in-WriteTimsk
unfolding aim_of
returns-in-WriteTimsk c = rw c.in-WriteTimsk.is
