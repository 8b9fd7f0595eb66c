use mathlib.Core.Path.{refl}
use Rattle.timer.specs.Calls.{asks, output_captures}
use Rattle.serving.proofs.asks.tests.Goals as goal

pub returns-in-Advance : goal.returns-in-Advance
unfolding asks output_captures
returns-in-Advance c = rw (c.still.ensures, c.in-Advance.is) refl

pub returns-in-Next : goal.returns-in-Next
unfolding asks output_captures
returns-in-Next c = rw (c.still-in-Next.ensures, c.in-Next.is) refl

pub returns-in-Read : goal.returns-in-Read
unfolding asks output_captures
returns-in-Read c = rw (c.reading.ensures, c.place.ensures, c.in-Read.is) refl

pub returns-in-Peek : goal.returns-in-Peek
unfolding asks output_captures
returns-in-Peek c = rw (c.placed.ensures, c.place-in-Peek.ensures, c.in-Peek.is) refl

pub returns-in-Write : goal.returns-in-Write
unfolding asks output_captures
returns-in-Write c = rw (c.writing.ensures, c.place-in-Write.ensures, c.in-Write.is) refl

pub returns-in-Tifr : goal.returns-in-Tifr
unfolding asks output_captures
returns-in-Tifr c = rw (c.still-in-Tifr.ensures, c.in-Tifr.is) refl

pub returns-in-Timsk : goal.returns-in-Timsk
unfolding asks output_captures
returns-in-Timsk c = rw (c.still-in-Timsk.ensures, c.in-Timsk.is) refl

pub returns-in-WriteTifr : goal.returns-in-WriteTifr
unfolding asks output_captures
returns-in-WriteTifr c = rw (c.still-in-WriteTifr.ensures, c.in-WriteTifr.is) refl

pub returns-in-WriteTimsk : goal.returns-in-WriteTimsk
unfolding asks output_captures
returns-in-WriteTimsk c = rw (c.still-in-WriteTimsk.ensures, c.in-WriteTimsk.is) refl

pub returns-in-Edge : goal.returns-in-Edge
unfolding asks output_captures
returns-in-Edge c = rw (c.turning.ensures, c.edge_captures.ensures, c.in-Edge.is) refl

pub returns-in-Output : goal.returns-in-Output
unfolding asks output_captures
returns-in-Output c = rw (c.turning-in-Output.ensures, c.captures-2.ensures, c.in-Output.is) refl

pub returns-in-Route : goal.returns-in-Route
unfolding asks output_captures
returns-in-Route c = rw (c.still-in-Route.ensures, c.in-Route.is) refl

pub returns-in-Sleep : goal.returns-in-Sleep
unfolding asks output_captures
returns-in-Sleep c = rw (c.shut_asleep.ensures, c.halts_in.ensures, c.in-Sleep.is) refl

pub returns-in-Wake : goal.returns-in-Wake
unfolding asks output_captures
returns-in-Wake c = rw (c.still-in-Wake.ensures, c.in-Wake.is) refl

pub returns-in-Reduce : goal.returns-in-Reduce
unfolding asks output_captures
returns-in-Reduce c = rw (c.turning-in-Reduce.ensures, c.in-Reduce.is) refl

pub returns-in-Tsm : goal.returns-in-Tsm
unfolding asks output_captures
returns-in-Tsm c = rw (c.shut_asleep-in-Tsm.ensures, c.in-Tsm.is) refl

pub returns-in-Prescale : goal.returns-in-Prescale
unfolding asks output_captures
returns-in-Prescale c = rw (c.shut_asleep-in-Prescale.ensures, c.in-Prescale.is) refl

pub returns-in-Reset : goal.returns-in-Reset
unfolding asks output_captures
returns-in-Reset c = rw (c.still-in-Reset.ensures, c.in-Reset.is) refl
