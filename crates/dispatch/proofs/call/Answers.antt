use Rattle.dispatch.proofs.call.Goals as goal

pub advance-requires : goal.advance-requires
advance-requires c = c.requires

pub next-requires : goal.next-requires
next-requires c = c.requires

pub read-requires : goal.read-requires
read-requires c = c.requires

pub peek-requires : goal.peek-requires
peek-requires c = c.requires

pub write-requires : goal.write-requires
write-requires c = c.requires

pub tifr-requires : goal.tifr-requires
tifr-requires c = c.requires

pub timsk-requires : goal.timsk-requires
timsk-requires c = c.requires

pub write_tifr-requires : goal.write_tifr-requires
write_tifr-requires c = c.requires

pub write_timsk-requires : goal.write_timsk-requires
write_timsk-requires c = c.requires

pub edge-requires : goal.edge-requires
edge-requires c = c.requires

pub output-requires : goal.output-requires
output-requires c = c.requires

pub route-requires : goal.route-requires
route-requires c = c.requires

pub sleep-requires : goal.sleep-requires
sleep-requires c = c.requires

pub wake-requires : goal.wake-requires
wake-requires c = c.requires

pub reduce-requires : goal.reduce-requires
reduce-requires c = c.requires

pub tsm-requires : goal.tsm-requires
tsm-requires c = c.requires

pub prescale-requires : goal.prescale-requires
prescale-requires c = c.requires

pub reset-requires : goal.reset-requires
reset-requires c = c.requires

pub returns-in-Advance : goal.returns-in-Advance
returns-in-Advance c = rw c.in-Advance.is c.advance.ensures

pub returns-in-Next : goal.returns-in-Next
returns-in-Next c = rw c.in-Next.is c.next.ensures

pub returns-in-Read : goal.returns-in-Read
returns-in-Read c = rw c.in-Read.is c.read.ensures

pub returns-in-Peek : goal.returns-in-Peek
returns-in-Peek c = rw c.in-Peek.is c.peek.ensures

pub returns-in-Write : goal.returns-in-Write
returns-in-Write c = rw c.in-Write.is c.write.ensures

pub returns-in-Tifr : goal.returns-in-Tifr
returns-in-Tifr c = rw c.in-Tifr.is c.tifr.ensures

pub returns-in-Timsk : goal.returns-in-Timsk
returns-in-Timsk c = rw c.in-Timsk.is c.timsk.ensures

pub returns-in-WriteTifr : goal.returns-in-WriteTifr
returns-in-WriteTifr c = rw c.in-WriteTifr.is c.write_tifr.ensures

pub returns-in-WriteTimsk : goal.returns-in-WriteTimsk
returns-in-WriteTimsk c = rw c.in-WriteTimsk.is c.write_timsk.ensures

pub returns-in-Edge : goal.returns-in-Edge
returns-in-Edge c = rw c.in-Edge.is c.edge.ensures

pub returns-in-Output : goal.returns-in-Output
returns-in-Output c = rw c.in-Output.is c.output.ensures

pub returns-in-Route : goal.returns-in-Route
returns-in-Route c = rw c.in-Route.is c.route.ensures

pub returns-in-Sleep : goal.returns-in-Sleep
returns-in-Sleep c = rw c.in-Sleep.is c.sleep.ensures

pub returns-in-Wake : goal.returns-in-Wake
returns-in-Wake c = rw c.in-Wake.is c.wake.ensures

pub returns-in-Reduce : goal.returns-in-Reduce
returns-in-Reduce c = rw c.in-Reduce.is c.reduce.ensures

pub returns-in-Tsm : goal.returns-in-Tsm
returns-in-Tsm c = rw c.in-Tsm.is c.tsm.ensures

pub returns-in-Prescale : goal.returns-in-Prescale
returns-in-Prescale c = rw c.in-Prescale.is c.prescale.ensures

pub returns-in-Reset : goal.returns-in-Reset
returns-in-Reset c = rw c.in-Reset.is c.reset.ensures
