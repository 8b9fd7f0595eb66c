use Rattle.casts.specs.Casts.{reached}
use Rattle.casts.proofs.reach.Goals as goal

pub returns-in-Sleep : goal.returns-in-Sleep
unfolding reached
returns-in-Sleep c = rw c.in-Sleep.is c.sleep.ensures

pub returns-in-Wake : goal.returns-in-Wake
unfolding reached
returns-in-Wake c = rw c.in-Wake.is c.wake.ensures

pub returns-in-Reduce : goal.returns-in-Reduce
unfolding reached
returns-in-Reduce c = rw c.in-Reduce.is c.reduce.ensures

pub returns-in-Prescale : goal.returns-in-Prescale
unfolding reached
returns-in-Prescale c = rw c.in-Prescale.is c.prescale.ensures

pub returns-in-Synchronise : goal.returns-in-Synchronise
unfolding reached
returns-in-Synchronise c = rw c.in-Synchronise.is c.synchronise.ensures
