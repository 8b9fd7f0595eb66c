use Rattle.aims.proofs.at.Goals as goal

pub returns-in-Gtccr : goal.returns-in-Gtccr
returns-in-Gtccr c = rw c.in-Gtccr.is

pub returns-in-Tifr : goal.returns-in-Tifr
returns-in-Tifr c = rw c.in-Tifr.is

pub returns-in-Timsk : goal.returns-in-Timsk
returns-in-Timsk c = rw c.in-Timsk.is

pub returns-in-Register : goal.returns-in-Register
returns-in-Register c = rw c.in-Register.is

pub returns-in-Nowhere : goal.returns-in-Nowhere
returns-in-Nowhere c = rw c.in-Nowhere.is
