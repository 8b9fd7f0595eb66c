-- The longer names, which the search reads no further than a few bytes.
use Rattle.std.proofs.Common.{arith, rules}
use Rattle.std.proofs.lemmas.Slice.Eq.{text_from_reads}
use Rattle.figures.specs.Figures.{codes}
use Rattle.board_lines.specs.Asked.{named_of}
use Rattle.board_lines.proofs.asked.named.Goals as goal

pub returns-in-route : goal.returns-in-route
unfolding codes named_of
returns-in-route c = rw (text_from_reads c.args.word.now (codes "route" 5) (omega arith) (search rules))

pub returns-in-timsk : goal.returns-in-timsk
unfolding codes named_of
returns-in-timsk c = rw (text_from_reads c.args.word.now (codes "timsk" 5) (omega arith) (search rules))

pub returns-in-acout : goal.returns-in-acout
unfolding codes named_of
returns-in-acout c = rw (text_from_reads c.args.word.now (codes "acout" 5) (omega arith) (search rules))

pub returns-in-wtifr : goal.returns-in-wtifr
unfolding codes named_of
returns-in-wtifr c = rw (text_from_reads c.args.word.now (codes "wtifr" 5) (omega arith) (search rules))

pub returns-in-write : goal.returns-in-write
unfolding codes named_of
returns-in-write c = rw (text_from_reads c.args.word.now (codes "write" 5) (omega arith) (search rules))

pub returns-in-sleep : goal.returns-in-sleep
unfolding codes named_of
returns-in-sleep c = rw (text_from_reads c.args.word.now (codes "sleep" 5) (omega arith) (search rules))

pub returns-in-wtimsk : goal.returns-in-wtimsk
unfolding codes named_of
returns-in-wtimsk c = rw (text_from_reads c.args.word.now (codes "wtimsk" 6) (omega arith) (search rules))

pub returns-in-advance : goal.returns-in-advance
unfolding codes named_of
returns-in-advance c = rw (text_from_reads c.args.word.now (codes "advance" 7) (omega arith) (search rules))
