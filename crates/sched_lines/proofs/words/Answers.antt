-- The longer names, which the search reads no further than a few bytes.
use Rattle.std.proofs.Common.{arith, rules}
use Rattle.std.proofs.lemmas.Slice.Eq.{text_from_reads}
use Rattle.figures.specs.Figures.{codes}
use Rattle.words.specs.Words.{and_then}
use Rattle.sched_lines.specs.Sched.{words_of}
use Rattle.sched_lines.proofs.words.Goals as goal

pub returns-in_err-exactly-in-cancel : goal.returns-in_err-exactly-in-cancel
unfolding codes words_of and_then
returns-in_err-exactly-in-cancel c = rw (text_from_reads c.args.name.now (codes "cancel" 6) (omega arith) (search rules)) (search rules)

pub returns-in_err-key-in-cancel : goal.returns-in_err-key-in-cancel
unfolding codes words_of and_then
returns-in_err-key-in-cancel c = rw (text_from_reads c.args.name.now (codes "cancel" 6) (omega arith) (search rules)) (search rules)

pub returns-in_ok-key-in-cancel : goal.returns-in_ok-key-in-cancel
unfolding codes words_of and_then
returns-in_ok-key-in-cancel c = rw (text_from_reads c.args.name.now (codes "cancel" 6) (omega arith) (search rules)) (search rules)

pub returns-in_ok-exactly-in-clear : goal.returns-in_ok-exactly-in-clear
unfolding codes words_of and_then
returns-in_ok-exactly-in-clear c = rw (text_from_reads c.args.name.now (codes "clear" 5) (omega arith) (search rules)) (search rules)
