use mathlib.Core.Path.{refl}
use native.Mathlib.Omega.{arith}
use borrow.Author.Rules.{rules}
use Rattle.records.specs.Records.{records_of}
use Rattle.records.proofs.Records.{record-length, records-one}
use Rattle.records.proofs.also.Goals as goal

pub returns-then-wanted : goal.returns-then-wanted
returns-then-wanted c = simp (c.if-wanted.true, records-one, record-length) c.put.ensures

pub returns-else-wanted : goal.returns-else-wanted
unfolding records_of
returns-else-wanted c = simp c.if-wanted.false (omega arith, refl)
