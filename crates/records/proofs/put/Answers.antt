use Prim.Native.Nat.{◌<◌}
use borrow.Author.Rules.{rules}
use Rattle.records.specs.Records.{record_of}
use Rattle.records.proofs.Records.{turned_two}
use Rattle.records.proofs.put.Goals as goal

pub returns : goal.returns
unfolding record_of
returns c =
    let h : c.args.entry.body < 65536 = search rules in
    (c.laid.ensures.0, simp (c.swapped.ensures, turned_two c.args.entry.body h) at c.laid.ensures.1)
