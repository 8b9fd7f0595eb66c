use Rattle.records.proofs.Bytes.{eight-bytes}
use native.Mathlib.Omega.{arith}
use borrow.Author.Rules.{rules}
use Rattle.records.proofs.numbers.eight.Goals as goal

pub returns : goal.returns
returns c =
    let start = c.before.before.before.before.before.before.before.before.before in
    let e = eight-bytes start.args.bytes.now start.args.at start.requires in
    (omega arith, omega arith)
