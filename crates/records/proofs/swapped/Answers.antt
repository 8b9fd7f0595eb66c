use borrow.Author.Rules.{rules}
use Rattle.records.proofs.Records.{swapped-bytes}
use Rattle.records.proofs.swapped.Goals as goal

pub returns : goal.returns
returns c = swapped-bytes c.args.c
