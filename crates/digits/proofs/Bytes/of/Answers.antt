-- The bytes stand at the start of the room for them.
use Rattle.std.proofs.lemmas.List.{length-replicate}
use Rattle.std.proofs.lemmas.Result.{err_from_is_err_and}
use Rattle.digits.proofs.Storing.{of_read, of_unread}
use Rattle.digits.proofs.Bytes.of.Goals as goal

pub returns-in_err-len : goal.returns-in_err-len
returns-in_err-len g c =
    let p = err_from_is_err_and c.from_residual.result c.from_residual.ensures.1 in
    rw (p.1, p.2) (tt, of_unread c.args.line.now _ _ c.args.at g.row.N (length-replicate _ _) _ (rw c.in_err-len.was at c.bytes.ensures))

pub returns : goal.returns
returns g c = of_read c.args.line.now _ _ c.args.at g.row.N (length-replicate _ _) _ (rw c.in_ok-len.was at c.bytes.ensures)
