-- The digits are put from a line of their own.
use Rattle.page.proofs.Sheets.{then, number-length}
use Rattle.figures.proofs.Writing.{wrote-read, number-decimal}
use lib.ListN.{length-take}
use native.Mathlib.Omega.{arith}
use borrow.Author.Rules.{rules}
use Rattle.page.proofs.Page.number.Goals as goal

pub number-k-requires : goal.number-k-requires
number-k-requires c = omega (arith, number-length c.args.n (search rules))

pub slice_bounds-digits-end : goal.slice_bounds-digits-end
slice_bounds-digits-end c = omega (arith, c.number-k.auto.out, number-length c.args.n (search rules))

pub slice_bounds-text-end : goal.slice_bounds-text-end
slice_bounds-text-end c = simp length-take (omega (arith, c.number-k.auto.out, number-length c.args.n (search rules)))

pub returns : goal.returns
returns c =
    let number = c.number-k in
    let r = wrote-read number.ensures (omega (arith, number-length c.args.n (search rules))) in
    rw (← number-decimal c.args.n (search rules), ← r) (then c.text.ensures c.text-2.ensures)
