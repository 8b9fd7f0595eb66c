-- The first digit of a byte is what is left of it.
use Prim.Native.Nat.{◌/◌, ◌%◌}
use mathlib.Core.Path.{◌≡◌}
use native.Mathlib.Omega.{arith}
use borrow.Author.Rules.{rules}
use Rattle.page.specs.Page.{pair}
use Rattle.page.proofs.Sheets.{then}
use Rattle.page.proofs.Page.two.Goals as goal

pub returns : goal.returns
unfolding pair
returns c =
    let b = c.args.b in
    let e : b / 16 % 16 ≡ b / 16 = omega arith in
    rw (e, ← c.glyph.ensures, ← c.glyph-2.ensures) (then c.byte.ensures c.byte-2.ensures)
