-- A full page takes no more.
use native.Mathlib.Omega.{arith}
use borrow.Author.Rules.{rules}
use mathlib.Core.Path.{◌≡◌}
use lib.ListN.{length, take}
use lib.Seq.{length-take-le}
use Rattle.page.proofs.Packing.{put_kept}
use Rattle.page.proofs.Sheets.{put_full, put_at}
use Rattle.page.proofs.Page.byte.Goals as goal

pub invariant_of-self : goal.invariant_of-self
invariant_of-self c = put_kept c.self.inside.bytes c.self.inside.len c.args.b (search rules) c.if-self-lt-SIZE.true c.self.invariant.behind

pub returns-then-self-lt-SIZE : goal.returns-then-self-lt-SIZE
returns-then-self-lt-SIZE c = rw (← c.self.view_is) (put_at c.self.inside.bytes c.self.inside.len c.args.b (search rules) c.if-self-lt-SIZE.true)

pub returns-else-self-lt-SIZE : goal.returns-else-self-lt-SIZE
returns-else-self-lt-SIZE c =
    let n : length (take c.self.inside.len c.self.inside.bytes) ≡ c.self.inside.len = length-take-le c.self.inside.len c.self.inside.bytes (search rules) in
    rw (← c.self.view_is) (put_full (take c.self.inside.len c.self.inside.bytes) c.args.b (omega (arith, n, c.if-self-lt-SIZE.false)))
