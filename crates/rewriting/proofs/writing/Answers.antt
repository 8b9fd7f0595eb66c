use Prim.Native.Nat.{ℕ, ◌≤◌}
use native.Mathlib.Omega.{arith}
use mathlib.Core.Path.{◌≡◌, subst}
use Rattle.held.specs.declared.state.Held.{Held}
use Rattle.rewriting.specs.Writing.{Takes}
use Rattle.rewriting.proofs.writing.Goals as goal

last : {h : Held} {place cycle : ℕ} → Takes h place cycle → 12 ≤ place → place ≡ 12
last t l = let m = t.there in omega arith

pub committing-requires : goal.committing-requires
committing-requires c = (c.requires.0, c.requires.1, c.if-place-lt10.true)

pub returns-then-place-lt10 : goal.returns-then-place-lt10
returns-then-place-lt10 c = c.committing.ensures

pub controlling-requires : goal.controlling-requires
controlling-requires c = (c.requires.0, c.requires.1, c.if-place-lt10.false, c.if-place-lt12.true)

pub returns-then-place-lt12 : goal.returns-then-place-lt12
returns-then-place-lt12 c = c.controlling.ensures

pub forcing-requires : goal.forcing-requires
forcing-requires c = (c.requires.0, subst (λ (n : ℕ). Takes c.args.h n c.args.cycle) (last c.requires.1 c.if-place-lt12.false) c.requires.1)

pub returns : goal.returns
returns c = rw (last c.requires.1 c.if-place-lt12.false) c.forcing.ensures
