use Rattle.scene.specs.Scene.{raised_at}
use Rattle.std.proofs.Common.{◌≡◌, cond, eqb}
use Rattle.scene.proofs.state.Scene.raised.Goals as goal
use Rattle.scene.proofs.state.Scene.raised.Goals.{then-self, else-self}

pub returns : goal.returns
unfolding raised_at
returns c =
    let over-is : c.if-self.over ≡ cond c.args.self.fast (eqb c.args.count c.args.top) (eqb c.args.count c.args.self.max) =
    elim c.if-self.branch [ then-self w ↦ rw w.if-self.true w.over-is | else-self w ↦ rw w.if-self.false w.over-is ] in
    simp (c.masked.ensures, c.masked-2.ensures, c.masked-3.ensures, c.masked-4.ensures, c.masked-5.ensures, over-is)
