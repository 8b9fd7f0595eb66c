-- The shape of a held timer that the library names is the one in the logic's memory.
use mathlib.Core.Path.{◌≡◌, refl}
use prog.Memory.{size, align}
use Rattle.held.proofs.state.Held.TheLaws as held
use Rattle.replies.specs.Shapes.{shape}

pub held-size : size held.mir ≡ shape.size
held-size = refl

pub held-align : align held.mir ≡ shape.align
held-align = refl
