use native.Mathlib.Omega.{arith}
use Rattle.wave.proofs.Signs.{turn-back}
use Rattle.held.specs.Quick.{ticks_to, stilled}
use Rattle.held.proofs.Passes.{ticks-fit, div_mono}
use Rattle.held.proofs.quick.stilling.Goals as goal

pub overflow_sub-ticks-3 : goal.overflow_sub-ticks-3
overflow_sub-ticks-3 c =
    let l = c.requires.later in
    div_mono _ _ c.args.shift (omega arith)

pub overflow_cast-n : goal.overflow_cast-n
unfolding ticks_to
overflow_cast-n c = record { fits = ticks-fit c.requires }

pub moved-requires : goal.moved-requires
unfolding ticks_to
moved-requires c = c.requires.room

pub returns : goal.returns
unfolding ticks_to stilled
returns c = simp (c.moved.ensures, c.counted.ensures, turn-back c.requires.turns)
