use mathlib.Core.Path.{◌∙◌}
use Rattle.counter.specs.Modes.{wave_of}
use Rattle.counter.proofs.Clocks.{running-divides}
use Rattle.counter.proofs.Steps.{Parts, next-tick, next-is, next-cycle}
use Rattle.counter.proofs.state.Timer.next_cycle.Goals as goal

pub ticks-last-requires : goal.ticks-last-requires
ticks-last-requires c = rw c.prescaler-p.ensures (c.requires.0.origin, running-divides c.args.self c.requires.1)

pub gap-gap-requires : goal.gap-gap-requires
unfolding wave_of
gap-gap-requires c = rw c.wave_at-wave.ensures c.requires.0.count

pub overflow_add-last : goal.overflow_add-last
overflow_add-last c = let parts : Parts c.args.self c.prescaler-p.result c.ticks-last.result c.mode-mode.result c.wave_at-wave.result c.gap-gap.result = record { clock = c.prescaler-p.ensures; last = c.ticks-last.ensures; mode = c.mode-mode.ensures.0; wave = c.wave_at-wave.ensures; gap = c.gap-gap.ensures } in record { fits = next-tick (parts) c.requires.0 }

pub cycle-requires : goal.cycle-requires
cycle-requires c = let parts : Parts c.args.self c.prescaler-p.result c.ticks-last.result c.mode-mode.result c.wave_at-wave.result c.gap-gap.result = record { clock = c.prescaler-p.ensures; last = c.ticks-last.ensures; mode = c.mode-mode.ensures.0; wave = c.wave_at-wave.ensures; gap = c.gap-gap.ensures } in next-cycle (parts) c.requires.0

pub returns : goal.returns
returns c = let parts : Parts c.args.self c.prescaler-p.result c.ticks-last.result c.mode-mode.result c.wave_at-wave.result c.gap-gap.result = record { clock = c.prescaler-p.ensures; last = c.ticks-last.ensures; mode = c.mode-mode.ensures.0; wave = c.wave_at-wave.ensures; gap = c.gap-gap.ensures } in c.cycle.ensures ∙ next-is (parts)
