use native.Mathlib.Nat.{le_refl}
use native.Mathlib.Omega.{arith}
use mathlib.Core.Path.{◌≡◌, sym, ap, ◌∙◌}
use Rattle.counter.specs.Setting.{setting_of}
use Rattle.counter.specs.Modes.{wave_of}
use Rattle.counter.proofs.Advances.{Begun, ticks-asked, count-asked, begun-upto, begun-cycle, begun-steady, begun-gap, begun-ready, begun-quiet, begun-works, idle, setting-is}
use Rattle.counter.proofs.state.Timer.work.Goals as goal

pub ticks-first-requires : goal.ticks-first-requires
ticks-first-requires c = ticks-asked c.args.self c.args.self.clock.sync.0 c.requires.0 (le_refl _) c.prescaler-p.ensures (sym c.running.ensures ∙ c.if-running.true)

pub ticks-end-requires : goal.ticks-end-requires
ticks-end-requires c = ticks-asked c.args.self c.args.cycle.0 c.requires.0 (omega (arith, c.requires.0.sync, c.requires.1)) c.prescaler-p.ensures (sym c.running.ensures ∙ c.if-running.true)

pub gap-gap-requires : goal.gap-gap-requires
gap-gap-requires c = count-asked c.args.self c.requires.0 c.mode-mode.ensures.0 c.wave_at-wave.ensures

pub overflow_sub-n : goal.overflow_sub-n
overflow_sub-n c = let begun : Begun c.args.self c.args.cycle.0 c.prescaler-p.result c.wave_at-wave.result c.moving-moving.result c.gap-gap.result c.ticks-first.result.0 c.ticks-end.result.0 = record { valid = c.requires.0; late = c.requires.1; small = c.requires.2; runs = sym c.running.ensures ∙ c.if-running.true; prescaler = c.prescaler-p.ensures; wave = c.wave_at-wave.ensures ∙ ap (wave_of c.args.self) c.mode-mode.ensures.0; moving = c.moving-moving.ensures; gap = c.gap-gap.ensures; first = c.ticks-first.ensures; last = c.ticks-end.ensures } in begun-upto (begun)

pub skip-requires : goal.skip-requires
skip-requires c = let begun : Begun c.args.self c.args.cycle.0 c.prescaler-p.result c.wave_at-wave.result c.moving-moving.result c.gap-gap.result c.ticks-first.result.0 c.ticks-end.result.0 = record { valid = c.requires.0; late = c.requires.1; small = c.requires.2; runs = sym c.running.ensures ∙ c.if-running.true; prescaler = c.prescaler-p.ensures; wave = c.wave_at-wave.ensures ∙ ap (wave_of c.args.self) c.mode-mode.ensures.0; moving = c.moving-moving.ensures; gap = c.gap-gap.ensures; first = c.ticks-first.ensures; last = c.ticks-end.ensures } in (begun-steady (begun), omega (arith, c.if-n-gap.true, begun-gap (begun)))

pub returns-then-n-gap : goal.returns-then-n-gap
returns-then-n-gap c = let begun : Begun c.args.self c.args.cycle.0 c.prescaler-p.result c.wave_at-wave.result c.moving-moving.result c.gap-gap.result c.ticks-first.result.0 c.ticks-end.result.0 = record { valid = c.requires.0; late = c.requires.1; small = c.requires.2; runs = sym c.running.ensures ∙ c.if-running.true; prescaler = c.prescaler-p.ensures; wave = c.wave_at-wave.ensures ∙ ap (wave_of c.args.self) c.mode-mode.ensures.0; moving = c.moving-moving.ensures; gap = c.gap-gap.ensures; first = c.ticks-first.ensures; last = c.ticks-end.ensures } in begun-quiet (begun) c.args.area.now c.if-n-gap.true c.skip.ensures c.quiet.ensures

pub run-near-requires : goal.run-near-requires
run-near-requires c = let is-setting : c.setting-s.result ≡ setting_of c.args.self = setting-is c.args.self c.mode-mode.ensures.0 c.wave_at-wave.ensures c.setting-s.ensures in let begun : Begun c.args.self c.args.cycle.0 c.prescaler-p.result c.wave_at-wave.result c.moving-moving.result c.gap-gap.result c.ticks-first.result.0 c.ticks-end.result.0 = record { valid = c.requires.0; late = c.requires.1; small = c.requires.2; runs = sym c.running.ensures ∙ c.if-running.true; prescaler = c.prescaler-p.ensures; wave = c.wave_at-wave.ensures ∙ ap (wave_of c.args.self) c.mode-mode.ensures.0; moving = c.moving-moving.ensures; gap = c.gap-gap.ensures; first = c.ticks-first.ensures; last = c.ticks-end.ensures } in begun-ready (begun) c.args.area.now (is-setting)

pub finish-requires : goal.finish-requires
finish-requires c = rw c.run-near.auto.area c.run-near.ensures.ready

pub of-requires : goal.of-requires
of-requires c = let begun : Begun c.args.self c.args.cycle.0 c.prescaler-p.result c.wave_at-wave.result c.moving-moving.result c.gap-gap.result c.ticks-first.result.0 c.ticks-end.result.0 = record { valid = c.requires.0; late = c.requires.1; small = c.requires.2; runs = sym c.running.ensures ∙ c.if-running.true; prescaler = c.prescaler-p.ensures; wave = c.wave_at-wave.ensures ∙ ap (wave_of c.args.self) c.mode-mode.ensures.0; moving = c.moving-moving.ensures; gap = c.gap-gap.ensures; first = c.ticks-first.ensures; last = c.ticks-end.ensures } in begun-cycle (begun) c.finish.result.at.0 c.finish.ensures.upto

pub returns-else-n-gap : goal.returns-else-n-gap
returns-else-n-gap c = let is-setting : c.setting-s.result ≡ setting_of c.args.self = setting-is c.args.self c.mode-mode.ensures.0 c.wave_at-wave.ensures c.setting-s.ensures in let begun : Begun c.args.self c.args.cycle.0 c.prescaler-p.result c.wave_at-wave.result c.moving-moving.result c.gap-gap.result c.ticks-first.result.0 c.ticks-end.result.0 = record { valid = c.requires.0; late = c.requires.1; small = c.requires.2; runs = sym c.running.ensures ∙ c.if-running.true; prescaler = c.prescaler-p.ensures; wave = c.wave_at-wave.ensures ∙ ap (wave_of c.args.self) c.mode-mode.ensures.0; moving = c.moving-moving.ensures; gap = c.gap-gap.ensures; first = c.ticks-first.ensures; last = c.ticks-end.ensures } in begun-works (begun) (is-setting) c.run-near.ensures c.run-near.auto.area c.finish.auto.area c.finish.ensures c.of.ensures

pub returns-else-running : goal.returns-else-running
returns-else-running c = idle c.args.self c.args.cycle.0 c.args.area.now (sym c.running.ensures ∙ c.if-running.false) c.moving-moving.ensures c.quiet-else-running.ensures
