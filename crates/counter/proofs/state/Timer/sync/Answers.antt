use Rattle.counter.proofs.Syncs.{due-quiet, due-small, syncs-quiet, syncs-idle}
use Rattle.counter.proofs.Advances.{Begun, ticks-asked, begun-upto, begun-steady}
use Rattle.wave.specs.Distance.{gap}
use Rattle.counter.specs.Modes.{wave_of}
use mathlib.Core.Path.{refl, sym, ap, ◌∙◌}
use native.Mathlib.Omega.{arith}
use native.Mathlib.Nat.{le_refl}
use Rattle.counter.proofs.state.Timer.sync.Goals as goal

pub ticks-first-requires : goal.ticks-first-requires
ticks-first-requires c = ticks-asked c.args.self c.args.self.clock.sync.0 c.requires.0 (le_refl _) c.prescaler-p.ensures (sym c.running.ensures ∙ c.if-running.true)

pub ticks-end-requires : goal.ticks-end-requires
ticks-end-requires c = ticks-asked c.args.self c.args.cycle.0 c.requires.0 (omega (arith, c.requires.0.sync, c.requires.1)) c.prescaler-p.ensures (sym c.running.ensures ∙ c.if-running.true)

pub overflow_sub-end : goal.overflow_sub-end
overflow_sub-end c = let begun : Begun c.args.self c.args.cycle.0 c.prescaler-p.result c.wave_at-wave.result c.moving-m.result (gap c.wave_at-wave.result c.args.self.counter c.args.self.ocr) c.ticks-first.result.0 c.ticks-end.result.0 = record { valid = c.requires.0; late = c.requires.1; small = c.requires.2; runs = sym c.running.ensures ∙ c.if-running.true; prescaler = c.prescaler-p.ensures; wave = c.wave_at-wave.ensures ∙ ap (wave_of c.args.self) c.mode-mode.ensures.0; moving = c.moving-m.ensures; gap = refl; first = c.ticks-first.ensures; last = c.ticks-end.ensures } in begun-upto (begun)

pub overflow_cast-end : goal.overflow_cast-end
overflow_cast-end c = let begun : Begun c.args.self c.args.cycle.0 c.prescaler-p.result c.wave_at-wave.result c.moving-m.result (gap c.wave_at-wave.result c.args.self.counter c.args.self.ocr) c.ticks-first.result.0 c.ticks-end.result.0 = record { valid = c.requires.0; late = c.requires.1; small = c.requires.2; runs = sym c.running.ensures ∙ c.if-running.true; prescaler = c.prescaler-p.ensures; wave = c.wave_at-wave.ensures ∙ ap (wave_of c.args.self) c.mode-mode.ensures.0; moving = c.moving-m.ensures; gap = refl; first = c.ticks-first.ensures; last = c.ticks-end.ensures } in let h = due-small (begun) c.requires in record { fits = omega arith }

pub skip-moved-requires : goal.skip-moved-requires
skip-moved-requires c = let begun : Begun c.args.self c.args.cycle.0 c.prescaler-p.result c.wave_at-wave.result c.moving-m.result (gap c.wave_at-wave.result c.args.self.counter c.args.self.ocr) c.ticks-first.result.0 c.ticks-end.result.0 = record { valid = c.requires.0; late = c.requires.1; small = c.requires.2; runs = sym c.running.ensures ∙ c.if-running.true; prescaler = c.prescaler-p.ensures; wave = c.wave_at-wave.ensures ∙ ap (wave_of c.args.self) c.mode-mode.ensures.0; moving = c.moving-m.ensures; gap = refl; first = c.ticks-first.ensures; last = c.ticks-end.ensures } in (begun-steady (begun), due-quiet (begun) c.requires)

pub returns-then-running : goal.returns-then-running
returns-then-running c = let begun : Begun c.args.self c.args.cycle.0 c.prescaler-p.result c.wave_at-wave.result c.moving-m.result (gap c.wave_at-wave.result c.args.self.counter c.args.self.ocr) c.ticks-first.result.0 c.ticks-end.result.0 = record { valid = c.requires.0; late = c.requires.1; small = c.requires.2; runs = sym c.running.ensures ∙ c.if-running.true; prescaler = c.prescaler-p.ensures; wave = c.wave_at-wave.ensures ∙ ap (wave_of c.args.self) c.mode-mode.ensures.0; moving = c.moving-m.ensures; gap = refl; first = c.ticks-first.ensures; last = c.ticks-end.ensures } in syncs-quiet (begun) c.requires c.skip-moved.ensures c.settled.ensures c.synced.ensures

pub returns-else-running : goal.returns-else-running
returns-else-running c = syncs-idle c.args.self c.args.cycle.0 c.requires (sym c.running.ensures ∙ c.if-running.false) c.synced-else-running.ensures
