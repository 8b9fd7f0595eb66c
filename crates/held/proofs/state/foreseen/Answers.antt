use mathlib.Core.Path.{◌≡◌, refl, sym, ap, ◌∙◌}
use mathlib.Core.Bool.{true, false}
use native.Mathlib.Omega.{arith}
use Rattle.time.specs.declared.units.Prescaler.{Prescaler}
use Rattle.counter.specs.declared.state.Timer.{Timer}
use Rattle.counter.specs.Modes.{divisor_of, running_of}
use Rattle.counter.proofs.Clocks.{running-divides}
use Rattle.held.specs.Held.{shift_at}
use Rattle.held.proofs.Holds.{given-within, given-sees, found-tick, found-cycle, found-next, found-flags, none-next, none-flags, shift_is, shift-idle, shift_small}
use Rattle.held.proofs.state.foreseen.Goals as goal

pub coming-e-requires : goal.coming-e-requires
coming-e-requires c = given-within (record { valid = c.requires.0; scene = c.requires.1; top = c.requires.2; down = c.requires.3 })

pub ticks-last-requires : goal.ticks-last-requires
ticks-last-requires c = rw c.prescaler-p.ensures (c.requires.0.origin, running-divides c.args.t (sym c.running.ensures ∙ c.if-running.true))

pub overflow_add-last : goal.overflow_add-last
overflow_add-last c = record { fits = found-tick (record { clock = c.prescaler-p.ensures; tick = c.ticks-last.ensures; ahead = given-sees (record { valid = c.requires.0; scene = c.requires.1; top = c.requires.2; down = c.requires.3 }) c.coming-e.ensures }) c.requires.0 }

pub cycle-at-requires : goal.cycle-at-requires
cycle-at-requires c = found-cycle (record { clock = c.prescaler-p.ensures; tick = c.ticks-last.ensures; ahead = given-sees (record { valid = c.requires.0; scene = c.requires.1; top = c.requires.2; down = c.requires.3 }) c.coming-e.ensures }) c.requires.0

pub returns-then-running : goal.returns-then-running
returns-then-running c =
    let t : Timer = c.args.t in
    let r : running_of t ≡ true = sym c.running.ensures ∙ c.if-running.true in
    let q : c.shift_of.result ≡ shift_at (divisor_of t) (running_of t) = rw r (c.shift_of.ensures ∙ ap (λ (p : Prescaler). shift_at p.divisor _) c.prescaler-p.ensures) in
    record { next = found-next (record { clock = c.prescaler-p.ensures; tick = c.ticks-last.ensures; ahead = given-sees (record { valid = c.requires.0; scene = c.requires.1; top = c.requires.2; down = c.requires.3 }) c.coming-e.ensures }) c.requires.0 r c.cycle-at.ensures; flags = found-flags (record { clock = c.prescaler-p.ensures; tick = c.ticks-last.ensures; ahead = given-sees (record { valid = c.requires.0; scene = c.requires.1; top = c.requires.2; down = c.requires.3 }) c.coming-e.ensures }) c.requires.0 r; shift = shift_is t q; idle = shift-idle t q; small = rw q (shift_small (divisor_of t) (running_of t)) }

pub returns-else-running : goal.returns-else-running
returns-else-running c =
    let t : Timer = c.args.t in
    let r : running_of t ≡ false = sym c.running.ensures ∙ c.if-running.false in
    let q : 63 ≡ shift_at (divisor_of t) (running_of t) = sym (shift-idle t refl r) in
    record { next = none-next t r; flags = none-flags t r; shift = shift_is t q; idle = λ _. refl; small = omega arith }
