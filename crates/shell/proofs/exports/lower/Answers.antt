-- `shell::exports::lower` meets its contract: a way below 16 is the place of a compare that waits.
use Rattle.std.proofs.Common.{ℕ, ◌<◌, ◌≡◌, sym, subst, ◌∙◌}
use Rattle.config.specs.Config.{place_of}
use Rattle.held.specs.Write.{Waits}
use Rattle.held.proofs.Stores.{waits}
use Rattle.shell.proofs.exports.lower.Goals as goal

pub buffer-requires : goal.buffer-requires
buffer-requires c =
    let x = c.args in
    let k = c.requires in
    let w = waits x.t.now x.address x.cycle (λ e. k.2 (k.1 ∙ e)) (subst (λ (m : ℕ). m < 16) k.1 c.if-way-lt16.true) in
    (k.0, subst (λ (m : ℕ). Waits x.t.now m x.cycle) (sym k.1) w.1)

pub returns-then-way-lt16 : goal.returns-then-way-lt16
returns-then-way-lt16 c =
    let x = c.args in
    let k = c.requires in
    let w = waits x.t.now x.address x.cycle (λ e. k.2 (k.1 ∙ e)) (subst (λ (m : ℕ). m < 16) k.1 c.if-way-lt16.true) in
    c.buffer.ensures x.address (w.0 ∙ sym k.1) x.area.now
