use mathlib.Core.Logic.{⊎_elim, inl, inr}
use mathlib.Core.Path.{◌≡◌}
use borrow.Author.Tests.{ne_eqb}
use Rattle.counter.specs.Modes.{toggles_at}
use Rattle.counter.proofs.state.Timer.toggles_at.Goals as goal

pub returns-in-9 : goal.returns-in-9
unfolding toggles_at
returns-in-9 c = ⊎_elim (λ (e : c.args.mode ≡ 9). simp (c.if-wide.true, e)) (λ f. ⊎_elim (λ (e : c.args.mode ≡ 11). simp (c.if-wide.true, e)) (λ (e : c.args.mode ≡ 15). simp (c.if-wide.true, e)) f) c.in-9.is

pub returns-in_default : goal.returns-in_default
unfolding toggles_at
returns-in_default c = simp (c.if-wide.true, ne_eqb c.args.mode 9 (λ e. c.in_default.in_default-own.rest.1 (inl e)), ne_eqb c.args.mode 11 (λ e. c.in_default.in_default-own.rest.1 (inr (inl e))), ne_eqb c.args.mode 15 (λ e. c.in_default.in_default-own.rest.1 (inr (inr e))))

pub returns-in-5 : goal.returns-in-5
unfolding toggles_at
returns-in-5 c = ⊎_elim (λ (e : c.args.mode ≡ 5). simp (c.if-wide.false, e)) (λ (e : c.args.mode ≡ 7). simp (c.if-wide.false, e)) c.in-5.is

pub returns-in_default-mode : goal.returns-in_default-mode
unfolding toggles_at
returns-in_default-mode c = simp (c.if-wide.false, ne_eqb c.args.mode 5 (λ e. c.in_default-mode.in_default-mode-own.rest.1 (inl e)), ne_eqb c.args.mode 7 (λ e. c.in_default-mode.in_default-mode-own.rest.1 (inr e)))
