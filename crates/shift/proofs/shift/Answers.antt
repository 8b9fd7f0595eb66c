use mathlib.Core.Path.{◌≡◌, sym, ◌∙◌}
use mathlib.Core.Bool.{true}
use mir.Syntax.{w32}
use mir.Val.{SFits}
use mir.Facts.{to_z-of_z}
use borrow.Author.Rules.{rules}
use borrow.Author.Tests.{eq-eqb, ne_eqb}
use Rattle.counter.specs.Modes.{running_of}
use Rattle.counter.proofs.Clocks.{running-divides}
use Rattle.shift.specs.Shift.{refusal_of, values_at}
use Rattle.shift.proofs.Refusals.{first-since, second-since, ticks-apart, shifted-is}
use Rattle.shift.proofs.shift.Goals as goal

pub returns-then-n-ne0 : goal.returns-then-n-ne0
unfolding values_at
returns-then-n-ne0 c = record { number = c.refusal-n.ensures; values = simp (← c.refusal-n.ensures, ne_eqb _ _ c.if-n-ne0.true) }

pub ticks-requires : goal.ticks-requires
ticks-requires c = let runs : running_of c.args.t ≡ true = sym c.running.ensures ∙ c.if-running.true in let none : refusal_of c.args.t c.args.first.0 c.args.second.0 ≡ 0 = sym c.refusal-n.ensures ∙ c.if-n-ne0.false in
    rw c.prescaler-p.ensures (first-since c.args.t c.args.first.0 c.args.second.0 c.requires (none), running-divides c.args.t (runs))

pub ticks-requires-then-running : goal.ticks-requires-then-running
ticks-requires-then-running c = let runs : running_of c.args.t ≡ true = sym c.running.ensures ∙ c.if-running.true in let none : refusal_of c.args.t c.args.first.0 c.args.second.0 ≡ 0 = sym c.refusal-n.ensures ∙ c.if-n-ne0.false in
    rw c.prescaler-p.ensures (second-since c.args.t c.args.first.0 c.args.second.0 c.requires (none), running-divides c.args.t (runs))

pub between-requires : goal.between-requires
between-requires c = let runs : running_of c.args.t ≡ true = sym c.running.ensures ∙ c.if-running.true in let none : refusal_of c.args.t c.args.first.0 c.args.second.0 ≡ 0 = sym c.refusal-n.ensures ∙ c.if-n-ne0.false in
    rw (c.ticks-then-running.ensures, c.ticks.ensures, c.prescaler-p.ensures) (ticks-apart c.args.t c.args.first.0 c.args.second.0 c.requires (none) (runs))

pub returns-then-running : goal.returns-then-running
returns-then-running c = let runs : running_of c.args.t ≡ true = sym c.running.ensures ∙ c.if-running.true in let none : refusal_of c.args.t c.args.first.0 c.args.second.0 ≡ 0 = sym c.refusal-n.ensures ∙ c.if-n-ne0.false in
    let x = c.args in
    let h : SFits w32 c.between.result = search rules in
    record {
      number = sym (none);
      values = shifted-is x.t x.first.0 x.second.0 (none) (runs) _ c.prescaler-p.ensures _ _ c.ticks.ensures c.ticks-then-running.ensures _ (to_z-of_z h ∙ c.between.ensures);
    }

pub returns-else-running : goal.returns-else-running
unfolding values_at
returns-else-running c = let none : refusal_of c.args.t c.args.first.0 c.args.second.0 ≡ 0 = sym c.refusal-n.ensures ∙ c.if-n-ne0.false in record { number = sym (none); values = simp (eq-eqb _ _ (none), sym c.running.ensures ∙ c.if-running.false) }
