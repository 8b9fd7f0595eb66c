use Rattle.timer.proofs.Outcomes.{late-alone, turned-away, stopped, came}
use Rattle.timer.proofs.Accepted.{call-accepted}
use Rattle.timer.specs.declared.calls.Call.TheVariants as call
use Rattle.timer.specs.Calls.{asks, refusal_of}
use mathlib.Core.Path.{sym, ◌∙◌}
use Rattle.elapse.proofs.advance.Goals as goal

pub returns-then-n-ne0 : goal.returns-then-n-ne0
unfolding refusal_of asks
returns-then-n-ne0 c = turned-away _ _ _ _ c.requires (c.late-n.ensures ∙ sym (late-alone _ _)) c.if-n-ne0.true c.refused.ensures

pub advance-a-requires : goal.advance-a-requires
unfolding refusal_of asks
advance-a-requires c = let a = call-accepted c.args.t call.Advance c.args.cycle.0 (late-alone _ _ ∙ sym c.late-n.ensures ∙ c.if-n-ne0.false) in (c.requires, a.latest, a.most)

pub returns-then-a : goal.returns-then-a
returns-then-a c = stopped _ _ _ c.requires c.late-n.ensures c.if-n-ne0.false c.advance-a.ensures c.next_flags-flags.ensures c.if-a.true

pub returns-else-a : goal.returns-else-a
returns-else-a c = came _ _ _ c.requires c.late-n.ensures c.if-n-ne0.false c.advance-a.ensures c.next_flags-flags.ensures c.if-a.false
