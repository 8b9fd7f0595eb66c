use Rattle.timer.proofs.Outcomes.{turned-away, sync-asked, kept, same-output, at_once, in-time, plainly, filed}
use Rattle.timer.specs.Calls.{output_captures}
use Rattle.timer.specs.declared.calls.Call.TheVariants as call
use Rattle.timer.specs.Calls.{asks, works, says, refusal_of}
use mathlib.Core.Path.{refl, sym, ◌∙◌}
use Rattle.dispatch.proofs.output.Goals as goal

pub refusal-n-requires : goal.refusal-n-requires
refusal-n-requires c = c.requires

pub returns-then-n-ne0 : goal.returns-then-n-ne0
unfolding refusal_of asks
returns-then-n-ne0 c = turned-away _ _ _ _ c.requires c.refusal-n.ensures c.if-n-ne0.true c.refused.ensures

pub sync-requires : goal.sync-requires
unfolding refusal_of asks
sync-requires c = sync-asked c.args.t (call.Output c.args.level) c.args.cycle.0 c.requires (sym c.refusal-n.ensures ∙ c.if-n-ne0.false) refl

pub logged-requires : goal.logged-requires
logged-requires c = c.captured.ensures.len

pub returns-then-halts-captures : goal.returns-then-halts-captures
unfolding refusal_of asks works says output_captures
returns-then-halts-captures c = filed _ _ _ _ (in-time _ _ _ _ c.requires c.refusal-n.ensures c.if-n-ne0.false refl (rw (← c.captures-2.ensures, c.if-halts-captures.true)) c.sync.ensures) (rw (same-output (kept _ _ c.sync.ensures), output_captures, ← c.captures-2.ensures, c.if-halts-captures.true) c.captured.ensures) refl c.logged.ensures

pub returns : goal.returns
unfolding refusal_of asks works says output_captures
returns c = plainly _ _ _ _ (at_once _ _ _ _ c.requires c.refusal-n.ensures c.if-n-ne0.false refl (rw (← c.captures-2.ensures, c.if-halts-captures.false))) c.args.t (rw (← c.captures-2.ensures, c.if-halts-captures.false)) (rw (← c.captures-2.ensures, c.if-halts-captures.false)) refl refl c.done.ensures
