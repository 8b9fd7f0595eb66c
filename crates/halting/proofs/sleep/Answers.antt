use Rattle.timer.proofs.Outcomes.{turned-away, sleep-number, sleep-mode, sleeping, turn-asked, turned, unturned}
use native.Mathlib.Nat.{mod-lt}
use Rattle.timer.specs.Calls.{asks, refusal_of}
use mathlib.Core.Path.{sym, ◌∙◌}
use borrow.Author.Rules.{rules}
use Rattle.halting.proofs.sleep.Goals as goal

pub halts_in-halting-requires : goal.halts_in-halting-requires
halts_in-halting-requires c = mod-lt _ (search rules)

pub refusal-n-requires : goal.refusal-n-requires
refusal-n-requires c = c.requires

pub returns-then-n-ne0 : goal.returns-then-n-ne0
unfolding refusal_of asks
returns-then-n-ne0 c = turned-away _ _ _ _ c.requires (sleep-number c.args.t c.args.mode _ (rw c.halts_in-halting.ensures at c.refusal-n.ensures)) c.if-n-ne0.true c.refused.ensures

pub sync-requires : goal.sync-requires
unfolding refusal_of asks
sync-requires c = turn-asked (sleeping c.args.t c.args.cycle.0 c.args.mode) c.requires (sleep-number c.args.t c.args.mode _ (rw c.halts_in-halting.ensures at c.refusal-n.ensures)) c.if-n-ne0.false

pub returns-then-halting : goal.returns-then-halting
unfolding refusal_of asks
returns-then-halting c = turned (sleeping c.args.t c.args.cycle.0 c.args.mode) c.requires (sleep-number c.args.t c.args.mode _ (rw c.halts_in-halting.ensures at c.refusal-n.ensures)) c.if-n-ne0.false _ (rw (sleep-mode c.args.t c.args.mode _ (sym (sleep-number c.args.t c.args.mode _ (rw c.halts_in-halting.ensures at c.refusal-n.ensures)) ∙ c.if-n-ne0.false)) at (sym c.halts_in-halting.ensures ∙ c.if-halting.true)) c.sync.ensures c.asleep.ensures c.done.ensures

pub returns : goal.returns
unfolding refusal_of asks
returns c = unturned (sleeping c.args.t c.args.cycle.0 c.args.mode) c.requires (sleep-number c.args.t c.args.mode _ (rw c.halts_in-halting.ensures at c.refusal-n.ensures)) c.if-n-ne0.false _ (rw (sleep-mode c.args.t c.args.mode _ (sym (sleep-number c.args.t c.args.mode _ (rw c.halts_in-halting.ensures at c.refusal-n.ensures)) ∙ c.if-n-ne0.false)) at (sym c.halts_in-halting.ensures ∙ c.if-halting.false)) c.done-2.ensures
