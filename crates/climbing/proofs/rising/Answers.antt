use Rattle.held.specs.Quick.{ticks_to}
use mathlib.Core.Logic.{inl, inr}
use mathlib.Core.Path.{◌∙◌}
use borrow.Author.Tests.{lt-leb}
use Rattle.std.proofs.Common.{le-leb}
use native.Mathlib.Omega.{arith}
use Rattle.climbing.proofs.Rises.{asked, start-asked, rising-asked, rose, shl-under, event-positive, end-under, end-origin, left-upto, left-small, ticks-on, rising-serves}
use Rattle.climbing.proofs.rising.Goals as goal
use Rattle.climbing.proofs.rising.Goals.{then-paused, else-paused, then-paused-2, else-paused-2}

pub start-requires : goal.start-requires
start-requires c = start-asked (asked _ _ _ c.requires.0 c.requires.1 c.requires.2)

pub rising-e-requires : goal.rising-e-requires
rising-e-requires c = rw c.start.ensures (rising-asked (asked _ _ _ c.requires.0 c.requires.1 c.requires.2))

pub overflow_sub-e : goal.overflow_sub-e
overflow_sub-e c = shl-under (asked _ _ _ c.requires.0 c.requires.1 c.requires.2) (rose (asked _ _ _ c.requires.0 c.requires.1 c.requires.2) (rw c.start.ensures at c.rising-e.ensures.1))

pub overflow_sub-left : goal.overflow_sub-left
overflow_sub-left c = event-positive (asked _ _ _ c.requires.0 c.requires.1 c.requires.2) (rose (asked _ _ _ c.requires.0 c.requires.1 c.requires.2) (rw c.start.ensures at c.rising-e.ensures.1))

pub overflow_sub-left-2 : goal.overflow_sub-left-2
overflow_sub-left-2 c = end-under (asked _ _ _ c.requires.0 c.requires.1 c.requires.2) (rose (asked _ _ _ c.requires.0 c.requires.1 c.requires.2) (rw c.start.ensures at c.rising-e.ensures.1)) c.rising-e.auto.area (elim c.if-paused.branch [ then-paused w ↦ inl (le-leb _ _ w.if-paused.true, w.end-is ∙ w.later-at.ensures) | else-paused w ↦ inr (lt-leb _ _ w.if-paused.false, w.end-is) ])

pub overflow_shr-left : goal.overflow_shr-left
overflow_shr-left c = c.requires.0.small

pub overflow_cast-left-2 : goal.overflow_cast-left-2
overflow_cast-left-2 c = record { fits = left-small (asked _ _ _ c.requires.0 c.requires.1 c.requires.2) (rose (asked _ _ _ c.requires.0 c.requires.1 c.requires.2) (rw c.start.ensures at c.rising-e.ensures.1)) c.rising-e.auto.area (elim c.if-paused.branch [ then-paused w ↦ inl (le-leb _ _ w.if-paused.true, w.end-is ∙ w.later-at.ensures) | else-paused w ↦ inr (lt-leb _ _ w.if-paused.false, w.end-is) ]) }

pub overflow_sub-ticks : goal.overflow_sub-ticks
overflow_sub-ticks c = end-origin (asked _ _ _ c.requires.0 c.requires.1 c.requires.2) (rose (asked _ _ _ c.requires.0 c.requires.1 c.requires.2) (rw c.start.ensures at c.rising-e.ensures.1)) c.rising-e.auto.area (elim c.if-paused.branch [ then-paused w ↦ inl (le-leb _ _ w.if-paused.true, w.end-is ∙ w.later-at.ensures) | else-paused w ↦ inr (lt-leb _ _ w.if-paused.false, w.end-is) ])

pub overflow_shr-ticks : goal.overflow_shr-ticks
overflow_shr-ticks c = c.requires.0.small

pub overflow_sub-ticks-2 : goal.overflow_sub-ticks-2
overflow_sub-ticks-2 c = c.requires.0.valid.origin

pub overflow_shr-ticks-2 : goal.overflow_shr-ticks-2
overflow_shr-ticks-2 c = c.requires.0.small

pub overflow_sub-ticks-3 : goal.overflow_sub-ticks-3
overflow_sub-ticks-3 c = ticks-on (asked _ _ _ c.requires.0 c.requires.1 c.requires.2) (rose (asked _ _ _ c.requires.0 c.requires.1 c.requires.2) (rw c.start.ensures at c.rising-e.ensures.1)) c.rising-e.auto.area (elim c.if-paused.branch [ then-paused w ↦ inl (le-leb _ _ w.if-paused.true, w.end-is ∙ w.later-at.ensures) | else-paused w ↦ inr (lt-leb _ _ w.if-paused.false, w.end-is) ])

pub overflow_sub-result : goal.overflow_sub-result
overflow_sub-result c = left-upto (asked _ _ _ c.requires.0 c.requires.1 c.requires.2) (rose (asked _ _ _ c.requires.0 c.requires.1 c.requires.2) (rw c.start.ensures at c.rising-e.ensures.1)) c.rising-e.auto.area (elim c.if-paused.branch [ then-paused w ↦ inl (le-leb _ _ w.if-paused.true, w.end-is ∙ w.later-at.ensures) | else-paused w ↦ inr (lt-leb _ _ w.if-paused.false, w.end-is) ])

pub overflow_add-result : goal.overflow_add-result
overflow_add-result c = record { fits = omega (arith, c.rising-e.ensures.0.near, c.rising-e.ensures.0.most) }

pub returns : goal.returns
unfolding ticks_to
returns c = rw (c.counted.ensures, c.later-newest.ensures) (rising-serves (asked _ _ _ c.requires.0 c.requires.1 c.requires.2) (rose (asked _ _ _ c.requires.0 c.requires.1 c.requires.2) (rw c.start.ensures at c.rising-e.ensures.1)) c.rising-e.auto.area (elim c.if-paused.branch [ then-paused w ↦ inl (le-leb _ _ w.if-paused.true, w.end-is ∙ w.later-at.ensures) | else-paused w ↦ inr (lt-leb _ _ w.if-paused.false, w.end-is) ]) (elim c.if-paused-2.branch [ then-paused-2 w ↦ inl (le-leb _ _ w.if-paused-2.true, w.reply-is ∙ w.new-reply.ensures) | else-paused-2 w ↦ inr (lt-leb _ _ w.if-paused-2.false, w.reply-is ∙ w.new-reply-else-paused-2.ensures) ]))
