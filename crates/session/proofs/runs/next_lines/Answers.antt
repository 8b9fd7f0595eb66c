-- What was read of the piece fed the script on, and no line of it asked something of the file.
use Prim.Native.Nat.{◌≤◌}
use native.Mathlib.Omega.{arith}
use mathlib.Core.Logic.{inl, inr}
use mathlib.Core.Path.{refl, sym, ◌∙◌}
use lib.ListN.{length}
use Rattle.session.proofs.Going.{goes_on, reads_none, rests-none, rests-some, reads_next, asked-ended, reads-ended, asks-ended}
use Rattle.session.proofs.runs.next_lines.Goals as goal

pub loop-next-init : goal.loop-next-init
loop-next-init c = (
  c.requires.0,
  c.requires.1,
  omega arith,
  omega (arith, c.requires.2),
  inr (refl, refl),
  λ answers bytes h. reads_none c.args.d _ _ _ _ _ answers bytes c.args.input.now c.args.start h,
  λ h. h,
  λ h. absurd (omega (arith, h)),
)

pub returns-then-asks : goal.returns-then-asks
returns-then-asks c =
    let a = c.args in
    let l = c.loop-next in
    let turn = c.next_turn-t in
    let t = turn.result in
    let g = goes_on l.next (length a.input.now) l.page c.roomy.result c.roomy.ensures c.loop-next-test.true in
    rw c.stopped.ensures (
      λ answers bytes h.
          let x = l.invariant.5 answers bytes h in
          let w = turn.ensures.4 x.rest x.held in
          let k : l.next ≤ t.next = omega (arith, turn.ensures.2) in
          let e = asked-ended _ bytes a.input.now a.start l.next _ _ _ _ _ _ _ x l.invariant.2 g.0 _ _ _ _ _ t w k _ c.in-Some.is in
          rw (c.len-from.ensures, c.clear.ensures) (asks-ended _ bytes a.input.now a.start l.next _ _ _ _ _ _ _ x l.invariant.2 g.0 _ _ _ _ _ t w k _ _ _ _ _ (rests-some t.later _ _ _ _ _ _ _ _ _ _ _ _ c.in-Some.is c.rest_of-left.ensures.2) e g.1 (sym c.asks.ensures ∙ c.if-asks.true)),
      omega (arith, l.invariant.2, turn.ensures.2),
      turn.ensures.3,
      λ h. omega (arith, l.invariant.2, turn.ensures.2),
      c.rest_of-left.ensures.0,
      c.rest_of-left.ensures.1,
      (l.invariant.0, l.invariant.1),
      λ h. rw c.clear.ensures refl,
      λ h. rw c.clear.ensures refl,
      rw c.len-from.ensures g.1,
    )

pub loop-next-preserved-in-Some : goal.loop-next-preserved-in-Some
loop-next-preserved-in-Some c =
    let a = c.args in
    let l = c.loop-next in
    let turn = c.next_turn-t in
    let t = turn.result in
    let g = goes_on l.next (length a.input.now) l.page c.roomy.result c.roomy.ensures c.loop-next-test.true in (
      c.rest_of-left.ensures.0,
      c.rest_of-left.ensures.1,
      omega (arith, l.invariant.2, turn.ensures.2),
      turn.ensures.3,
      inl (omega (arith, l.invariant.2, turn.ensures.2)),
      λ answers bytes h.
          let x = l.invariant.5 answers bytes h in
          let w = turn.ensures.4 x.rest x.held in
          let k : l.next ≤ t.next = omega (arith, turn.ensures.2) in
          let e = asked-ended _ bytes a.input.now a.start l.next _ _ _ _ _ _ _ x l.invariant.2 g.0 _ _ _ _ _ t w k _ c.in-Some.is in
          rw c.clear.ensures (reads-ended _ bytes a.input.now a.start l.next _ _ _ _ _ _ _ x l.invariant.2 g.0 _ _ _ _ _ t w k _ _ _ _ _ (rests-some t.later _ _ _ _ _ _ _ _ _ _ _ _ c.in-Some.is c.rest_of-left.ensures.2) e g.1 (sym c.asks.ensures ∙ c.if-asks.false)),
      λ h. rw c.clear.ensures refl,
      λ h. rw c.clear.ensures refl,
    )

pub returns-then-asks-2 : goal.returns-then-asks-2
returns-then-asks-2 c =
    let a = c.args in
    let l = c.loop-next in
    let turn = c.next_turn-t in
    let t = turn.result in
    let g = goes_on l.next (length a.input.now) l.page c.roomy.result c.roomy.ensures c.loop-next-test.true in
    rw c.stopped-then-asks-2.ensures (
      λ answers bytes h.
          let x = l.invariant.5 answers bytes h in
          let w = turn.ensures.4 x.rest x.held in
          let k : l.next ≤ t.next = omega (arith, turn.ensures.2) in
          rw (c.len-from.ensures, c.clear-then-t.ensures) (asks-ended _ bytes a.input.now a.start l.next _ _ _ _ _ _ _ x l.invariant.2 g.0 _ _ _ _ _ t w k _ _ _ _ _ (rests-none t.later _ _ _ _ _ _ c.in_default.is) c.if-t.true g.1 (sym c.asks-then-t.ensures ∙ c.if-asks-2.true)),
      omega (arith, l.invariant.2, turn.ensures.2),
      turn.ensures.3,
      λ h. omega (arith, l.invariant.2, turn.ensures.2),
      turn.ensures.0,
      l.invariant.1,
      (l.invariant.0, l.invariant.1),
      λ h. rw c.clear-then-t.ensures refl,
      λ h. rw c.clear-then-t.ensures refl,
      rw c.len-from.ensures g.1,
    )

pub loop-next-preserved-then-t : goal.loop-next-preserved-then-t
loop-next-preserved-then-t c =
    let a = c.args in
    let l = c.loop-next in
    let turn = c.next_turn-t in
    let t = turn.result in
    let g = goes_on l.next (length a.input.now) l.page c.roomy.result c.roomy.ensures c.loop-next-test.true in (
      turn.ensures.0,
      l.invariant.1,
      omega (arith, l.invariant.2, turn.ensures.2),
      turn.ensures.3,
      inl (omega (arith, l.invariant.2, turn.ensures.2)),
      λ answers bytes h.
          let x = l.invariant.5 answers bytes h in
          let w = turn.ensures.4 x.rest x.held in
          let k : l.next ≤ t.next = omega (arith, turn.ensures.2) in
          rw c.clear-then-t.ensures (reads-ended _ bytes a.input.now a.start l.next _ _ _ _ _ _ _ x l.invariant.2 g.0 _ _ _ _ _ t w k _ _ _ _ _ (rests-none t.later _ _ _ _ _ _ c.in_default.is) c.if-t.true g.1 (sym c.asks-then-t.ensures ∙ c.if-asks-2.false)),
      λ h. rw c.clear-then-t.ensures refl,
      λ h. rw c.clear-then-t.ensures refl,
    )

pub loop-next-preserved : goal.loop-next-preserved
loop-next-preserved c =
    let a = c.args in
    let l = c.loop-next in
    let turn = c.next_turn-t in
    let t = turn.result in
    let g = goes_on l.next (length a.input.now) l.page c.roomy.result c.roomy.ensures c.loop-next-test.true in (
      l.invariant.0,
      l.invariant.1,
      omega (arith, l.invariant.2, turn.ensures.2),
      turn.ensures.3,
      inl (omega (arith, l.invariant.2, turn.ensures.2)),
      λ answers bytes h.
          let x = l.invariant.5 answers bytes h in
          let w = turn.ensures.4 x.rest x.held in
          let k : l.next ≤ t.next = omega (arith, turn.ensures.2) in
          reads_next _ bytes a.input.now a.start l.next _ _ _ _ _ _ _ x l.invariant.2 g.0 _ _ _ _ _ t w k c.if-t.false,
      λ h. turn.ensures.5 ∙ c.if-t.false,
      λ h. turn.ensures.5 ∙ c.if-t.false,
    )
