use Rattle.std.proofs.Common.{sym, ◌∙◌}
use Rattle.verdict.specs.Check.{judged_all, noted_all}
use Rattle.verdict.proofs.Checks.{check-is}
use Rattle.verdict.proofs.Check.piece.Goals as goal

pub loop-whole-preserved : goal.loop-whole-preserved
unfolding judged_all noted_all
loop-whole-preserved c =
    let one = c.in-Some.ensures.steps in
    let kept = c.loop-whole.invariant in
    record {
      part = sym one.part ∙ kept.part;
      seen = rw c.record.ensures kept.seen;
      judge = rw c.record.ensures (rw one.wholes at kept.judge);
      pins = rw c.record.ensures (rw one.wholes at kept.pins);
    }

pub returns : goal.returns
unfolding judged_all noted_all
returns c =
    let none = rw c.in_default.is at c.next.ensures.steps in
    let kept = c.loop-whole.invariant in
    rw c.keep.ensures (check-is c.args.self.now c.args.bytes.now _ _ _ _ (c.remainder.ensures ∙ sym none.part ∙ kept.part) (kept.seen ∙ c.counted-self.ensures) (rw none.wholes at kept.judge) (rw none.wholes at kept.pins))
