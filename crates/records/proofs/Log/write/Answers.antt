use Prim.Native.Nat.{◌+◌, ◌-◌, ◌≤◌, ◌<◌}
use mathlib.Core.Path.{◌≡◌, refl, sym}
use native.Mathlib.Omega.{arith}
use lib.ListN.{length, take, length-set}
use lib.Seq.{sets}
use borrow.Author.Rules.{rules}
use borrow.Author.Tests.{le-leb, lt-leb}
use Rattle.records.proofs.Records.{sets_more}
use Rattle.records.proofs.Log.write.Goals as goal

pub returns-then-area-at : goal.returns-then-area-at
returns-then-area-at c = let h : length c.args.area.now < c.args.at + c.args.self.len = omega arith in (sym (lt-leb _ _ h), refl)

pub loop-i-init : goal.loop-i-init
loop-i-init c = (omega arith, refl, refl)

pub bounds-area-at : goal.bounds-area-at
bounds-area-at c = omega (arith, c.loop-i.invariant.2)

pub loop-i-smaller : goal.loop-i-smaller
loop-i-smaller c = omega arith

pub loop-i-preserved : goal.loop-i-preserved
loop-i-preserved c = let k : c.loop-i.i < 110 = omega arith in
    let h : c.loop-i.i < length c.args.self.bytes = search rules in
    (omega arith, rw c.loop-i.invariant.1 (sets_more _ c.args.at _ c.loop-i.i h), simp length-set c.loop-i.invariant.2)

pub shape_of-area : goal.shape_of-area
shape_of-area c = c.loop-i.invariant.2

pub returns : goal.returns
returns c = let e : c.loop-i.i ≡ c.args.self.len = omega arith in
    let h : c.args.at + c.args.self.len ≤ length c.args.area.now = omega arith in
    (sym (le-leb _ _ h), rw e at c.loop-i.invariant.1)
