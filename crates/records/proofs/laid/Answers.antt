use Prim.Native.Nat.{suc, ◌+◌}
use mathlib.Core.Path.{◌≡◌, refl}
use native.Mathlib.Nat.{div-one}
use native.Mathlib.Numerals.{towards_suc}
use native.Mathlib.Omega.{arith}
use lib.ListN.{length-set}
use borrow.Author.Rules.{rules}
use Rattle.records.specs.Records.{bytes_of}
use Rattle.records.proofs.laid.Goals as goal

pub bounds-area-at-2 : goal.bounds-area-at-2
bounds-area-at-2 c = simp length-set (omega arith)

pub bounds-area-at-3 : goal.bounds-area-at-3
bounds-area-at-3 c = simp length-set (omega arith)

pub bounds-area-at-4 : goal.bounds-area-at-4
bounds-area-at-4 c = simp length-set (omega arith)

pub bounds-area-at-5 : goal.bounds-area-at-5
bounds-area-at-5 c = simp length-set (omega arith)

pub bounds-area-at-6 : goal.bounds-area-at-6
bounds-area-at-6 c = simp length-set (omega arith)

pub bounds-area-at-7 : goal.bounds-area-at-7
bounds-area-at-7 c = simp length-set (omega arith)

pub bounds-area-at-8 : goal.bounds-area-at-8
bounds-area-at-8 c = simp length-set (omega arith)

pub bounds-area-at-9 : goal.bounds-area-at-9
bounds-area-at-9 c = simp length-set (omega arith)

pub bounds-area-at-10 : goal.bounds-area-at-10
bounds-area-at-10 c = simp length-set (omega arith)

pub shape_of-area : goal.shape_of-area
shape_of-area c = simp length-set

pub returns : goal.returns
unfolding bytes_of
returns c = let e : c.args.at + 9 ≡ suc (c.args.at + 8) = omega arith in (refl, simp (e, towards_suc, div-one))
