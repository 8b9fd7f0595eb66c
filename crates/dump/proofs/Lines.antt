-- Laws of the lines of changes.
use Prim.Native.Nat.{ℕ}
use mathlib.Core.Path.{◌≡◌, refl}
use mathlib.Core.List.{List, [], ◌∷◌, ◌++◌, append_assoc}
use Rattle.pieces.specs.declared.Whole.{Whole}
use Rattle.std.specs.Prelude.{Option, Some}
use Rattle.verdict.specs.Changes.{Change, change_of, changes}
use Rattle.pieces.specs.declared.Records.{Records}
use Rattle.pieces.specs.Pieces.{wholes, TakesOne, TakesRest}
use Rattle.dump.specs.declared.writer.Writer.{Writer}
use Rattle.dump.specs.Pieces.{written_by, after}
use Rattle.dump.specs.Dump.{change_lines, last_cycle}

pub lines-append : (last : Option ℕ) (cs ds : List Change) → change_lines last (cs ++ ds) ≡ change_lines last cs ++ change_lines (last_cycle last cs) ds
unfolding change_lines last_cycle
lines-append last [] ds = refl
lines-append last (c ∷ cs) ds = rw (lines-append (Some c.cycle) cs ds) (simp append_assoc)

pub last-append : (last : Option ℕ) (cs ds : List Change) → last_cycle last (cs ++ ds) ≡ last_cycle (last_cycle last cs) ds
unfolding last_cycle
last-append last [] ds = refl
last-append last (c ∷ cs) ds = last-append (Some c.cycle) cs ds

-- ---- a call for the next record

-- the lines of what is left of a piece
abbrev pub left : Records → Option ℕ → List ℕ
left r last = written_by (record { part = r.part; last = last }) r.rest.now

-- and what is kept after it
abbrev pub kept : Records → Option ℕ → Writer
kept r last = after (record { part = r.part; last = last }) r.rest.now

module _ {r t : Records} {w : Whole} (one : TakesOne r w t) (last : Option ℕ) where
  pub left-one : left r last ≡ change_lines last (change_of w) ++ left t (last_cycle last (change_of w))
  unfolding written_by changes
  left-one = rw one.wholes (lines-append last (change_of w) (changes (wholes t.part t.rest.now)))

  pub kept-one : kept r last ≡ kept t (last_cycle last (change_of w))
  unfolding after changes
  kept-one = rw (one.wholes, one.part, last-append last (change_of w) (changes (wholes t.part t.rest.now)))

module _ {r t : Records} (rest : TakesRest r t) (last : Option ℕ) where
  pub left-none : left r last ≡ []
  unfolding written_by changes change_lines
  left-none = rw rest.wholes

  pub kept-none : kept r last ≡ record { part = t.part; last = last }
  unfolding after changes last_cycle
  kept-none = rw (rest.wholes, rest.part)
