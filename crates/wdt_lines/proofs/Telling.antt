-- What is told of a call's result.
use Prim.Native.Nat.{ℕ, ◌<◌, ◌≤◌}
use mathlib.Core.List.{List, ◌++◌}
use mathlib.Core.Path.{◌≡◌, refl, sym, ap}
use borrow.Author.Tests.{lt-ltb, le-ltb, ne_eqb}
use lib.ListN.{length}
use Rattle.std.specs.Prelude.{Option, Some, Result, Ok, Err}
use Rattle.words.specs.Words.{skip_of, find_of, place_of}
use Rattle.words.specs.Numbers.{between}
use Rattle.figures.specs.Figures.{text, number}
use Rattle.page.specs.Page.{Puts}
use Rattle.room.specs.Room.{changed_at}
use Rattle.oscillator.specs.declared.state.Watchdog.{Watchdog}
use Rattle.watchdog.specs.declared.outcome.Answer.{Answer}
use Rattle.watchdog.specs.declared.outcome.Answer.TheVariants as answer
use Rattle.watchdog.specs.declared.outcome.Outcome.{Outcome}
use Rattle.watchdog.specs.declared.outcome.Refusal.{Refusal}
use Rattle.watchdog.specs.Outcome.{Told, Tells, values_of, heard}
use Rattle.watchdog.specs.declared.calls.Call.{Call}
use Rattle.wdt_lines.specs.Asked.{names, named_of, line_of}
use Rattle.wdt_lines.specs.Shown.{unless_refused, answer_of}
use Rattle.wdt_lines.specs.Called.{told_of, left_by, called_of, behind, Leaves}

-- an accepted call's answer is no refusal
pub after_accepted : (a : Answer) (left : List ℕ) → unless_refused (values_of a) left ≡ left
unfolding unless_refused
after_accepted answer.Done left = refl
after_accepted (answer.Value v) left = refl
after_accepted (answer.Next n) left = refl
after_accepted (answer.Paused c) left = refl

module _ (w : Watchdog) (r : Result Outcome Refusal) (area : List ℕ) where
  -- the area is told as it is
  pub heard_area : (heard w r area).area ≡ area
  heard_area = go r
    where
      go : (r : Result Outcome Refusal) → (heard w r area).area ≡ area
      go (Ok o) = refl
      go (Err why) = refl

  module _ (old new : List ℕ) (end k : ℕ) (ek : k ≡ (heard w r area).written) (ee : end ≡ changed_at area k) where
    -- a call that kept to its area, or not
    pub told_changed : end < length area → Puts old new (text "area changed at " ++ number end) → Puts old new (told_of (heard w r area))
    unfolding told_of
    told_changed h p = rw (heard_area, ← ek, ← ee, lt-ltb end (length area) h) p

    pub told_plain : length area ≤ end → Puts old new (answer_of (heard w r area)) → Puts old new (told_of (heard w r area))
    unfolding told_of
    told_plain h p = rw (heard_area, ← ek, ← ee, le-ltb end (length area) h) p

  -- what a call leaves
  pub call_leaves : (x : Told) (old new : List ℕ) (v : Watchdog) → Tells x w r area → v ≡ (heard w r area).watchdog → Puts old new (told_of (heard w r area)) → Leaves (left_by x) old new area (Some v)
  call_leaves x old new v t e p =
      rw (← t.told) (record { watchdog = ap (λ (y : Watchdog). Some y) e; area = sym heard_area; puts = p; valid = rw e t.valid })

-- a call on a part of the area
pub part_leaves : (w : Watchdog) (c : Call) (cycle size n : ℕ) (old new part rest : List ℕ) (r : Option Watchdog) → n ≡ size → Leaves (called_of w c cycle n) old new part r
    → Leaves (behind (called_of w c cycle size) rest) old new (part ++ rest) r
part_leaves w c cycle size n old new part rest r e l =
    let m : Leaves (called_of w c cycle size) old new part r = rw (← e) l in
    record { watchdog = m.watchdog; area = ap (λ (p : List ℕ). p ++ rest) m.area; puts = m.puts; valid = m.valid }

-- a line by its words
module _ (line : List ℕ) (at start end : ℕ) (es : start ≡ skip_of line at) (h : start ≡ length line → ⊥) (ee : end ≡ find_of line start 32) where
  pub line_named : line_of line at ≡ named_of line end (place_of names (between line start end))
  unfolding line_of
  line_named = rw (← es, ne_eqb start (length line) h, ← ee) refl
