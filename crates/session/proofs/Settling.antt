-- Other bytes in an answer's place.
use Rattle.std.specs.Prelude.{Err}
use Prim.Native.Nat.{ℕ, ◌≤◌}
use native.Mathlib.Omega.{arith}
use mathlib.Core.Bool.{true}
use mathlib.Core.List.{List, [], ◌∷◌, ◌++◌}
use mathlib.Core.Path.{◌≡◌, sym, ap, ◌∙◌}
use lib.ListN.{length, take, length-append}
use lib.Seq.{take-append-le, take_all}
use Rattle.figures.specs.Figures.{text}
use Rattle.words.specs.declared.Unreadable.{Unreadable}
use Rattle.page.specs.Page.{Puts, unreadable_of}
use Rattle.page.proofs.Lengths.{said, unreadable-short}
use Rattle.bench_lines.specs.declared.desk.Bench.{Bench}
use Rattle.bench_lines.specs.declared.desk.Desk.{Desk}
use Rattle.bench_lines.specs.declared.desk.Shelf.{Shelf}
use Rattle.bench_lines.specs.Desk.{Sound}
use Rattle.bench_lines.specs.Named.{Lent}
use Rattle.bench_lines.specs.Steps.{State, step_of}
use Rattle.bench_lines.specs.Claims.{left}
use Rattle.session.specs.Files.{at_line, settled_of, filed_step}
use Rattle.session.specs.declared.settles.Fault.TheVariants as fault
use Rattle.session.specs.Runs.{roomy_of, Leaves}
use Rattle.session.proofs.Showing.{put_shows}

-- ---- how long they are

pub unwritten-short : length (text "door.log not written\n") ≤ 50
unwritten-short = said "door.log not written\n" (omega arith)

pub unopened-short : (nth : ℕ) (why : Unreadable) → length (unreadable_of nth why ++ 10 ∷ []) ≤ 50
unopened-short nth why =
    let n = length-append (unreadable_of nth why) (10 ∷ []) in
    let k = unreadable-short nth why in
    omega arith

-- a line's number is no part of what is sound
pub sound-at : (b : Bench) (line : ℕ) → Sound b → Sound (at_line b line)
sound-at b line s = record { timer = s.timer; watchdog = s.watchdog; door = s.door; ring = s.ring }

module _ (was : State) (line old : List ℕ) (d : Desk) (l : Lent) (one two page : List ℕ)
    (x : Leaves was (step_of was line) old d l one two page) (h : roomy_of old ≡ true) (from : ℕ) (f : from ≡ length old) where
  -- what stood before the answer
  front : take from page ≡ old
  front = ap (take from) x.shows ∙ ap (λ (n : ℕ). take n (old ++ x.said)) f ∙ take-append-le (length old) old x.said (omega arith) ∙ take_all (length old) old (omega arith)

  -- other bytes behind it
  over : {new bytes : List ℕ} → Puts (take from page) new bytes → length bytes ≤ 50 → new ≡ old ++ bytes
  over {new} {bytes} p k = put_shows (rw front at p) h (omega arith)

  -- the file did not take the records
  pub settled-unwritten : (new : List ℕ) → Puts (take from page) new (text "door.log not written\n") → Leaves was (filed_step was line (Err fault.NotWritten)) old d l one two new
  unfolding settled_of
  settled-unwritten new p = record {
    said = text "door.log not written\n";
    state = ap (λ (s : State). left s.bench s.shelf s.lent s.one s.two (was.answers ++ text "door.log not written\n")) x.state;
    shows = over p unwritten-short;
  }

  -- it was not opened
  pub settled-unopened : (before : Desk) (new : List ℕ) (why : Unreadable) → was.bench ≡ before.bench → was.shelf ≡ before.shelf
      → Puts (take from page) new (unreadable_of d.bench.line why ++ 10 ∷ [])
      → Leaves was (filed_step was line (Err (fault.Unread why))) old (record { bench = at_line before.bench d.bench.line; shelf = before.shelf }) l one two new
  unfolding settled_of
  settled-unopened before new why eb es p =
      let bytes = was.answers ++ (unreadable_of d.bench.line why ++ 10 ∷ []) in
      record {
        said = unreadable_of d.bench.line why ++ 10 ∷ [];
        state =
            ap (λ (b : Bench). left (at_line b d.bench.line) before.shelf l one two bytes) (sym eb)
            ∙ ap (λ (k : Shelf). left (at_line was.bench d.bench.line) k l one two bytes) (sym es)
            ∙ ap (λ (s : State). left (at_line was.bench s.bench.line) was.shelf s.lent s.one s.two (was.answers ++ (unreadable_of s.bench.line why ++ 10 ∷ []))) x.state;
        shows = over p (unopened-short d.bench.line why);
      }
