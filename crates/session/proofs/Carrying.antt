-- Piece after piece, by what was read and what the file answered.
use Rattle.std.specs.Prelude.{Result, ⊤}
use Prim.Native.Nat.{ℕ, ◌-◌, ◌≤◌}
use native.Mathlib.Omega.{arith}
use mathlib.Core.List.{List, [], ◌∷◌, ◌++◌, foldl-append}
use mathlib.Core.Path.{◌≡◌, sym, ap, subst, ◌∙◌}
use lib.ListN.{length}
use lib.Seq.{append_snoc, take_all}
use Rattle.words.specs.Numbers.{between}
use Rattle.linewise.specs.Claims.{Read, reading, feed, fed}
use Rattle.bench_lines.specs.declared.desk.Bench.{Bench}
use Rattle.bench_lines.specs.declared.desk.Desk.{Desk}
use Rattle.bench_lines.specs.declared.desk.Shelf.{Shelf}
use Rattle.bench_lines.specs.Named.{Lent}
use Rattle.bench_lines.specs.Steps.{State, Held}
use Rattle.bench_lines.specs.Claims.{left}
use Rattle.session.specs.declared.runs.Asked.{Asked}
use Rattle.session.specs.declared.settles.Fault.{Fault}
use Rattle.session.specs.Files.{Filed, filed, filed_step, file_of}
use Rattle.session.specs.Runs.{Leaves, Reads, Asks, Carries}
use Rattle.session.proofs.Going.{between_none, between-then}

-- nothing yet
pub carries-none : (b : Bench) (shelf : Shelf) (l : Lent) (one two line answers bytes input : List ℕ) (start : ℕ) → Held line bytes
    → Carries (left b shelf l one two answers) bytes (between input start start) b shelf l one two line
carries-none b shelf l one two line answers bytes input start h = record {
  whys = [];
  answers = answers;
  rest = bytes;
  feeds = λ more. ap (fed file_of (reading (filed (left b shelf l one two answers) more) bytes)) (between_none input start);
  held = h;
}

module _ (s : State) (bytes input : List ℕ) (start i next : ℕ) (b : Bench) (shelf : Shelf) (l : Lent) (one two line : List ℕ)
    (x : Carries s bytes (between input start i) b shelf l one two line) (a : start ≤ i) (k : i ≤ next) where
  -- where it stands
  abbrev pub there : State
  there = left b shelf l one two x.answers

  on : (more : List (Result ⊤ Fault)) → fed file_of (reading (filed s (x.whys ++ more)) bytes) (between input start next) ≡ fed file_of (reading (filed there more) x.rest) (between input i next)
  on more =
      ap (fed file_of (reading (filed s (x.whys ++ more)) bytes)) (between-then input start i next a k)
      ∙ foldl-append (feed file_of) (reading (filed s (x.whys ++ more)) bytes) (between input start i) (between input i next)
      ∙ ap (λ (q : Read Filed). fed file_of q (between input i next)) (x.feeds more)

  -- lines that ask nothing of the file
  pub carries-reads : (old : List ℕ) (d : Desk) (m : Lent) (one' two' line' new : List ℕ) → Reads there x.rest (between input i next) old d m one' two' line' new
      → Carries s bytes (between input start next) d.bench d.shelf m one' two' line'
  carries-reads old d m one' two' line' new y = record {
    whys = x.whys;
    answers = x.answers ++ y.leaves.said;
    rest = y.rest;
    feeds = λ more. on more ∙ y.feeds more ∙ ap (λ (q : State). reading (filed q more) y.rest) (sym y.leaves.state);
    held = y.held;
  }

  -- and one that asks, with the file's answer
  pub carries-asks : (old : List ℕ) (asked : Asked) (d : Desk) (m : Lent) (one' two' line' new : List ℕ) (y : Asks there x.rest (between input i next) old asked d m one' two' line' new)
      (why : Result ⊤ Fault) (r : Desk) (last : List ℕ) → Leaves y.was (filed_step y.was y.text why) y.page r m one' two' last
      → Carries s bytes (between input start next) r.bench r.shelf m one' two' line'
  carries-asks old asked d m one' two' line' new y why r last z = record {
    whys = x.whys ++ why ∷ [];
    answers = y.was.answers ++ z.said;
    rest = [];
    feeds = λ more.
        ap (λ (q : List (Result ⊤ Fault)). fed file_of (reading (filed s q) bytes) (between input start next)) (append_snoc x.whys why more)
        ∙ on (why ∷ more)
        ∙ y.feeds why more
        ∙ ap (λ (q : State). reading (filed q more) []) (sym z.state);
    held = y.held;
  }

-- and so all of a piece
pub carries-all : (s : State) (bytes input : List ℕ) (i : ℕ) (b : Bench) (shelf : Shelf) (l : Lent) (one two line : List ℕ)
    → Carries s bytes (between input 0 i) b shelf l one two line → length input ≤ i → Carries s bytes input b shelf l one two line
carries-all s bytes input i b shelf l one two line x h =
    subst (λ (piece : List ℕ). Carries s bytes piece b shelf l one two line) (take_all (i - 0) input (omega arith)) x
