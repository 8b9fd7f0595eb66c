-- What is proved of a script in a session beside the functions.
use Rattle.std.specs.Prelude.{Ok, Err, Result, ⊤}
use Prim.Native.Nat.{ℕ}
use native.Mathlib.Omega.{arith}
use mathlib.Core.Bool.{Bool, true, false, cond}
use mathlib.Core.List.{List, [], ◌∷◌, ◌++◌, append_assoc, foldl-append}
use mathlib.Core.Path.{◌≡◌, refl, ap, ◌∙◌}
use lib.Dec.{eqb}
use lib.ListN.{length-append}
use Rattle.figures.specs.Figures.{text}
use Rattle.page.specs.Page.{unreadable_of}
use Rattle.page.proofs.Lengths.{either}
use Rattle.linewise.specs.Claims.{Read, reading, feed, fed}
use Rattle.bench_lines.specs.Steps.{State, step_of}
use Rattle.bench_lines.proofs.Claims.{longest-holds}
use Rattle.session.specs.declared.settles.Fault.{Fault}
use Rattle.session.specs.declared.settles.Fault.TheVariants as fault
use Rattle.session.specs.Files.{asks_of, settled_of, Filed, filed, file_of}
use Rattle.session.specs.Claims.{TakesLine, TakesAll, PieceAfterPiece, FiledLongest}
use Rattle.session.proofs.Settling.{unwritten-short, unopened-short}

pub takes-line : TakesLine
unfolding settled_of
takes-line s line = refl

-- ---- a file that takes all

abbrev states : Read Filed → Read State
states x = reading x.left.state x.line

-- a line, whatever it asks
file-all : (s : State) (line : List ℕ) → file_of (filed s []) line ≡ filed (step_of s line) []
file-all s line = either (λ (f : Filed). f ≡ filed (step_of s line) []) (asks_of (step_of s line).bench) refl refl

-- a line feed, or any other byte
all-byte : (s : State) (line bs : List ℕ) (b : ℕ) (t : Bool)
    → states (fed file_of (reading (filed (step_of s line) []) []) bs) ≡ fed step_of (reading (step_of s line) []) bs
    → states (fed file_of (reading (filed s []) (line ++ b ∷ [])) bs) ≡ fed step_of (reading s (line ++ b ∷ [])) bs
    → states (fed file_of (cond t (reading (file_of (filed s []) line) []) (reading (filed s []) (line ++ b ∷ []))) bs) ≡ fed step_of (cond t (reading (step_of s line) []) (reading s (line ++ b ∷ []))) bs
all-byte s line bs b true ended on = ap (λ (f : Filed). states (fed file_of (reading f []) bs)) (file-all s line) ∙ ended
all-byte s line bs b false ended on = on

pub takes_all : TakesAll
unfolding feed
takes_all s bytes [] = refl
takes_all s bytes (b ∷ bs) = all-byte s bytes bs b (eqb b 10) (takes_all (step_of s bytes) [] bs) (takes_all s (bytes ++ b ∷ []) bs)

-- ---- piece after piece

pub piece-after-piece : PieceAfterPiece
piece-after-piece s bytes first second b b' shelf shelf' l l' one two line one' two' line' x y = record {
  whys = x.whys ++ y.whys;
  answers = y.answers;
  rest = y.rest;
  feeds = λ more.
      ap (λ (q : List (Result ⊤ Fault)). fed file_of (reading (filed s q) bytes) (first ++ second)) (append_assoc x.whys y.whys more)
      ∙ foldl-append (feed file_of) (reading (filed s (x.whys ++ (y.whys ++ more))) bytes) first second
      ∙ ap (λ (q : Read Filed). fed file_of q second) (x.feeds (y.whys ++ more))
      ∙ y.feeds more;
  held = y.held;
}

-- ---- how long the answer is

pub filed-longest : FiledLongest
unfolding settled_of
filed-longest s line (Ok done) = longest-holds.0 s line
filed-longest s line (Err fault.NotWritten) =
    let a = length-append s.answers (text "door.log not written\n") in
    let m = unwritten-short in
    omega arith
filed-longest s line (Err (fault.Unread why)) =
    let nth = (step_of s line).bench.line in
    let b = length-append s.answers (unreadable_of nth why ++ 10 ∷ []) in
    let n = unopened-short nth why in
    omega arith
