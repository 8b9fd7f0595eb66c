-- What an order tells.
use Rattle.std.proofs.Common.{◌≡◌, refl, sym, ap, ◌∙◌, ℕ, List, true, false, Option, Some, IfSome}
use Rattle.figures.specs.Figures.{text}
use Rattle.page.specs.Page.{Puts}
use Rattle.answers.specs.Answers.{Values, answer_of, number_of, values_of}
use Rattle.answers.specs.declared.Answer.{Answer}
use Rattle.answers.proofs.Determined.{determined}
use Rattle.board.specs.Calls.{Areas, areas_of, nothing, Told, Tells}
use Rattle.board.specs.State.{Valid, fresh_board}
use Rattle.board.specs.declared.outcome.Outcome.{Outcome}
use Rattle.board.specs.declared.outcome.Written.{Written}
use Rattle.board.specs.declared.state.Board.{Board}
use Rattle.board_lines.specs.declared.ordered.Left.{Left}
use Rattle.board_lines.specs.Ordered.{Leaves, saying, fresh_of, outcome_of, told_of}

-- number and values say the answer
answer-is : (a : Answer) (n : ℕ) (v : Values) → number_of a ≡ n → values_of a ≡ v → a ≡ answer_of n v
answer-is a n v en ev = sym (determined a) ∙ ap (λ (k : ℕ). answer_of k (values_of a)) en ∙ ap (answer_of n) ev

-- what is told of an outcome is the outcome
outcome-is : (x : Told) (o : Outcome) (zero one two : List ℕ) → Tells x o zero one two → o ≡ outcome_of x
outcome-is x o zero one two t =
    ap (λ (a : Answer). record { answer = a; board = o.board; written = o.written }) (answer-is o.answer x.number x.values t.number t.values)
    ∙ rw (t.board, t.written)

areas-are : (x : Told) (o : Outcome) (zero one two : List ℕ) → Tells x o zero one two → areas_of zero one two ≡ x.areas
areas-are x o zero one two t = rw (t.zero, t.one, t.two)

-- one outcome for another
told-as : (o u : Outcome) (areas after : Areas) (zero one two old new : List ℕ) (l : Left) → o ≡ u → areas ≡ after
    → Leaves (told_of o areas) old new zero one two l → Leaves (told_of u after) old new zero one two l
told-as o u areas after zero one two old new l eo ea k = rw (← eo, ← ea) k

pub told_leaves : (x : Told) (o : Outcome) (zero one two old new : List ℕ) (l : Left) → Tells x o zero one two
    → Leaves (told_of o (areas_of zero one two)) old new zero one two l → Leaves (told_of (outcome_of x) x.areas) old new zero one two l
told_leaves x o zero one two old new l t k =
    told-as o (outcome_of x) (areas_of zero one two) x.areas zero one two old new l (outcome-is x o zero one two t) (areas-are x o zero one two t) k

-- ---- a line that writes no record

-- the board stays as it was, if there is one
pub stays : {old new bytes zero one two : List ℕ} (b : Option Board) (r : Left) → IfSome b Valid → r ≡ record { board = b; written = nothing; fresh = false } → Puts old new bytes
    → Leaves (saying b (areas_of zero one two) bytes) old new zero one two r
stays b r v e p = rw e (record { board = refl; written = refl; fresh = refl; zero = refl; one = refl; two = refl; puts = p; valid = v })

-- or is a fresh one
pub made_fresh : {old new zero one two : List ℕ} (b : Board) (w : Written) → (b ≡ fresh_board) × Valid b → w ≡ nothing → Puts old new (text "ok config")
    → Leaves (fresh_of (areas_of zero one two)) old new zero one two (record { board = Some b; written = w; fresh = true })
made_fresh b w (e, v) n p = record { board = ap Some e; written = n; fresh = refl; zero = refl; one = refl; two = refl; puts = p; valid = v }
