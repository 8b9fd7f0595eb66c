-- Laws of lines: a loop over a line's words takes a step for each in turn, `Turning` its invariant.
use Rattle.std.proofs.Common.{◌≡◌, ℕ, ◌+◌, ◌-◌, ◌<◌, ◌≤◌, List, length, take, drop, sym, refl, ap, ◌∙◌, Result, Ok, Err}
use Rattle.std.specs.Bool.{⊤}
use Rattle.words.specs.Words.{find_of, skip_of, words, and_then}
use Rattle.words.proofs.Places.{AtWord, at-word, words-skipped, words_more, words-none}
use Rattle.words.specs.declared.Unreadable.{Unreadable}
use Rattle.pairs.specs.Pairs.{Takes, in_turn}

module _ {A E : Type 0} (f : A → List ℕ → Result A E) (text : List ℕ) where
  -- what the words passed leave, with those from the place on, makes what all make
  pub record Turning (start : A) (from : ℕ) (now : A) (at : ℕ) : Type 0 where
    pub place : AtWord text at
    pub rest : in_turn f now (words (drop at text)) ≡ in_turn f start (words (drop from text))

  -- before the first word
  pub turns_first : (a : A) (from at : ℕ) → at ≡ skip_of text from → Turning a from a at
  turns_first a from at e = record { place = at-word text from at e; rest = ap (in_turn f a) (words-skipped text from at e) }

  -- one word more, of which something follows or not
  step : {a b : A} {from at : ℕ} (end next : ℕ) (r : Result A E) → Turning a from b at → at < length text → end ≡ find_of text (at + 1) 32 → next ≡ skip_of text end
      → f b (take (end - at) (drop at text)) ≡ r → and_then r (λ k. in_turn f k (words (drop next text))) ≡ in_turn f a (words (drop from text))
  unfolding in_turn
  step {b = b} {at = at} end next r g h e n s = rw (← s) (sym (ap (in_turn f b) (words_more text at end next g.place h e n)) ∙ g.rest)

  pub turns_more : {a b c : A} {from at : ℕ} (end next : ℕ) → Turning a from b at → at < length text → end ≡ find_of text (at + 1) 32 → next ≡ skip_of text end
      → f b (take (end - at) (drop at text)) ≡ Ok c → Turning a from c next
  unfolding and_then
  turns_more {c = c} end next g h e n s = record { place = at-word text end next n; rest = step end next (Ok c) g h e n s }

  pub turns_stopped : {a b : A} {from at : ℕ} (end : ℕ) (why : E) → Turning a from b at → at < length text → end ≡ find_of text (at + 1) 32
      → f b (take (end - at) (drop at text)) ≡ Err why → in_turn f a (words (drop from text)) ≡ Err why
  unfolding and_then
  turns_stopped end why g h e s = sym (step end (skip_of text end) (Err why) g h e refl s)

  -- after the last
  pub turns_all : {a b : A} {from at : ℕ} → Turning a from b at → length text ≤ at → in_turn f a (words (drop from text)) ≡ Ok b
  unfolding in_turn
  turns_all {b = b} {at = at} g h = sym g.rest ∙ ap (in_turn f b) (words-none text at h)

-- keys taken in place, by what was told
module _ {K : Type 0} (r : Result K Unreadable) (told : Result ⊤ Unreadable) (new : K) where
  pub takes_ok : (done : ⊤) → Takes r told new → told ≡ Ok done → r ≡ Ok new
  takes_ok done t e = rw e at t

  pub takes_err : (why : Unreadable) → Takes r told new → told ≡ Err why → r ≡ Err why
  takes_err why t e = rw e at t
