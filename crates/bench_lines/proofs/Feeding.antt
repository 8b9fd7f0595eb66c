-- A script's lines as they are held, and as they are fed.
use Rattle.std.proofs.Common.{◌≡◌, ℕ, suc, ◌+◌, ◌-◌, ◌<◌, ◌≤◌, Bool, true, false, cond, eqb, ltb, List, [], ◌∷◌, ◌++◌, length, take, drop, sym, refl, ap, ◌∙◌, append-nil, arith, length-drop, ltb-true}
use native.Mathlib.Decide.{dec_le}
use mathlib.Core.List.{foldl, foldl-append}
use lib.Seq.{append_snoc}
use Rattle.words.specs.Words.{before, first_from, sought}
use Rattle.words.specs.Numbers.{between}
use Rattle.linewise.specs.Lines.{hold, holds, Holds, end_of, cut_of}
use Rattle.linewise.specs.Claims.{Read, reading, feed, fed}
use Rattle.linewise.specs.Texts.{Text, going}
use Rattle.linewise.proofs.Claims.{whole, too_long}
use Rattle.bench_lines.specs.Steps.{Held}

-- ---- what is held

module _ (line bytes : List ℕ) (h : Held line bytes) where
  -- a line that can be read is held whole
  pub held_whole : length line ≤ 500 → line ≡ bytes
  held_whole k = go (dec_le (length bytes) 500)
    where
      go : Dec (length bytes ≤ 500) → line ≡ bytes
      go (yes q) = h.after ∙ whole bytes q
      go (no q) =
          let e : length line ≡ 501 = ap (λ (l : List ℕ). length l) h.after ∙ too_long bytes (omega arith) in
          absurd (omega arith)

  -- more than can be held is more than can be read
  pub held_over : 500 < length line → 500 < length bytes
  held_over k = go (dec_le (length bytes) 500)
    where
      go : Dec (length bytes ≤ 500) → 500 < length bytes
      go (yes q) =
          let e : length line ≡ length bytes = ap (λ (l : List ℕ). length l) (h.after ∙ whole bytes q) in
          absurd (omega arith)
      go (no q) = omega arith

-- a line begins with nothing held
pub held_none : Held [] []
held_none = record { after = refl }

-- some bytes more are held
pub held_more : (line new bytes more : List ℕ) → Held line bytes → Holds line new more → Held new (bytes ++ more)
held_more line new bytes more h w = record { after = w.after ∙ ap (λ (x : List ℕ). holds x more) h.after ∙ sym (foldl-append hold [] bytes more) }

-- what is held of a line that goes on: nothing where it ended
pub held_on : (line : Text) (bytes : List ℕ) (t : Bool) → line.ended ≡ t → Held line.bytes bytes → Held (going line) (cond t [] bytes)
held_on line bytes true e h = rw e held_none
held_on line bytes false e h = rw e h

-- ---- what is fed

-- the test by which a line feed is sought
abbrev feeds : ℕ → Bool
feeds = sought 10 false

before-within : (xs : List ℕ) → before feeds xs ≤ length xs
unfolding before
before-within [] = omega arith
before-within (b ∷ bs) = go (eqb b 10) (before-within bs)
  where
    go : (t : Bool) → before feeds bs ≤ length bs → cond t 0 (suc (before feeds bs)) ≤ suc (length bs)
    go true h = omega arith
    go false h = omega arith

module _ (S : Type 0) (step : S → List ℕ → S) where
  -- a byte, or a line feed
  feed-on : (s : S) (l : List ℕ) (b : ℕ) → eqb b 10 ≡ false → feed step (reading s l) b ≡ reading s (l ++ b ∷ [])
  unfolding feed
  feed-on s l b e = rw e

  feed-end : (s : S) (l : List ℕ) (b : ℕ) → eqb b 10 ≡ true → feed step (reading s l) b ≡ reading (step s l) []
  unfolding feed
  feed-end s l b e = rw e

  -- bytes before a line feed make the line longer
  fed-before : (s : S) (l xs : List ℕ) → fed step (reading s l) (take (before feeds xs) xs) ≡ reading s (l ++ take (before feeds xs) xs)
  unfolding before
  fed-before s l [] = ap (reading s) (sym (append-nil l))
  fed-before s l (b ∷ bs) = go (eqb b 10) refl (fed-before s (l ++ b ∷ []) bs)
    where
      go : (t : Bool) → eqb b 10 ≡ t → fed step (reading s (l ++ b ∷ [])) (take (before feeds bs) bs) ≡ reading s ((l ++ b ∷ []) ++ take (before feeds bs) bs)
          → fed step (reading s l) (take (before feeds (b ∷ bs)) (b ∷ bs)) ≡ reading s (l ++ take (before feeds (b ∷ bs)) (b ∷ bs))
      go true e on = rw e (ap (reading s) (sym (append-nil l)))
      go false e on = rw e (ap (λ (x : Read S). foldl (feed step) x (take (before feeds bs) bs)) (feed-on s l b e) ∙ on ∙ ap (reading s) (append_snoc l b (take (before feeds bs) bs)))

  -- and the line feed hands it over
  fed-ended : (s : S) (l xs : List ℕ) → before feeds xs < length xs → fed step (reading s l) (take (suc (before feeds xs)) xs) ≡ reading (step s (l ++ take (before feeds xs) xs)) []
  unfolding before
  fed-ended s l [] h = absurd (omega arith)
  fed-ended s l (b ∷ bs) h = go (eqb b 10) refl h (fed-ended s (l ++ b ∷ []) bs)
    where
      go : (t : Bool) → eqb b 10 ≡ t → before feeds (b ∷ bs) < suc (length bs)
          → (before feeds bs < length bs → fed step (reading s (l ++ b ∷ [])) (take (suc (before feeds bs)) bs) ≡ reading (step s ((l ++ b ∷ []) ++ take (before feeds bs) bs)) [])
          → fed step (reading s l) (take (suc (before feeds (b ∷ bs))) (b ∷ bs)) ≡ reading (step s (l ++ take (before feeds (b ∷ bs)) (b ∷ bs))) []
      go true e k on = rw e (feed-end s l b e ∙ ap (λ (x : List ℕ). reading (step s x) []) (sym (append-nil l)))
      go false e k on =
          let q : suc (before feeds bs) < suc (length bs) = rw e at k in
          rw e (ap (λ (x : Read S). foldl (feed step) x (take (suc (before feeds bs)) bs)) (feed-on s l b e) ∙ on (omega arith) ∙ ap (λ (x : List ℕ). reading (step s x) []) (append_snoc l b (take (before feeds bs) bs)))

  module _ (s : S) (l input : List ℕ) (from : ℕ) (h : from < length input) where
    -- where a line ends
    end_is : end_of input from ≡ from + before feeds (drop from input)
    unfolding first_from
    end_is =
        let n = before-within (drop from input) in
        let k = length-drop from input in
        omega arith

    -- what is read up to there, or behind the line feed
    pub cut-feeds : fed step (reading s l) (between input from (cut_of input from).at)
        ≡ cond (cut_of input from).ended (reading (step s (l ++ between input from (end_of input from))) []) (reading s (l ++ between input from (end_of input from)))
    unfolding cut_of
    cut-feeds = go (ltb (end_of input from) (length input)) refl
      where
        m : ℕ
        m = before feeds (drop from input)

        to : end_of input from - from ≡ m
        to = let e = end_is in omega arith

        go : (t : Bool) → ltb (end_of input from) (length input) ≡ t
            → fed step (reading s l) (between input from (cond t (end_of input from + 1) (end_of input from)))
            ≡ cond t (reading (step s (l ++ between input from (end_of input from))) []) (reading s (l ++ between input from (end_of input from)))
        go true e =
            let q = ltb-true (end_of input from) (length input) e in
            let w : end_of input from + 1 - from ≡ suc m = let i = end_is in omega arith in
            rw (w, to) (fed-ended s l (drop from input) (let i = end_is in let k = length-drop from input in omega arith))
        go false e = rw to (fed-before s l (drop from input))
