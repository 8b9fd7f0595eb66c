-- Laws of the places that a test finds in a text, and of the words that stand there.
use Rattle.std.proofs.Common.{◌≡◌, ℕ, suc, ◌+◌, ◌-◌, ◌<◌, ◌≤◌, min, Bool, true, false, cond, not, eqb, List, [], ◌∷◌, length, get_or, take, drop, sym, refl, ap, ◌∙◌, add-one, arith, length-drop, drop_of_length-le, get_or-drop, take_all, drop-cons, drop-drop}
use native.Mathlib.Decide.{dec_le}
use borrow.Author.Tests.{not-true}
use mathlib.Core.Bool.{beq}
use lib.Seq.{drop-length, drop-nil}
use Rattle.words.specs.Words.{before, first_from, sought, find_of, skip_of, words, begun, onto}

-- the test as the code has it
pub test_sought : (t another : Bool) → not (beq t another) ≡ cond another (not t) t
test_sought true true = refl
test_sought true false = refl
test_sought false true = refl
test_sought false false = refl

module _ (p : ℕ → Bool) where
  before-within : (l : List ℕ) → before p l ≤ length l
  unfolding before
  before-within [] = omega arith
  before-within (b ∷ bs) = go (p b) (before-within bs)
    where
      go : (t : Bool) → before p bs ≤ length bs → cond t 0 (suc (before p bs)) ≤ suc (length bs)
      go true h = omega arith
      go false h = omega arith

  -- a place from one on, at most the text's end
  pub first-within : (text : List ℕ) (from : ℕ) → (min from (length text) ≤ first_from p text from) × (first_from p text from ≤ length text)
  unfolding first_from
  first-within text from = (omega arith, omega arith)

  -- where the text ends
  pub first_none : (text : List ℕ) (i : ℕ) → length text ≤ i → first_from p text i ≡ length text
  unfolding first_from
  first_none text i h = omega arith

  -- at a byte that passes
  pub first_here : (text : List ℕ) (i : ℕ) → i < length text → p (get_or text i 0) ≡ true → first_from p text i ≡ i
  unfolding first_from before
  first_here text i h t = rw (drop-cons text i 0 h, t) (omega arith)

  -- after one that does not
  pub first_later : (text : List ℕ) (i : ℕ) → i < length text → p (get_or text i 0) ≡ false → first_from p text (i + 1) ≡ first_from p text i
  unfolding first_from before
  first_later text i h t = rw (add-one i, drop-cons text i 0 h, t) (omega arith)

  before-passes : (l : List ℕ) → before p l < length l → p (get_or l (before p l) 0) ≡ true
  unfolding before
  before-passes [] h = absurd (omega arith)
  before-passes (b ∷ bs) h = go (p b) refl (before-passes bs) h
    where
      go : (t : Bool) → p b ≡ t → (before p bs < length bs → p (get_or bs (before p bs) 0) ≡ true)
          → cond t 0 (suc (before p bs)) < suc (length bs) → p (get_or (b ∷ bs) (cond t 0 (suc (before p bs))) 0) ≡ true
      go true e rest q = e
      go false e rest q = rest (omega arith)

  -- what stands at the place passes
  pub first_passes : (text : List ℕ) (from : ℕ) → first_from p text from < length text → p (get_or text (first_from p text from) 0) ≡ true
  unfolding first_from
  first_passes text from h =
      let n = length-drop from text in
      let e : min (from + before p (drop from text)) (length text) ≡ from + before p (drop from text) = omega arith in
      rw (e, ← get_or-drop from text (before p (drop from text)) 0) (before-passes (drop from text) (omega arith))

  -- what a text holds from the place on
  pub drop-first : (text : List ℕ) (from : ℕ) → drop (first_from p text from) text ≡ drop (before p (drop from text)) (drop from text)
  unfolding first_from
  drop-first text from = go (dec_le from (length text))
    where
      go : Dec (from ≤ length text) → drop (min (from + before p (drop from text)) (length text)) text ≡ drop (before p (drop from text)) (drop from text)
      go (yes h) =
          let n = length-drop from text in
          let b = before-within (drop from text) in
          let e : min (from + before p (drop from text)) (length text) ≡ from + before p (drop from text) = omega arith in
          rw e (sym (drop-drop (before p (drop from text)) from text))
      go (no h) =
          let e : min (from + before p (drop from text)) (length text) ≡ length text = omega arith in
          let m : length text ≤ from = omega arith in
          let d : drop from text ≡ [] = drop_of_length-le text m in
          rw (e, drop-length text, d) (sym (drop-nil (before p [])))

-- what stands in a text from a place on
pub rest_of : (l : List ℕ) (n : ℕ) → take (length l - n) (drop n l) ≡ drop n l
rest_of l n = take_all (length l - n) (drop n l) (omega (arith, length-drop n l))

-- ---- words

-- where a word that begins at a place ends
find-after : (text : List ℕ) (at : ℕ) → at < length text → find_of text (at + 1) 32 - at ≡ suc (before (sought 32 false) (drop (suc at) text))
unfolding first_from
find-after text at h =
    let n = length-drop (suc at) text in
    let b = before-within (sought 32 false) (drop (suc at) text) in
    rw (add-one at) (omega arith)

-- a text's words are those from its first byte on that is no space
words-skip : (l : List ℕ) → words l ≡ words (drop (before (sought 32 true) l) l)
unfolding words before
words-skip [] = refl
words-skip (b ∷ bs) = go (eqb b 32) refl (words-skip bs)
  where
    go : (t : Bool) → eqb b 32 ≡ t → words bs ≡ words (drop (before (sought 32 true) bs) bs)
        → words (b ∷ bs) ≡ words (drop (cond (not t) 0 (suc (before (sought 32 true) bs))) (b ∷ bs))
    go true e rest = rw e rest
    go false e rest = refl

-- a byte that is no space begins a word
begin-word : (b : ℕ) (bs : List ℕ) → eqb b 32 ≡ false → words (b ∷ bs) ≡ begun b bs (words bs)
unfolding words
begin-word b bs h = rw h

-- or goes on with it
go_on : (b c : ℕ) (cs : List ℕ) (ws : List (List ℕ)) → eqb c 32 ≡ false → begun b (c ∷ cs) ws ≡ onto b ws
unfolding begun
go_on b c cs ws h = rw h

-- a word is followed by a space or by nothing
words-begin : (b : ℕ) (bs : List ℕ) → eqb b 32 ≡ false
    → words (b ∷ bs) ≡ (b ∷ take (before (sought 32 false) bs) bs) ∷ words (drop (before (sought 32 false) bs) bs)
unfolding before begun onto
words-begin b [] h = begin-word b [] h
words-begin b (c ∷ cs) h = go (eqb c 32) refl (words-begin c cs)
  where
    go : (t : Bool) → eqb c 32 ≡ t → (eqb c 32 ≡ false → words (c ∷ cs) ≡ (c ∷ take (before (sought 32 false) cs) cs) ∷ words (drop (before (sought 32 false) cs) cs))
        → words (b ∷ c ∷ cs) ≡ (b ∷ take (before (sought 32 false) (c ∷ cs)) (c ∷ cs)) ∷ words (drop (before (sought 32 false) (c ∷ cs)) (c ∷ cs))
    go true e rest = begin-word b (c ∷ cs) h ∙ rw e
    go false e rest = begin-word b (c ∷ cs) h ∙ go_on b c cs (words (c ∷ cs)) e ∙ ap (onto b) (rest e) ∙ rw e

-- from a place on, the words are those from the next place on that is no space
pub words-from : (text : List ℕ) (from : ℕ) → words (drop from text) ≡ words (drop (skip_of text from) text)
words-from text from = words-skip (drop from text) ∙ ap words (sym (drop-first (sought 32 true) text from))

-- a word at a place, and those after it
pub words-at : (text : List ℕ) (at : ℕ) → at < length text → eqb (get_or text at 0) 32 ≡ false
    → words (drop at text) ≡ take (find_of text (at + 1) 32 - at) (drop at text) ∷ words (drop (skip_of text (find_of text (at + 1) 32)) text)
words-at text at h t =
    let rest = drop (suc at) text in
    let n = before (sought 32 false) rest in
    let e : find_of text (at + 1) 32 - at ≡ suc n = find-after text at h in
    let d : drop at text ≡ get_or text at 0 ∷ rest = drop-cons text at 0 h in
    let f : drop (find_of text (at + 1) 32) text ≡ drop n rest =
    drop-first (sought 32 false) text (at + 1) ∙ ap (λ (k : ℕ). drop (before (sought 32 false) (drop k text)) (drop k text)) (add-one at) in
    rw (e, ← words-from text (find_of text (at + 1) 32), f, d) (words-begin (get_or text at 0) rest t)

-- a place at which a word begins, or the text's end
abbrev pub AtWord : List ℕ → ℕ → Type 0
AtWord text at = (at ≤ length text) × (at < length text → eqb (get_or text at 0) 32 ≡ false)

-- after spaces
pub at-word : (text : List ℕ) (from at : ℕ) → at ≡ skip_of text from → AtWord text at
at-word text from at e =
    rw e ((first-within (sought 32 true) text from).1, λ h. not-true _ (first_passes (sought 32 true) text from h))

-- the words from a place on are those from the next on at which one begins
pub words-skipped : (text : List ℕ) (from at : ℕ) → at ≡ skip_of text from → words (drop at text) ≡ words (drop from text)
words-skipped text from at e = rw e (sym (words-from text from))

-- a word, and those after it
pub words_more : (text : List ℕ) (at end next : ℕ) → AtWord text at → at < length text → end ≡ find_of text (at + 1) 32 → next ≡ skip_of text end
    → words (drop at text) ≡ take (end - at) (drop at text) ∷ words (drop next text)
words_more text at end next w h e n = rw (n, e) (words-at text at h (w.1 h))

-- none at the text's end
pub words-none : (text : List ℕ) (at : ℕ) → length text ≤ at → words (drop at text) ≡ []
unfolding words
words-none text at h = rw (drop_of_length-le text h)
