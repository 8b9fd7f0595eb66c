-- Laws of what reading a word of digits stores.
use Rattle.std.proofs.Common.{◌≡◌, ℕ, ◌+◌, ◌/◌, ◌%◌, ◌<◌, ◌≤◌, Bool, true, false, cond, eqb, leb, List, [], ◌∷◌, ◌++◌, length, get_or, take, drop, refl, sym, ap, ◌∙◌, arith, add-one, append-nil, length-append, length-take, take-append-drop, take_all, Result, Ok, Err, is_ok}
use Rattle.std.specs.Result.{result_unwrap_or}
use mathlib.Core.Bool.{false≢true}
use lib.ListN.{set, length-set}
use lib.Seq.{drop-cons, set_at, append_snoc, take-append_seam}
use borrow.Author.Tests.{eq-eqb, ne_eqb, le-leb, lt-leb}
use Rattle.std.specs.Simd.{first_chunks}
use Rattle.std.specs.Str.{bytes_eq}
use Rattle.figures.specs.Figures.{codes, text}
use Rattle.words.specs.declared.Unreadable.{Unreadable}
use Rattle.words.specs.declared.Unreadable.TheVariants as unreadable
use Rattle.words.specs.Words.{find_of, skip_of, and_then}
use Rattle.words.specs.Numbers.{numeral_of, between}
use Rattle.digits.specs.Spelling.{paired, spelt, word_of, bytes_of}
use Rattle.digits.specs.Storing.{onto_read, leading, stored, stored_word, stored_of, counted, Stores}
use Rattle.digits.proofs.Pairing.{paired_more, paired_failed, spelt_paired}

-- what is read is one
got : {x y : List ℕ} → ◌≡◌ {A = Result (List ℕ) Unreadable} (Ok x) (Ok y) → x ≡ y
got e = ap (λ (r : Result (List ℕ) Unreadable). result_unwrap_or r []) e

-- ---- pairs

-- pairs that are read, then others
leading-append : (a b : List (List ℕ)) (bytes : List ℕ) → paired a ≡ Ok bytes → leading (a ++ b) ≡ bytes ++ leading b
unfolding leading paired and_then onto_read
leading-append [] b bytes e = ap (λ (x : List ℕ). x ++ leading b) (got e)
leading-append (p ∷ a) b bytes e = go (numeral_of p 16 255) (paired a) e (leading-append a b)
  where
    go : (r : Result ℕ Unreadable) (s : Result (List ℕ) Unreadable) → and_then r (λ n. and_then s (λ l. Ok (n ∷ l))) ≡ Ok bytes
        → ((l : List ℕ) → s ≡ Ok l → leading (a ++ b) ≡ l ++ leading b) → onto_read r (leading (a ++ b)) ≡ bytes ++ leading b
    go (Ok n) (Ok l) q rest = ap (λ (x : List ℕ). n ∷ x) (rest l refl) ∙ ap (λ (x : List ℕ). x ++ leading b) (got q)
    go (Ok n) (Err w) q rest = absurd (false≢true (ap is_ok q))
    go (Err w) s q rest = absurd (false≢true (ap is_ok q))

-- all of them
leading-all : (ps : List (List ℕ)) (bytes : List ℕ) → paired ps ≡ Ok bytes → leading ps ≡ bytes
unfolding leading
leading-all ps bytes e = ap leading (sym (append-nil ps)) ∙ leading-append ps [] bytes e ∙ append-nil bytes

-- one that is none ends them
leading-failed : (ps : List (List ℕ)) (i : ℕ) (bytes : List ℕ) (why : Unreadable) → i < length ps → paired (take i ps) ≡ Ok bytes → numeral_of (get_or ps i []) 16 255 ≡ Err why → leading ps ≡ bytes
unfolding leading onto_read
leading-failed ps i bytes why h e k = ap leading (sym (take-append-drop i ps)) ∙ leading-append (take i ps) (drop i ps) bytes e ∙ rw (drop-cons ps i [] h, k) (append-nil bytes)

-- ---- the loop

-- the bytes of the first pairs are stored
pub record Storing (ps : List (List ℕ)) (was : List ℕ) (i : ℕ) (now : List ℕ) : Type 0 where
  pub all : length (leading (take i ps)) ≡ i
  pub read : paired (take i ps) ≡ Ok (leading (take i ps))
  pub out : now ≡ leading (take i ps) ++ drop i was
  pub long : length now ≡ length was

pub storing_none : (ps : List (List ℕ)) (was : List ℕ) → Storing ps was 0 was
unfolding leading paired
storing_none ps was = record { all = refl; read = refl; out = refl; long = refl }

module _ (ps : List (List ℕ)) (was now : List ℕ) (i : ℕ) (h : i < length ps) (t : Storing ps was i now) where
  pub storing_more : (v place : ℕ) → place ≡ i → length ps ≤ length was → numeral_of (get_or ps i []) 16 255 ≡ Ok v → Storing ps was (i + 1) (set now place v)
  storing_more v place here room k =
      rw here
      (let front : List ℕ = leading (take i ps) in
      let m : paired (take (i + 1) ps) ≡ Ok (front ++ v ∷ []) = paired_more ps i front h t.read v k in
      let l : leading (take (i + 1) ps) ≡ front ++ v ∷ [] = leading-all (take (i + 1) ps) (front ++ v ∷ []) m in
      let inside : i < length was = omega (arith, h, room) in
      let rest : drop i was ≡ get_or was i 0 ∷ drop (i + 1) was = rw (add-one i) (drop-cons was i 0 inside) in
      record {
        all = ap length l ∙ length-append front (v ∷ []) ∙ ap (λ (n : ℕ). n + 1) t.all;
        read = m ∙ ap Ok (sym l);
        out = ap (λ (x : List ℕ). set x i v) (t.out ∙ ap (λ (x : List ℕ). front ++ x) rest)
            ∙ set_at front (get_or was i 0) (drop (i + 1) was) v i t.all
            ∙ sym (append_snoc front v (drop (i + 1) was))
            ∙ ap (λ (x : List ℕ). x ++ drop (i + 1) was) (sym l);
        long = length-set now i v ∙ t.long;
      })

-- ---- a word

module _ (word was : List ℕ) (e : length word % 2 ≡ 0) (room : length word / 2 ≤ length was) where
  stored-leading : stored word (length was) ≡ leading (first_chunks 2 (length word / 2) word)
  unfolding stored
  stored-leading = rw (eq-eqb (length word % 2) 0 e, le-leb (length word / 2) (length was) room)

  -- one pair is none
  pub storing_failed : (i : ℕ) (now : List ℕ) (why : Unreadable) → i < length (first_chunks 2 (length word / 2) word) → Storing (first_chunks 2 (length word / 2) word) was i now
      → numeral_of (get_or (first_chunks 2 (length word / 2) word) i []) 16 255 ≡ Err why → Stores (spelt word (length was)) (stored word (length was)) was now (Err why)
  unfolding and_then
  storing_failed i now why h t k =
      let ps = first_chunks 2 (length word / 2) word in
      rw (stored-leading, leading-failed ps i (leading (take i ps)) why h t.read k, spelt_paired word (length was) e room, paired_failed ps i (leading (take i ps)) h t.read why k)
      (record { counts = refl; out = t.out ∙ ap (λ (n : ℕ). leading (take i ps) ++ drop n was) (sym t.all); long = t.long; within = tt })

  -- all are stored
  pub storing_all : (i : ℕ) (now : List ℕ) → length (first_chunks 2 (length word / 2) word) ≤ i → i ≤ length was → Storing (first_chunks 2 (length word / 2) word) was i now
      → Stores (spelt word (length was)) (stored word (length was)) was now (Ok i)
  unfolding and_then
  storing_all i now h m t =
      let ps = first_chunks 2 (length word / 2) word in
      let a : take i ps ≡ ps = take_all i ps h in
      let read : paired ps ≡ Ok (leading ps) = rw a at t.read in
      let n : length (leading ps) ≡ i = rw a at t.all in
      let out : now ≡ leading ps ++ drop i was = rw a at t.out in
      rw (stored-leading, spelt_paired word (length was) e room, read)
      (record { counts = ap Ok (sym n); out = out ∙ ap (λ (k : ℕ). leading ps ++ drop k was) (sym n); long = t.long; within = omega (arith, m, t.long) })

-- a digit is left over
pub storing_odd : (word was : List ℕ) → (length word % 2 ≡ 0 → ⊥) → Stores (spelt word (length was)) (stored word (length was)) was was (Err unreadable.Malformed)
unfolding spelt stored and_then
storing_odd word was e = rw (ne_eqb (length word % 2) 0 e) (record { counts = refl; out = refl; long = refl; within = tt })

-- no room
pub storing_large : (word was : List ℕ) → length word % 2 ≡ 0 → length was < length word / 2 → Stores (spelt word (length was)) (stored word (length was)) was was (Err unreadable.TooLarge)
unfolding spelt stored and_then
storing_large word was e h = rw (eq-eqb (length word % 2) 0 e, lt-leb (length word / 2) (length was) h) (record { counts = refl; out = refl; long = refl; within = tt })

-- ---- the next word

module _ (line was : List ℕ) (at start end : ℕ) (s : start ≡ skip_of line at) (e : end ≡ find_of line start 32) where
  -- none
  pub bytes_none : bytes_eq (between line start end) (45 ∷ []) ≡ true → Stores (bytes_of line at (length was)) (stored_of line at (length was)) was was (Ok 0)
  unfolding bytes_of word_of stored_of stored_word codes and_then
  bytes_none q = rw (← s, ← e, q) (record { counts = refl; out = refl; long = refl; within = omega arith })

  -- some
  pub bytes_some : (now : List ℕ) (r : Result ℕ Unreadable) → bytes_eq (between line start end) (45 ∷ []) ≡ false
      → Stores (spelt (between line start end) (length was)) (stored (between line start end) (length was)) was now r → Stores (bytes_of line at (length was)) (stored_of line at (length was)) was now r
  unfolding bytes_of word_of stored_of stored_word codes
  bytes_some now r q x = rw (← s, ← e, q) x

-- ---- what was read

spelt-stored : (word bytes : List ℕ) (room : ℕ) → spelt word room ≡ Ok bytes → stored word room ≡ bytes
unfolding spelt stored
spelt-stored word bytes room = go (eqb (length word % 2) 0) (leb (length word / 2) room)
  where
    ps : List (List ℕ)
    ps = first_chunks 2 (length word / 2) word

    go : (t u : Bool) → ◌≡◌ {A = Result (List ℕ) Unreadable} (cond t (cond u (paired ps) (Err unreadable.TooLarge)) (Err unreadable.Malformed)) (Ok bytes) → cond t (cond u (leading ps) []) [] ≡ bytes
    go true true q = leading-all ps bytes q
    go true false q = absurd (false≢true (ap is_ok q))
    go false u q = absurd (false≢true (ap is_ok q))

of-stored : (line bytes : List ℕ) (at room : ℕ) → bytes_of line at room ≡ Ok bytes → stored_of line at room ≡ bytes
unfolding bytes_of word_of stored_of stored_word
of-stored line bytes at room = go (bytes_eq word (text "-"))
  where
    word : List ℕ
    word = between line (skip_of line at) (find_of line (skip_of line at) 32)

    go : (t : Bool) → ◌≡◌ {A = Result (List ℕ) Unreadable} (cond t (Ok []) (spelt word room)) (Ok bytes) → cond t [] (stored word room) ≡ bytes
    go true q = got q
    go false q = spelt-stored word bytes room q

-- the bytes stand at the area's start
pub bytes_read : (line was now : List ℕ) (at n : ℕ) → Stores (bytes_of line at (length was)) (stored_of line at (length was)) was now (Ok n) → bytes_of line at (length was) ≡ Ok (take n now)
unfolding and_then
bytes_read line was now at n s = go (bytes_of line at (length was)) (of-stored line) s.counts refl
  where
    go : (x : Result (List ℕ) Unreadable) → ((bytes : List ℕ) (from room : ℕ) → bytes_of line from room ≡ Ok bytes → stored_of line from room ≡ bytes) → ◌≡◌ {A = Result ℕ Unreadable} (Ok n) (counted x)
        → bytes_of line at (length was) ≡ x → x ≡ Ok (take n now)
    go (Ok bytes) f q p =
        let k : n ≡ length bytes = ap (λ (r : Result ℕ Unreadable). result_unwrap_or r 0) q in
        let b : stored_of line at (length was) ≡ bytes = f bytes at (length was) p in
        ap Ok (sym (ap (λ (j : ℕ). take j now) k ∙ ap (take (length bytes)) (s.out ∙ ap (λ (l : List ℕ). l ++ drop (length l) was) b) ∙ take-append_seam bytes (drop (length bytes) was)))
    go (Err why) f q p = absurd (false≢true (sym (ap is_ok q)))

-- what cannot be read
pub bytes_unread : (read : Result (List ℕ) Unreadable) (bytes was now : List ℕ) (why : Unreadable) → Stores read bytes was now (Err why) → read ≡ Err why
unfolding and_then
bytes_unread read bytes was now why s = go read s.counts
  where
    refused : Result ℕ Unreadable → Result (List ℕ) Unreadable
    refused (Ok n) = Ok []
    refused (Err w) = Err w

    go : (x : Result (List ℕ) Unreadable) → ◌≡◌ {A = Result ℕ Unreadable} (Err why) (counted x) → x ≡ Err why
    go (Ok l) q = absurd (false≢true (ap is_ok q))
    go (Err w) q = ap refused (sym q)

-- an area of so many places
module _ (line was now : List ℕ) (at room : ℕ) (l : length was ≡ room) where
  pub of_read : (n : ℕ) → Stores (bytes_of line at (length was)) (stored_of line at (length was)) was now (Ok n) → (length (take n now) ≤ room) × (Ok (take n now) ≡ bytes_of line at room)
  of_read n s = (omega (arith, length-take n now, s.long, l), sym (rw l at (bytes_read line was now at n s)))

  pub of_unread : (why : Unreadable) → Stores (bytes_of line at (length was)) (stored_of line at (length was)) was now (Err why) → Err why ≡ bytes_of line at room
  of_unread why s = sym (rw l at (bytes_unread (bytes_of line at (length was)) (stored_of line at (length was)) was now why s))
