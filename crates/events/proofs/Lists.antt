-- Facts of the list definitions: where an event stands, which cycle is the earliest, and what a swap_remove leaves.
use Prim.Native.Nat.{ℕ, zero, suc, ◌-◌, ◌≤◌, ◌<◌, ◌^◌, min}
use native.Mathlib.Omega.{arith}
use native.Mathlib.Decide.{dec_le}
use native.Mathlib.Nat.{not-suc-le-zero, le_of_suc-le-suc}
use mathlib.Core.Path.{◌≡◌, refl, sym, ap, ◌∙◌}
use mathlib.Core.Bool.{Bool, true, false, cond, false≢true}
use mathlib.Core.List.{List, [], ◌∷◌, ◌++◌, map}
use lib.Dec.{eqb}
use lib.ListN.{length, get_or, set, length-set, length-take}
use lib.Seq.{get_or-set_same, get_or-set_other, get_or-take}
use borrow.Author.Tests.{lt-ltb, eq-eqb, ne_eqb, eqb-true, eqb-false}
use Rattle.std.specs.Prelude.{None}
use Rattle.std.specs.List.{fold, position, position_or_len}
use Rattle.std.proofs.lemmas.List.Sums.{fails_before_first}
use Rattle.events.specs.declared.Event.{Event}
use Rattle.events.specs.Events.{blank, earliest, foremost, swap_removed, Met}

-- ---- the first that passes a test

pub position-within : (test : Event → Bool) (l : List Event) (i : ℕ) → i < length l → test (get_or l i blank) ≡ true → position_or_len test l < length l
position-within test l i h t = go (dec_le (position_or_len test l) i)
  where
    go : Dec (position_or_len test l ≤ i) → position_or_len test l < length l
    go (yes q) = omega arith
    go (no q) = let f = fails_before_first test l i blank (omega (arith, q)) in absurd (false≢true (sym f ∙ t))

-- ---- the earliest cycle

folded : (c d : ℕ) (l : List Event) → fold min (min c d) (map (λ x. x.cycle) l) ≡ min c (fold min d (map (λ x. x.cycle) l))
folded c d [] = refl
folded c d (e ∷ l) =
    let together : min (min c d) e.cycle ≡ min c (min d e.cycle) = omega arith in
    ap (λ (x : ℕ). fold min x (map (λ y. y.cycle) l)) together ∙ folded c (min d e.cycle) l

pushed : (c : ℕ) (l : List Event) (e : Event) → fold min c (map (λ x. x.cycle) (l ++ e ∷ [])) ≡ min (fold min c (map (λ x. x.cycle) l)) e.cycle
pushed c [] e = refl
pushed c (x ∷ l) e = pushed (min c x.cycle) l e

pub earliest-cons : (e f : Event) (l : List Event) → earliest (e ∷ f ∷ l) ≡ min e.cycle (earliest (f ∷ l))
unfolding earliest
earliest-cons e f l = folded e.cycle f.cycle l

pub earliest-low : (l : List Event) (i : ℕ) → i < length l → earliest l ≤ (get_or l i blank).cycle
unfolding earliest
earliest-low [] i h = absurd (not-suc-le-zero h)
earliest-low (e ∷ []) zero h = omega arith
earliest-low (e ∷ []) (suc i) h = absurd (not-suc-le-zero (le_of_suc-le-suc h))
earliest-low (e ∷ f ∷ l) zero h = let c = earliest-cons e f l in omega arith
earliest-low (e ∷ f ∷ l) (suc i) h =
    let c = earliest-cons e f l in
    let r = earliest-low (f ∷ l) i (le_of_suc-le-suc h) in
    omega arith

pub earliest-met : (l : List Event) → 0 < length l → Met l (earliest l)
unfolding earliest
earliest-met [] h = absurd (not-suc-le-zero h)
earliest-met (e ∷ []) h = record { place = 0; within = h; cycle = refl }
earliest-met (e ∷ f ∷ l) h = rw (earliest-cons e f l) (go (earliest-met (f ∷ l) (omega arith)) (dec_le e.cycle (earliest (f ∷ l))))
  where
    go : Met (f ∷ l) (earliest (f ∷ l)) → Dec (e.cycle ≤ earliest (f ∷ l)) → Met (e ∷ f ∷ l) (min e.cycle (earliest (f ∷ l)))
    go m (yes q) = record { place = 0; within = omega arith; cycle = omega arith }
    go m (no q) = record { place = suc m.place; within = omega arith; cycle = m.cycle ∙ omega arith }

-- a cycle that is met and that none is before
earliest-is : (l : List Event) (c : ℕ) → Met l c → ((i : ℕ) → i < length l → c ≤ (get_or l i blank).cycle) → c ≡ earliest l
earliest-is l c m low =
    let n = earliest-met l (omega arith) in
    omega (arith, earliest-low l m.place m.within, low n.place n.within)

pub earliest-more : (l : List Event) (e : Event) → e.cycle < 2 ^ 64 → earliest (l ++ e ∷ []) ≡ min (earliest l) e.cycle
unfolding earliest
earliest-more [] e h = omega arith
earliest-more (x ∷ l) e h = pushed x.cycle l e

pub foremost-within : (l : List Event) → 0 < length l → foremost l < length l
foremost-within l h =
    let m = earliest-met l h in
    position-within (λ e. eqb e.cycle (earliest l)) l m.place m.within (eq-eqb _ _ m.cycle)

-- no event stands at the earliest cycle only where there is none
pub foremost_none : (l : List Event) → None ≡ position (λ e. eqb e.cycle (earliest l)) l → length l ≡ 0
foremost_none [] h = refl
foremost_none (e ∷ l) h = let w = lt-ltb (foremost (e ∷ l)) (length (e ∷ l)) (foremost-within (e ∷ l) (omega arith)) in let n = rw w at h in cc

-- ---- a swap_remove

pub length-swap : (i : ℕ) (l : List Event) → length (swap_removed i l) ≡ length l - 1
unfolding swap_removed
length-swap i l = simp (length-take, length-set) (omega arith)

-- the place from which the event at k came
abbrev pub from : ℕ → List Event → ℕ → ℕ
from i l k = cond (eqb k i) (length l - 1) k

module _ (i : ℕ) (l : List Event) (h : i < length l) where
  pub get_or-swap : (k : ℕ) → k < length l - 1 → get_or (swap_removed i l) k blank ≡ get_or l (from i l k) blank
  unfolding swap_removed
  get_or-swap k q = get_or-take (length l - 1) (set l i (get_or l (length l - 1) blank)) k blank q ∙ go (eqb k i) refl
    where
      go : (b : Bool) → eqb k i ≡ b → get_or (set l i (get_or l (length l - 1) blank)) k blank ≡ get_or l (cond b (length l - 1) k) blank
      go true e = rw (eqb-true k i e) (get_or-set_same l i (get_or l (length l - 1) blank) blank h)
      go false e = get_or-set_other l i k (get_or l (length l - 1) blank) blank (eqb-false k i e)

  pub from-within : (k : ℕ) → k < length l - 1 → from i l k < length l
  from-within k q = go (eqb k i)
    where
      go : (b : Bool) → cond b (length l - 1) k < length l
      go true = omega arith
      go false = omega arith

  -- an event later than the earliest goes, and the earliest stays
  pub earliest-swap : earliest l < (get_or l i blank).cycle → earliest l ≡ earliest (swap_removed i l)
  earliest-swap late =
      let n = length-swap i l in
      let m = earliest-met l (omega arith) in
      earliest-is (swap_removed i l) (earliest l) (kept m (eqb m.place (length l - 1)) refl)
      (λ k q. let q : k < length l - 1 = omega arith in rw (get_or-swap k q) (earliest-low l (from i l k) (from-within k q)))
    where
      at : (m : Met l (earliest l)) (k : ℕ) → k < length l - 1 → from i l k ≡ m.place → Met (swap_removed i l) (earliest l)
      at m k q e =
          let n = length-swap i l in
          record { place = k; within = omega arith; cycle = ap (λ (x : Event). x.cycle) (get_or-swap k q ∙ ap (λ (j : ℕ). get_or l j blank) e) ∙ m.cycle }

      other : (m : Met l (earliest l)) → m.place ≡ i → ⊥
      other m e = let here : (get_or l i blank).cycle ≡ earliest l = rw (← e) m.cycle in omega arith

      kept : (m : Met l (earliest l)) (b : Bool) → eqb m.place (length l - 1) ≡ b → Met (swap_removed i l) (earliest l)
      kept m true e =
          let p = eqb-true m.place (length l - 1) e in
          at m i (omega (arith, other m)) (rw (eq-eqb i i refl) (sym p))
      kept m false e =
          let p = eqb-false m.place (length l - 1) e in
          at m m.place (omega (arith, m.within, p)) (rw (ne_eqb m.place i (other m)))
