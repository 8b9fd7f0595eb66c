-- The flags of an accepted configuration: TOV's bit is in no other flag. And its T pin is not its capture pin.
use Prim.Native.Nat.{ℕ, ◌/◌, ◌%◌, ◌^◌}
use native.Mathlib.Omega.{arith}
use mathlib.Core.Path.{◌≡◌, refl, sym}
use mathlib.Core.Bool.{Bool, true, false, not, ◌&&◌, ◌||◌, or-false, or_assoc, true≢false, false≢true}
use mathlib.Core.List.{List, [], ◌∷◌, ◌++◌}
use lib.Dec.{eqb}
use lib.Bits.{bit_or, or_shr, or_mod}
use borrow.Author.Tests.{eqb-true, eqb-false, ne_eqb}
use Rattle.few.specs.Few.{also, has, distinct, within}
use Rattle.config.specs.declared.Config.{Config}
use Rattle.config.specs.Config.{choice_rule, width_rule, layout_rule, compare_rule, address_rule, one_bit, flagged, flags_of, flag_rule, pins_of, pin_rule, accepted}

-- ---- tests
and_both : (a b : Bool) → a && b ≡ true → (a ≡ true) × (b ≡ true)
and_both true b e = (refl, e)
and_both false b e = absurd (false≢true e)

or-none : (a b : Bool) → a || b ≡ false → (a ≡ false) × (b ≡ false)
or-none true b e = absurd (true≢false e)
or-none false b e = (refl, e)

not-true : (a : Bool) → not a ≡ true → a ≡ false
not-true true e = absurd (false≢true e)
not-true false e = refl

-- ---- a mask of a single bit is one of eight
one_of : (Q : ℕ → Type 0) → Q 1 → Q 2 → Q 4 → Q 8 → Q 16 → Q 32 → Q 64 → Q 128 → (m : ℕ) → one_bit m ≡ true → Q m
unfolding one_bit
one_of Q a b c d e f g h m o = go (eqb m 1) refl (eqb m 2) refl (eqb m 4) refl (eqb m 8) refl (eqb m 16) refl (eqb m 32) refl (eqb m 64) refl (eqb m 128) refl o
  where
    is : (n : ℕ) → eqb m n ≡ true → Q n → Q m
    is n e q = rw (eqb-true m n e) q

    go : (a₁ : Bool) → eqb m 1 ≡ a₁ → (a₂ : Bool) → eqb m 2 ≡ a₂ → (a₃ : Bool) → eqb m 4 ≡ a₃ → (a₄ : Bool) → eqb m 8 ≡ a₄ → (a₅ : Bool) → eqb m 16 ≡ a₅ → (a₆ : Bool) → eqb m 32 ≡ a₆ → (a₇ : Bool) → eqb m 64 ≡ a₇ → (a₈ : Bool) → eqb m 128 ≡ a₈ → (a₁ || a₂ || a₃ || a₄ || a₅ || a₆ || a₇ || a₈) ≡ true → Q m
    go true e₁ a₂ e₂ a₃ e₃ a₄ e₄ a₅ e₅ a₆ e₆ a₇ e₇ a₈ e₈ o = is 1 e₁ a
    go false e₁ true e₂ a₃ e₃ a₄ e₄ a₅ e₅ a₆ e₆ a₇ e₇ a₈ e₈ o = is 2 e₂ b
    go false e₁ false e₂ true e₃ a₄ e₄ a₅ e₅ a₆ e₆ a₇ e₇ a₈ e₈ o = is 4 e₃ c
    go false e₁ false e₂ false e₃ true e₄ a₅ e₅ a₆ e₆ a₇ e₇ a₈ e₈ o = is 8 e₄ d
    go false e₁ false e₂ false e₃ false e₄ true e₅ a₆ e₆ a₇ e₇ a₈ e₈ o = is 16 e₅ e
    go false e₁ false e₂ false e₃ false e₄ false e₅ true e₆ a₇ e₇ a₈ e₈ o = is 32 e₆ f
    go false e₁ false e₂ false e₃ false e₄ false e₅ false e₆ true e₇ a₈ e₈ o = is 64 e₇ g
    go false e₁ false e₂ false e₃ false e₄ false e₅ false e₆ false e₇ true e₈ o = is 128 e₈ h
    go false e₁ false e₂ false e₃ false e₄ false e₅ false e₆ false e₇ false e₈ o = absurd (false≢true o)

-- a byte's bit, where the mask stands
pub bit-or : (m : ℕ) → one_bit m ≡ true → (a b : ℕ) → bit_or a b / m % 2 ≡ bit_or (a / m % 2) (b / m % 2)
bit-or = one_of (λ (m : ℕ). (a b : ℕ) → bit_or a b / m % 2 ≡ bit_or (a / m % 2) (b / m % 2)) (at 0) (at 1) (at 2) (at 3) (at 4) (at 5) (at 6) (at 7)
  where
    at : (k a b : ℕ) → bit_or a b / 2 ^ k % 2 ≡ bit_or (a / 2 ^ k % 2) (b / 2 ^ k % 2)
    at k a b = rw (or_shr a b k) (or_mod (a / 2 ^ k) (b / 2 ^ k) 1)

pub bit-low : (m : ℕ) → one_bit m ≡ true → (a : ℕ) → a % 256 / m % 2 ≡ a / m % 2
bit-low = one_of (λ (m : ℕ). (a : ℕ) → a % 256 / m % 2 ≡ a / m % 2) (λ a. omega arith) (λ a. omega arith) (λ a. omega arith) (λ a. omega arith) (λ a. omega arith) (λ a. omega arith) (λ a. omega arith) (λ a. omega arith)

pub bit-own : (m : ℕ) → one_bit m ≡ true → m / m % 2 ≡ 1
bit-own = one_of (λ (m : ℕ). m / m % 2 ≡ 1) refl refl refl refl refl refl refl refl

pub bit-none : (m : ℕ) → one_bit m ≡ true → 0 / m % 2 ≡ 0
bit-none = one_of (λ (m : ℕ). 0 / m % 2 ≡ 0) refl refl refl refl refl refl refl refl

-- and not in another mask
Apart : ℕ → ℕ → Type 0
Apart m n = eqb n m || eqb (n / m % 2) 0 ≡ true

apart : (m : ℕ) → one_bit m ≡ true → (n : ℕ) → one_bit n ≡ true → Apart m n
unfolding Apart
apart =
    one_of (λ (m : ℕ). (n : ℕ) → one_bit n ≡ true → Apart m n)
    (one_of (Apart 1) refl refl refl refl refl refl refl refl)
    (one_of (Apart 2) refl refl refl refl refl refl refl refl)
    (one_of (Apart 4) refl refl refl refl refl refl refl refl)
    (one_of (Apart 8) refl refl refl refl refl refl refl refl)
    (one_of (Apart 16) refl refl refl refl refl refl refl refl)
    (one_of (Apart 32) refl refl refl refl refl refl refl refl)
    (one_of (Apart 64) refl refl refl refl refl refl refl refl)
    (one_of (Apart 128) refl refl refl refl refl refl refl refl)

-- nor in the flag of a unit, present or not
bit-other : (m : ℕ) → one_bit m ≡ true → (present : Bool) (n : ℕ) → flagged present n ≡ true → present && eqb n m ≡ false → n / m % 2 ≡ 0
unfolding flagged Apart
bit-other m o true n f e = eqb-true _ 0 (rw e at (apart m o n f))
bit-other m o false n f e = rw (eqb-true n 0 f) (bit-none m o)

-- ---- a few numbers
also-cons : (w : Bool) (y x : ℕ) (l : List ℕ) → also w y (x ∷ l) ≡ x ∷ also w y l
unfolding also
also-cons true y x l = refl
also-cons false y x l = refl

has-append : (x y : ℕ) (l : List ℕ) → has x (l ++ (y ∷ [])) ≡ has x l || eqb y x
unfolding has
has-append x y [] = or-false (eqb y x)
has-append x y (z ∷ l) = simp (has-append x y l, or_assoc)

has-also : (x : ℕ) (w : Bool) (y : ℕ) (l : List ℕ) → has x (also w y l) ≡ has x l || w && eqb y x
unfolding also
has-also x true y l = has-append x y l
has-also x false y l = sym (or-false (has x l))

-- equality goes both ways
eqb_comm : (x y : ℕ) → eqb y x ≡ false → eqb x y ≡ false
eqb_comm x y e = ne_eqb x y (λ q. eqb-false y x e (sym q))

-- what the rule of flags says of TOV
pub record Own (config : Config) : Type 0 where
  pub tov : one_bit config.tov ≡ true
  pub a : config.a.flag / config.tov % 2 ≡ 0
  pub b : config.b.flag / config.tov % 2 ≡ 0
  pub c : config.c.flag / config.tov % 2 ≡ 0
  pub icr : config.icr.flag / config.tov % 2 ≡ 0

-- the flags beside TOV
abbrev others : Config → List ℕ
others c = also c.icr.present c.icr.flag (also c.c.present c.c.flag (also c.b.present c.b.flag (also c.a.present c.a.flag [])))

also-first : (x : ℕ) → also true x [] ≡ x ∷ []
unfolding also
also-first x = refl

flags-are : (c : Config) → flags_of c ≡ c.tov ∷ others c
unfolding flags_of
flags-are c = simp (also-first, also-cons)

flags-own : (c : Config) → flag_rule c ≡ true → Own c
unfolding flag_rule distinct has
flags-own c e =
    let r = and_both _ (distinct (flags_of c)) e in
    let i = and_both _ (flagged c.icr.present c.icr.flag) r.0 in
    let k = and_both _ (flagged c.c.present c.c.flag) i.0 in
    let b = and_both _ (flagged c.b.present c.b.flag) k.0 in
    let a = and_both (one_bit c.tov) (flagged c.a.present c.a.flag) b.0 in
    let q : distinct (c.tov ∷ others c) ≡ true = rw (flags-are c) at r.1 in
    let d : has c.tov (others c) ≡ false = not-true _ (and_both (not (has c.tov (others c))) (distinct (others c)) q).0 in
    let d₁ : ma || mb || mc || mi ≡ false = simp has-also at d in
    let h = or-none (ma || mb || mc) mi d₁ in
    let j = or-none (ma || mb) mc h.0 in
    let l = or-none ma mb j.0 in
    record { tov = a.0; a = bit-other _ a.0 _ _ a.1 l.0; b = bit-other _ a.0 _ _ b.1 l.1; c = bit-other _ a.0 _ _ k.1 j.1; icr = bit-other _ a.0 _ _ i.1 h.1 }
  where
    ma : Bool
    ma = c.a.present && eqb c.a.flag c.tov

    mb : Bool
    mb = c.b.present && eqb c.b.flag c.tov

    mc : Bool
    mc = c.c.present && eqb c.c.flag c.tov

    mi : Bool
    mi = c.icr.present && eqb c.icr.flag c.tov

-- the rules before those of flags and pins
abbrev before : Config → Bool
before c = choice_rule c && width_rule c && layout_rule c && compare_rule c && address_rule c

rules : (c : Config) → accepted c ≡ true → (flag_rule c ≡ true) × (pin_rule c ≡ true)
unfolding accepted
rules c e = let r = and_both (before c && flag_rule c) (pin_rule c) e in ((and_both (before c) (flag_rule c) r.0).1, r.1)

pub own : (c : Config) → accepted c ≡ true → Own c
own c e = flags-own c (rules c e).0

-- ---- the pins
distinct-last : (y : ℕ) (l : List ℕ) → distinct (l ++ (y ∷ [])) ≡ true → has y l ≡ false
unfolding distinct has
distinct-last y [] e = refl
distinct-last y (x ∷ l) e =
    let a = and_both (not (has x (l ++ (y ∷ [])))) (distinct (l ++ (y ∷ []))) e in
    let h : has x (l ++ (y ∷ [])) ≡ false = not-true _ a.0 in
    let n = or-none (has x l) (eqb y x) (rw (has-append x y l) at h) in
    simp (eqb_comm x y n.1, distinct-last y l a.1)

abbrev others-wired : Config → List ℕ
others-wired c = also c.c.wire.present c.c.wire.pin (also c.b.wire.present c.b.wire.pin (also c.a.wire.present c.a.wire.pin []))

abbrev wired : Config → List ℕ
wired c = also c.icr.wire.present c.icr.wire.pin (others-wired c)

-- a pin that is wired to T is not wired to the capture
pub t-alone : (c : Config) → accepted c ≡ true → (pin : ℕ) → c.t.present && eqb c.t.pin pin ≡ true → c.icr.wire.present && eqb c.icr.wire.pin pin ≡ false
unfolding pin_rule pins_of also
t-alone c e pin t =
    let a = and_both c.t.present (eqb c.t.pin pin) t in
    let d : distinct (also c.t.present c.t.pin (wired c)) ≡ true = (and_both units (distinct (pins_of c)) (and_both (units && distinct (pins_of c)) (within 247 (pins_of c)) (rules c e).1).0).1 in
    let d₁ : distinct (wired c ++ (c.t.pin ∷ [])) ≡ true = rw a.0 at d in
    let h : has c.t.pin (also c.icr.wire.present c.icr.wire.pin (others-wired c)) ≡ false = distinct-last c.t.pin (wired c) d₁ in
    let h₁ = rw (has-also c.t.pin c.icr.wire.present c.icr.wire.pin (others-wired c)) at h in
    let z = or-none (has c.t.pin (others-wired c)) (c.icr.wire.present && eqb c.icr.wire.pin c.t.pin) h₁ in
    rw (← eqb-true c.t.pin pin a.1) z.1
  where
    units : Bool
    units =
        (c.a.present || not c.a.wire.present) && (c.b.present || not c.b.wire.present) && (c.c.present || not c.c.wire.present)
        && (c.icr.present || not c.icr.wire.present)
