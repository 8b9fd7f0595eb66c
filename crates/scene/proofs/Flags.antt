-- An accepted configuration's flags are apart.
use Rattle.std.proofs.Common.{◌≡◌, ℕ, ◌*◌, ◌^◌, ◌<◌, Bool, true, false, cond, not, ◌&&◌, ◌||◌, eqb, leb, ◌⊎◌, List, [], ◌∷◌, ◌++◌, sym, refl, ◌∙◌, inl, inr, ⊎_elim, arith, eq-eqb, ne_eqb, eqb-true, leb-false, leb-true}
use mathlib.Core.Bool.{false≢true}
use lib.Bits.{bit_and, and_comm, and_shifted, and_zero_r}
use borrow.Author.Tests.{eqb-false, not-true}
use Rattle.few.specs.Few.{also, has, distinct}
use Rattle.config.specs.declared.Config.{Config}
use Rattle.config.specs.Config.{accepted, choice_rule, width_rule, layout_rule, compare_rule, address_rule, flag_rule, pin_rule, flagged, one_bit, flags_of}
use Rattle.scene.specs.Laws.{ApartOf}
use Rattle.tick.proofs.Choices.{and_left}
use Rattle.scene.proofs.Choices.{and_right, neither}

-- ---- tests
either : (p q : Bool) → p || q ≡ true → (p ≡ true) ⊎ (q ≡ true)
either true q h = inl refl
either false q h = inr h

-- ---- two masks of one bit
-- a mask of one bit is a power of two
record Power (m : ℕ) : Type 0 where
  place : ℕ
  is : m ≡ 2 ^ place

module _ (m : ℕ) where
  -- a test more
  more : (was : Bool) (bit : ℕ) (k : ℕ) → bit ≡ 2 ^ k → (was ≡ true → Power m) → was || eqb m bit ≡ true → Power m
  more was bit k e f h = ⊎_elim f (λ t. record { place = k; is = eqb-true m bit t ∙ e }) (either was (eqb m bit) h)

  power : one_bit m ≡ true → Power m
  unfolding one_bit
  power =
      more _ 128 7 refl (more _ 64 6 refl (more _ 32 5 refl (more _ 16 4 refl (more _ 8 3 refl (more _ 4 2 refl (more _ 2 1 refl
      (λ t. record { place = 0; is = eqb-true m 1 t })))))))

less : (x y : ℕ) → Power y → x < y → bit_and x y ≡ 0
less x y p h =
    let k : x < 2 ^ p.place = rw p.is at h in
    let e : 1 * 2 ^ p.place ≡ y = omega (arith, p.is) in
    and_comm x y ∙ (rw e at (and_shifted 1 p.place x k))

two : (x y : ℕ) → Power x → Power y → (x ≡ y → ⊥) → bit_and x y ≡ 0
two x y p q n = go (leb x y) refl
  where
    go : (b : Bool) → leb x y ≡ b → bit_and x y ≡ 0
    go true e = let h = leb-true x y e in less x y q (omega (arith, n))
    go false e = let h = leb-false x y e in and_comm x y ∙ less y x p h

not-zero : (x : ℕ) → one_bit x ≡ true → eqb x 0 ≡ false
unfolding one_bit
not-zero x h = ne_eqb x 0 (λ z. let k : false ≡ true = rw z at h in false≢true k)

-- ---- two units
apart : (p q : Bool) (x y : ℕ) → flagged p x ≡ true → flagged q y ≡ true → (p ≡ true → q ≡ true → x ≡ y → ⊥) → bit_and x y ≡ 0
unfolding flagged
apart true true x y h k n = two x y (power x h) (power y k) (n refl refl)
apart false q x y h k n = rw (eqb-true x 0 h)
apart true false x y h k n = rw (eqb-true y 0 k) (and_zero_r x)

there : (p : Bool) (x : ℕ) → flagged p x ≡ true → p ≡ not (eqb x 0)
unfolding flagged
there true x h = rw (not-zero x h)
there false x h = rw h

-- ---- no two of the numbers are the same
has_end : (y x : ℕ) (l : List ℕ) → has y (l ++ (x ∷ [])) ≡ (has y l || eqb x y)
unfolding has
has_end y x [] = go (eqb x y)
  where
    go : (b : Bool) → (b || false) ≡ b
    go true = refl
    go false = refl
has_end y x (z ∷ l) = rw (has_end y x l) (go (eqb z y) (has y l) (eqb x y))
  where
    go : (p q r : Bool) → (p || (q || r)) ≡ ((p || q) || r)
    go true q r = refl
    go false q r = refl

distinct-end : (x : ℕ) (l : List ℕ) → distinct (l ++ (x ∷ [])) ≡ true → (distinct l ≡ true) × (has x l ≡ false)
unfolding has distinct
distinct-end x [] h = (refl, refl)
distinct-end x (y ∷ l) h =
    let k = distinct-end x l (and_right (not (has y (l ++ (x ∷ [])))) _ h) in
    let f = not-true (has y (l ++ (x ∷ []))) (and_left (not (has y (l ++ (x ∷ [])))) (distinct (l ++ (x ∷ []))) h) in
    let g = neither (has y l) (eqb x y) (sym (has_end y x l) ∙ f) in
    let n : eqb y x ≡ false = ne_eqb y x (λ e. eqb-false x y g.1 (sym e)) in
    (simp (g.0, k.0), simp (n, k.1))

module _ (w : Bool) (x : ℕ) (l : List ℕ) where
  -- one more where it is wanted is none of those before
  still-distinct : distinct (also w x l) ≡ true → distinct l ≡ true
  unfolding also
  still-distinct = go w
    where
      go : (b : Bool) → distinct (cond b (l ++ (x ∷ [])) l) ≡ true → distinct l ≡ true
      go true h = (distinct-end x l h).0
      go false h = h

  another : distinct (also w x l) ≡ true → w ≡ true → (y : ℕ) → has y l ≡ true → y ≡ x → ⊥
  unfolding also
  another h e y k f = let n = (distinct-end x l (rw e at h)).1 in let g : has x l ≡ true = rw f at k in false≢true (sym n ∙ g)

  kept : (y : ℕ) → has y l ≡ true → has y (also w x l) ≡ true
  unfolding also
  kept y h = go w
    where
      go : (b : Bool) → has y (cond b (l ++ (x ∷ [])) l) ≡ true
      go true = rw (has_end y x l, h)
      go false = h

  last : w ≡ true → has x (also w x l) ≡ true
  unfolding also
  last e = rw (e, has_end x x l, eq-eqb x x refl) (go (has x l))
    where
      go : (b : Bool) → (b || true) ≡ true
      go true = refl
      go false = refl

-- ---- the flags' rule
module _ (c : Config) (h : accepted c ≡ true) where
  rule : flag_rule c ≡ true
  unfolding accepted
  rule = and_right (choice_rule c && width_rule c && layout_rule c && compare_rule c && address_rule c) (flag_rule c) (and_left (choice_rule c && width_rule c && layout_rule c && compare_rule c && address_rule c && flag_rule c) (pin_rule c) h)

  abbrev T : Bool
  T = one_bit c.tov

  abbrev TA : Bool
  TA = T && flagged c.a.present c.a.flag

  abbrev TB : Bool
  TB = TA && flagged c.b.present c.b.flag

  abbrev TC : Bool
  TC = TB && flagged c.c.present c.c.flag

  abbrev TI : Bool
  TI = TC && flagged c.icr.present c.icr.flag

  all-five : TI ≡ true
  unfolding flag_rule
  all-five = and_left TI (distinct (flags_of c)) rule

  to-c : TC ≡ true
  to-c = and_left TC _ all-five

  to-b : TB ≡ true
  to-b = and_left TB _ to-c

  to-a : TA ≡ true
  to-a = and_left TA _ to-b

  tov-one : flagged true c.tov ≡ true
  unfolding flagged
  tov-one = and_left T _ to-a

  a_one : flagged c.a.present c.a.flag ≡ true
  a_one = and_right T _ to-a

  b-one : flagged c.b.present c.b.flag ≡ true
  b-one = and_right TA _ to-b

  c-one : flagged c.c.present c.c.flag ≡ true
  c-one = and_right TB _ to-c

  icf-one : flagged c.icr.present c.icr.flag ≡ true
  icf-one = and_right TC _ all-five

  -- the list, flag by flag
  abbrev lt : List ℕ
  lt = also true c.tov []

  abbrev la : List ℕ
  la = also c.a.present c.a.flag lt

  abbrev lb : List ℕ
  lb = also c.b.present c.b.flag la

  abbrev lc : List ℕ
  lc = also c.c.present c.c.flag lb

  abbrev li : List ℕ
  li = also c.icr.present c.icr.flag lc

  d-i : distinct li ≡ true
  unfolding flag_rule flags_of
  d-i = and_right TI (distinct (flags_of c)) rule

  d-c : distinct lc ≡ true
  d-c = still-distinct c.icr.present c.icr.flag lc d-i

  d-b : distinct lb ≡ true
  d-b = still-distinct c.c.present c.c.flag lb d-c

  d-a : distinct la ≡ true
  d-a = still-distinct c.b.present c.b.flag la d-b

  -- what stands in them
  in-lt : has c.tov lt ≡ true
  in-lt = last true c.tov [] refl

  in-la : (y : ℕ) → has y lt ≡ true → has y la ≡ true
  in-la = kept c.a.present c.a.flag lt

  in-lb : (y : ℕ) → has y la ≡ true → has y lb ≡ true
  in-lb = kept c.b.present c.b.flag la

  in-lc : (y : ℕ) → has y lb ≡ true → has y lc ≡ true
  in-lc = kept c.c.present c.c.flag lb

  a_in : c.a.present ≡ true → has c.a.flag la ≡ true
  a_in = last c.a.present c.a.flag lt

  b-in : c.b.present ≡ true → has c.b.flag lb ≡ true
  b-in = last c.b.present c.b.flag la

  c-in : c.c.present ≡ true → has c.c.flag lc ≡ true
  c-in = last c.c.present c.c.flag lb

  -- pair by pair
  tov-a : bit_and c.tov c.a.flag ≡ 0
  tov-a = apart true _ _ _ tov-one a_one (λ p q. another c.a.present c.a.flag lt d-a q c.tov in-lt)

  tov-b : bit_and c.tov c.b.flag ≡ 0
  tov-b = apart true _ _ _ tov-one b-one (λ p q. another c.b.present c.b.flag la d-b q c.tov (in-la _ in-lt))

  tov-c : bit_and c.tov c.c.flag ≡ 0
  tov-c = apart true _ _ _ tov-one c-one (λ p q. another c.c.present c.c.flag lb d-c q c.tov (in-lb _ (in-la _ in-lt)))

  tov-icf : bit_and c.tov c.icr.flag ≡ 0
  tov-icf = apart true _ _ _ tov-one icf-one (λ p q. another c.icr.present c.icr.flag lc d-i q c.tov (in-lc _ (in-lb _ (in-la _ in-lt))))

  a-b : bit_and c.a.flag c.b.flag ≡ 0
  a-b = apart c.a.present _ _ _ a_one b-one (λ p q. another c.b.present c.b.flag la d-b q c.a.flag (a_in p))

  a-c : bit_and c.a.flag c.c.flag ≡ 0
  a-c = apart c.a.present _ _ _ a_one c-one (λ p q. another c.c.present c.c.flag lb d-c q c.a.flag (in-lb _ (a_in p)))

  a-icf : bit_and c.a.flag c.icr.flag ≡ 0
  a-icf = apart c.a.present _ _ _ a_one icf-one (λ p q. another c.icr.present c.icr.flag lc d-i q c.a.flag (in-lc _ (in-lb _ (a_in p))))

  b-c : bit_and c.b.flag c.c.flag ≡ 0
  b-c = apart c.b.present _ _ _ b-one c-one (λ p q. another c.c.present c.c.flag lb d-c q c.b.flag (b-in p))

  b-icf : bit_and c.b.flag c.icr.flag ≡ 0
  b-icf = apart c.b.present _ _ _ b-one icf-one (λ p q. another c.icr.present c.icr.flag lc d-i q c.b.flag (in-lc _ (b-in p)))

  c-icf : bit_and c.c.flag c.icr.flag ≡ 0
  c-icf = apart c.c.present _ _ _ c-one icf-one (λ p q. another c.icr.present c.icr.flag lc d-i q c.c.flag (c-in p))

pub apart_of : ApartOf
unfolding flagged
apart_of c s h k = record {
  tov = rw k.tov (not-zero c.tov (tov-one c h));
  a = rw (k.has-a, k.a) (there c.a.present c.a.flag (a_one c h));
  b = rw (k.has-b, k.b) (there c.b.present c.b.flag (b-one c h));
  c = rw (k.has-c, k.c) (there c.c.present c.c.flag (c-one c h));
  icf = rw (k.capture, k.icf) (there c.icr.present c.icr.flag (icf-one c h));
  tov-a = rw (k.tov, k.a) (tov-a c h);
  tov-b = rw (k.tov, k.b) (tov-b c h);
  tov-c = rw (k.tov, k.c) (tov-c c h);
  tov-icf = rw (k.tov, k.icf) (tov-icf c h);
  a-b = rw (k.a, k.b) (a-b c h);
  a-c = rw (k.a, k.c) (a-c c h);
  a-icf = rw (k.a, k.icf) (a-icf c h);
  b-c = rw (k.b, k.c) (b-c c h);
  b-icf = rw (k.b, k.icf) (b-icf c h);
  c-icf = rw (k.c, k.icf) (c-icf c h);
}
