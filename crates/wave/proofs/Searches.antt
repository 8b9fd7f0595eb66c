-- A search over the compares, channel by channel.
use Rattle.std.proofs.Common.{◌≡◌, ℕ, ◌+◌, ◌-◌, ◌%◌, ◌<◌, ◌≤◌, min, Bool, true, false, cond, ◌&&◌, eqb, leb, List, [], ◌∷◌, get_or, refl, le_refl, arith, eq-eqb, ne_eqb, le-leb, leb-false, leb-true}
use Rattle.wave.specs.declared.kinds.Wave.{Wave}
use Rattle.wave.specs.Distance.{space, ahead, gap_at, having, compares, looked_at, sought_at}

-- ---- what a search begins with
pub space-reach : (count top max : ℕ) → count ≤ max → top < 4294967296 → max < 4294967296 → space false count top max ≤ 4294967295 - count
unfolding space
space-reach count top max h t m = go (leb count top)
  where
    go : (b : Bool) → cond b (top - count) (max - count) ≤ 4294967295 - count
    go true = omega arith
    go false = omega arith

-- ---- one compare
-- a way that wraps is longer than the gap
wrapped : (low high way gap : ℕ) → low < 4294967296 → high < 4294967296 → way < 4294967296 → (way + low) % 4294967296 ≡ high → gap + low < high + 4294967296
    → min gap way ≡ min gap (cond (leb low high) (high - low) gap)
wrapped low high way gap l h w e k = go (leb low high) refl
  where
    go : (b : Bool) → leb low high ≡ b → min gap way ≡ min gap (cond b (high - low) gap)
    go true t = let q = leb-true low high t in omega arith
    go false t = let q = leb-false low high t in omega arith

pub nearer-falling : (count compare way gap : ℕ) → count < 4294967296 → compare < 4294967296 → way < 4294967296 → (way + compare) % 4294967296 ≡ count → gap ≤ count
    → min gap way ≡ min gap (ahead true true count compare gap)
unfolding ahead
nearer-falling count compare way gap c o w e k = wrapped compare count way gap o c w e (omega arith)

pub nearer-rising : (count compare way gap : ℕ) → count < 4294967296 → compare < 4294967296 → way < 4294967296 → (way + count) % 4294967296 ≡ compare → gap ≤ 4294967295 - count
    → min gap way ≡ min gap (ahead true false count compare gap)
unfolding ahead
nearer-rising count compare way gap c o w e k = wrapped count compare way gap c o w e (omega arith)

-- ---- a channel
-- the gap with a channel's compare
abbrev pub closer : Bool → Bool → ℕ → ℕ → ℕ → ℕ
closer present down count compare gap = cond present (min gap (ahead true down count compare gap)) gap

-- how a search stands after a channel that was not one tick off
pub record Passed (present down : Bool) (count compare old before new after : ℕ) : Type 0 where
  pub gap : new ≡ closer present down count compare old
  pub looked : after ≡ before + cond present 1 0
  pub far : present && eqb compare count ≡ false

pub passed-by : {present down : Bool} {count compare old before new after : ℕ} → present ≡ true → (compare ≡ count → ⊥) → new ≡ min old (ahead true down count compare old) → after ≡ before + 1
    → Passed present down count compare old before new after
passed-by {count = count} {compare = compare} p n g l = record { gap = rw p g; looked = rw p l; far = simp (p, ne_eqb compare count n) }

pub passed_over : {present down : Bool} {count compare old before new after : ℕ} → present ≡ false → new ≡ old → after ≡ before → Passed present down count compare old before new after
passed_over p g l = record { gap = rw p g; looked = rw p (omega arith); far = rw p }

-- no channel lengthens the gap
closer-le : (present down : Bool) (count compare gap : ℕ) → closer present down count compare gap ≤ gap
closer-le true down count compare gap = omega arith
closer-le false down count compare gap = omega arith

few : (b : Bool) → cond {A = ℕ} b 1 0 ≤ 1
few true = omega arith
few false = omega arith

module _ {present down : Bool} {count compare old before new after : ℕ} (x : Passed present down count compare old before new after) where
  pub passed-le : new ≤ old
  passed-le = rw x.gap (closer-le present down count compare old)

  pub passed-few : after ≤ before + 1
  passed-few = let f = few present in let l = x.looked in omega arith

-- ---- the whole search
-- the last is looked at whether it is one tick off or not
last-looked : (b : Bool) → cond {A = ℕ} b 1 1 ≡ 1
last-looked true = refl
last-looked false = refl

-- all are looked at where neither A nor B was one tick off
looked-by : (count x y z : ℕ) (a b c : Bool) → a && eqb x count ≡ false → b && eqb y count ≡ false
    → looked_at count (having a x (having b y (having c z []))) ≡ cond a 1 0 + cond b 1 0 + cond c 1 0
unfolding looked_at
looked-by count x y z true true true e f = simp (e, f, last-looked)
looked-by count x y z true true false e f = simp (e, f)
looked-by count x y z true false true e f = simp (e, last-looked)
looked-by count x y z true false false e f = simp e
looked-by count x y z false true true e f = simp (f, last-looked)
looked-by count x y z false true false e f = simp f
looked-by count x y z false false true e f = last-looked (eqb z count)
looked-by count x y z false false false e f = refl

-- up to B where A was not one tick off
looked-to : (count x y : ℕ) (rest : List ℕ) (a : Bool) → a && eqb x count ≡ false → y ≡ count → looked_at count (having a x (y ∷ rest)) ≡ cond a 1 0 + 1
unfolding looked_at
looked-to count x y rest true e f = simp (e, eq-eqb y count f)
looked-to count x y rest false e f = simp (eq-eqb y count f)

-- a compare at the count is no tick away
ahead_none : (down : Bool) (count compare all : ℕ) → compare ≡ count → ahead true down count compare all ≡ 0
unfolding ahead
ahead_none true count compare all e = simp (e, le-leb count count (le_refl count)) (omega arith)
ahead_none false count compare all e = simp (e, le-leb count count (le_refl count)) (omega arith)

module _ (down : Bool) (count all : ℕ) where
  -- a compare that is not ahead may fall back on any gap up to all
  closer-all : (present : Bool) (compare gap : ℕ) → gap ≤ all → closer present down count compare gap ≡ min gap (ahead present down count compare all)
  unfolding ahead
  closer-all false compare gap h = omega arith
  closer-all true compare gap h = go down (leb compare count) (leb count compare)
    where
      go : (d x y : Bool) → min gap (cond d (cond x (count - compare) gap) (cond y (compare - count) gap)) ≡ min gap (cond d (cond x (count - compare) all) (cond y (compare - count) all))
      go true true y = refl
      go true false y = omega arith
      go false x true = refl
      go false x false = omega arith

  module _ (w : Wave) (ocr : List ℕ) where
    gap-closer : gap_at w down count ocr all ≡ closer w.c down count (get_or ocr 2 0) (closer w.b down count (get_or ocr 1 0) (closer w.a down count (get_or ocr 0 0) all))
    unfolding gap_at
    gap-closer =
        let a = closer w.a down count (get_or ocr 0 0) all in
        let la = closer-le w.a down count (get_or ocr 0 0) all in
        let lb = closer-le w.b down count (get_or ocr 1 0) a in
        let ea = closer-all w.a (get_or ocr 0 0) all (omega arith) in
        let eb = closer-all w.b (get_or ocr 1 0) a (omega arith) in
        let ec = closer-all w.c (get_or ocr 2 0) (closer w.b down count (get_or ocr 1 0) a) (omega arith) in
        omega arith

    looked-all : w.a && eqb (get_or ocr 0 0) count ≡ false → w.b && eqb (get_or ocr 1 0) count ≡ false
        → looked_at count (compares w ocr) ≡ cond w.a 1 0 + cond w.b 1 0 + cond w.c 1 0
    unfolding compares
    looked-all = looked-by count (get_or ocr 0 0) (get_or ocr 1 0) (get_or ocr 2 0) w.a w.b w.c

    -- the gap is none where a compare that the timer has is one tick off
    near-a : w.a ≡ true → get_or ocr 0 0 ≡ count → gap_at w down count ocr all ≡ 0
    unfolding gap_at
    near-a p e = rw p (omega (arith, ahead_none down count (get_or ocr 0 0) all e))

    near-b : w.b ≡ true → get_or ocr 1 0 ≡ count → gap_at w down count ocr all ≡ 0
    unfolding gap_at
    near-b p e = rw p (omega (arith, ahead_none down count (get_or ocr 1 0) all e))

    looked-a : w.a ≡ true → get_or ocr 0 0 ≡ count → looked_at count (compares w ocr) ≡ 1
    unfolding looked_at compares
    looked-a p e = simp (p, eq-eqb (get_or ocr 0 0) count e)

    looked-b : w.a && eqb (get_or ocr 0 0) count ≡ false → w.b ≡ true → get_or ocr 1 0 ≡ count → looked_at count (compares w ocr) ≡ cond w.a 1 0 + 1
    unfolding compares
    looked-b f p e = rw p (looked-to count (get_or ocr 0 0) (get_or ocr 1 0) (having w.c (get_or ocr 2 0) []) w.a f e)

-- ---- the ways out
module _ (w : Wave) (ocr : List ℕ) (down : Bool) (count all : ℕ) where
  -- at A
  pub ends-a : w.a ≡ true → get_or ocr 0 0 ≡ count → record { gap = 0; looked = 1 } ≡ sought_at w down count ocr all
  ends-a p e = rw (near-a down count all w ocr p e, looked-a down count all w ocr p e)

  module _ {gap looked : ℕ} (a : Passed w.a down count (get_or ocr 0 0) all 0 gap looked) where
    -- at B
    pub ends-b : w.b ≡ true → get_or ocr 1 0 ≡ count → record { gap = 0; looked = looked + 1 } ≡ sought_at w down count ocr all
    ends-b p e = let l : looked ≡ cond w.a 1 0 = omega (arith, a.looked) in rw (near-b down count all w ocr p e, looked-b down count all w ocr a.far p e, l)

    -- with all looked at
    pub ends : {near seen last after : ℕ} → Passed w.b down count (get_or ocr 1 0) gap looked near seen → last ≡ closer w.c down count (get_or ocr 2 0) near → after ≡ seen + cond w.c 1 0
        → record { gap = last; looked = after } ≡ sought_at w down count ocr all
    ends b g l = let n : looked ≡ cond w.a 1 0 = omega (arith, a.looked) in rw (gap-closer down count all w ocr, looked-all down count all w ocr a.far b.far, g, l, b.gap, b.looked, a.gap, n)
