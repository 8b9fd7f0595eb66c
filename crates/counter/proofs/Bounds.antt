-- Bounds of the tables, and of a valid timer's numbers. All stay within MAX.
use Prim.Native.Nat.{ℕ, zero, suc, ◌%◌, ◌≤◌, ◌<◌, max}
use native.Mathlib.Omega.{arith}
use native.Mathlib.Decide.{dec_lt}
use mathlib.Core.Bool.{Bool, true, false, cond, or-false}
use mathlib.Core.List.{List, [], ◌∷◌}
use mathlib.Core.Path.{◌≡◌, refl}
use lib.Dec.{eqb, leb}
use lib.ListN.{get_or, take}
use lib.Seq.{get_or-take}
use borrow.Author.Tests.{leb-true, le-leb, ne_eqb}
use Rattle.wave.specs.Kinds.{I}
use Rattle.tick.specs.Sound.{Sound}
use Rattle.tick.proofs.Choices.{cond-all, cond-case}
use Rattle.counter.specs.declared.state.Timer.{Timer}
use Rattle.counter.specs.Modes.{narrow_sources, wide_sources, narrow_tops, wide_tops, falling, rising, cs_sync, cs_timer2, clock_at, source_at, fixed_at, max_at, divisor_at, chosen, mode_of, wave_of, divisor_of}
use Rattle.counter.specs.Setting.{setting_of, setting_at, moving_of}
use Rattle.counter.specs.Valid.{Valid}

-- ---- the tables: a table's largest number, which computes
unfoldable most : List ℕ → ℕ
most [] = 0
most (x ∷ l) = max x (most l)

at_most : (l : List ℕ) (k : ℕ) → get_or l k 0 ≤ most l
unfolding most
at_most [] k = omega arith
at_most (x ∷ l) zero = omega arith
at_most (x ∷ l) (suc k) = let h = at_most l k in omega arith

fixed-max : (wide : Bool) (mode : ℕ) → fixed_at wide mode ≤ max_at wide
unfolding fixed_at max_at most
fixed-max true mode = at_most wide_tops mode
fixed-max false mode = at_most narrow_tops mode

pub source-max : (wide : Bool) (mode : ℕ) → source_at wide mode ≤ I
unfolding source_at most
source-max true mode = at_most wide_sources mode
source-max false mode = let h = at_most narrow_sources mode in omega arith

-- a mode is a place in the tables of its width
pub in-wide : {wide : Bool} {mode : ℕ} → mode < cond wide 16 8 → wide ≡ true → mode < 16
in-wide h e = rw e at h

pub in-narrow : {wide : Bool} {mode : ℕ} → mode < cond wide 16 8 → wide ≡ false → mode < 8
in-narrow h e = rw e at h

-- ---- clocks: those that are divisors, and those that are not
clock-max : (clock : ℕ) → cond (leb clock 1024) clock 0 ≤ 1024
clock-max clock = cond-case (λ (n : ℕ). n ≤ 1024) (leb clock 1024) (leb-true clock 1024) (λ e. omega arith)

pub divisor-max : (t : Timer) → divisor_of t ≤ 1024
unfolding divisor_of divisor_at
divisor-max t = clock-max (clock_at t.config.clocks (t.registers.tccrb % 8))

-- of `CS_SYNC` those up to select 5
prescaled : (select : ℕ) → select < 6 → get_or cs_sync select 0 ≤ 1024
unfolding most
prescaled select h = rw (← get_or-take 6 cs_sync select 0 h) (at_most (take 6 cs_sync) select)

pub sync-divides : (select : ℕ) → select < 6 → divisor_at 0 select ≡ get_or cs_sync select 0
unfolding divisor_at
sync-divides select h = simp (le-leb _ _ (prescaled select h))

pub sync-unchosen : (select level : ℕ) → select < 6 → chosen 0 select level ≡ false
unfolding chosen
sync-unchosen select level h =
    let m = prescaled select h in
    simp (ne_eqb (get_or cs_sync select 0) falling (λ e. omega arith), ne_eqb (get_or cs_sync select 0) rising (λ e. omega arith))

-- and all of `CS_TIMER2`
module _ (clocks select : ℕ) (other : clocks ≡ 0 → ⊥) where
  pub timer2-divides : divisor_at clocks select ≡ get_or cs_timer2 select 0
  unfolding divisor_at most
  timer2-divides = simp (ne_eqb clocks 0 other, le-leb _ _ (at_most cs_timer2 select))

  pub timer2-unchosen : (level : ℕ) → chosen clocks select level ≡ false
  unfolding chosen most
  timer2-unchosen level =
      let m = at_most cs_timer2 select in
      simp (ne_eqb clocks 0 other, ne_eqb (get_or cs_timer2 select 0) falling (λ e. omega arith), ne_eqb (get_or cs_timer2 select 0) rising (λ e. omega arith))

-- the T pin's: falling, then rising
by-pin : (P : ℕ → Type 0) (select : ℕ) → 5 < select → select < 8 → P 6 → P 7 → P select
by-pin P select h k six seven = go (dec_lt select 7)
  where
    go : Dec (select < 7) → P select
    go (yes l) = let e : select ≡ 6 = omega arith in rw e six
    go (no l) = let e : select ≡ 7 = omega (arith, l) in rw e seven

pub sync-undivided : (select : ℕ) → 5 < select → select < 8 → divisor_at 0 select ≡ 0
unfolding divisor_at
sync-undivided select h k = by-pin (λ (n : ℕ). divisor_at 0 n ≡ 0) select h k refl refl

pub sync-falling : (select level : ℕ) → get_or cs_sync select 0 ≡ falling → chosen 0 select level ≡ eqb level 0
unfolding chosen
sync-falling select level e = simp (e, or-false)

pub sync-rising : (select level : ℕ) → 5 < select → select < 8 → (get_or cs_sync select 0 ≡ falling → ⊥) → chosen 0 select level ≡ eqb level 1
unfolding chosen
sync-rising select level h k = by-pin (λ (n : ℕ). (get_or cs_sync n 0 ≡ falling → ⊥) → chosen 0 n level ≡ eqb level 1) select h k (λ no. absurd (no refl)) (λ no. refl)

-- ---- a valid timer's numbers, over MAX
pub valid-sound : (t : Timer) → Valid t → Sound (setting_of t) (moving_of t)
unfolding setting_at wave_of max_at
valid-sound t v =
    record {
      steady = record {
        least = cond-all (λ (n : ℕ). 255 ≤ n) t.config.wide (omega arith) (omega arith);
        most = cond-all (λ (n : ℕ). n < 65536) t.config.wide (omega arith) (omega arith);
        fixed = fixed-max t.config.wide (mode_of t);
        icr = v.icr;
        compares = v.compares;
        count = v.count;
        turns = v.turns;
        odometer = v.odometer;
      };
      buffers = v.buffers;
    }
