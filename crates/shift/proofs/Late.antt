-- What a late edge does to the value captured.
use Prim.Native.Nat.{ℕ, suc, ◌+◌, ◌-◌, ◌*◌, ◌/◌, ◌%◌, ◌≤◌, ◌<◌, ◌^◌}
use native.Mathlib.Omega.{arith}
use native.Mathlib.Nat.{div-lt_iff_lt-mul, div-add-mod, mul-add, mul-suc, add-mul-div_left, mod-lt, mod-add-mod, mod-eq_of_lt, add-mul-mod_self_right}
use native.Mathlib.Numerals.{add-one}
use mathlib.Core.Path.{◌≡◌, refl, sym, ap, subst, ◌∙◌}
use mathlib.Core.Bool.{Bool, true, false, cond, not, ◌&&◌, false≢true, true≢false}
use mathlib.Core.List.{List}
use mathlib.Core.Logic.{◌⊎◌, inl, inr, ⊎_elim}
use lib.Dec.{eqb, ltb}
use lib.IntN.{ℤ, pos, neg_ℤ}
use borrow.Author.Tests.{eqb-true, eqb-false, ltb-true, ltb-false}
use Rattle.time.specs.declared.units.Prescaler.{Prescaler}
use Rattle.time.specs.Units.{ticks_at}
use Rattle.time.specs.Halts.{holding}
use Rattle.counter.specs.declared.state.Timer.{Timer}
use Rattle.counter.specs.Capture.{captures, captured}
use Rattle.counter.specs.Halts.{latest_to}
use Rattle.counter.specs.Modes.{mode_of, kind_at, max_at, divisor_of, prescaler_of, held_of, running_of}
use Rattle.counter.specs.Passage.{synced, passed, sync_to}
use Rattle.counter.specs.Valid.{Valid}
use Rattle.counter.proofs.Clocks.{running-divides}
use Rattle.counter.proofs.Keeps.{fresh-is-valid}
use Rattle.passage.specs.Passage.{ticks}
use Rattle.timer.specs.declared.calls.Call.{Call}
use Rattle.timer.specs.declared.calls.Call.TheVariants as call
use Rattle.timer.specs.Calls.{edge_captures, output_captures, asks, works, before}
use Rattle.timer.specs.Claims.{Request, told, last}
use Rattle.timer.proofs.Timely.{timely}
use Rattle.timer.proofs.Keeps.{last-valid}
use Rattle.shift.specs.Shift.{apart, between, by, values_at}
use Rattle.shift.specs.Claims.{capturing, Captures, Later, Late, MovedBy, Shifted}
use Rattle.shift.proofs.Following.{Follows, told-ends, before-follows, list-follows}
use Rattle.shift.proofs.Signs.{between_is}
use Rattle.shift.proofs.Refusals.{accepted-by}

-- ---- ticks between two cycles
sum-div : (a e n : ℕ) → 0 < n → (a + e) / n ≡ (a % n + e % n) / n + (a / n + e / n)
sum-div a e n d =
    let x = div-add-mod a n in
    let y = div-add-mod e n in
    let m = mul-add n (a / n) (e / n) in
    let q : a + e ≡ a % n + e % n + n * (a / n + e / n) = omega arith in
    ap (λ (k : ℕ). k / n) q ∙ add-mul-div_left (a % n + e % n) (a / n + e / n) d

-- two remainders make at most one tick more
few : (r n : ℕ) → 0 < n → r < 2 * n → (r / n ≡ 0) ⊎ (r / n ≡ 1)
few r n d h = go (eqb (r / n) 0) refl
  where
    two : r / n < 2
    two = (div-lt_iff_lt-mul d).1 h

    go : (b : Bool) → eqb (r / n) 0 ≡ b → (r / n ≡ 0) ⊎ (r / n ≡ 1)
    go true e = inl (eqb-true (r / n) 0 e)
    go false e = inr (let z = eqb-false (r / n) 0 e in omega (arith, two))

module _ (p : Prescaler) (c e : ℕ) (d : 0 < p.divisor) (o : p.origin.0 ≤ c) where
  since : (c + e - p.origin.0) / p.divisor ≡ ((c - p.origin.0) % p.divisor + e % p.divisor) / p.divisor + ((c - p.origin.0) / p.divisor + e / p.divisor)
  since = let q : c + e - p.origin.0 ≡ c - p.origin.0 + e = omega arith in ap (λ (k : ℕ). k / p.divisor) q ∙ sum-div (c - p.origin.0) e p.divisor d

  ticks-later : (ticks_at p (c + e) ≡ ticks_at p c + e / p.divisor) ⊎ (ticks_at p (c + e) ≡ ticks_at p c + (e / p.divisor + 1))
  unfolding ticks_at
  ticks-later =
      let x = mod-lt (c - p.origin.0) d in
      let y = mod-lt e d in
      ⊎_elim
      (λ (z : _). inl (omega (arith, z, since)))
      (λ (z : _). inr (omega (arith, z, since)))
      (few ((c - p.origin.0) % p.divisor + e % p.divisor) p.divisor d (omega arith))

  ticks-exact : e % p.divisor ≡ 0 → ticks_at p (c + e) ≡ ticks_at p c + e / p.divisor
  unfolding ticks_at
  ticks-exact h =
      let x = mod-lt (c - p.origin.0) d in
      let z : ((c - p.origin.0) % p.divisor + e % p.divisor) / p.divisor < 1 = (div-lt_iff_lt-mul d).1 (omega arith) in
      omega (arith, since)

-- counts that go round
round-later : (base j k n m x y : ℕ) → x ≡ (base + j) % suc m → y ≡ (base + k) % suc m → k ≡ j + n → y ≡ (x + n) % (m + 1)
round-later base j k n m x y e f h =
    let q : base + k ≡ base + j + n = omega arith in
    f ∙ (ap (λ (z : ℕ). z % suc m) q ∙ (sym (mod-add-mod (base + j) (suc m) n) ∙ rw (e, add-one m)))

-- by a signed number
round-between : (base j k m x y : ℕ) → x ≡ (base + j) % suc m → y ≡ (base + k) % suc m → MovedBy (m + 1) (between j k) x y
round-between base j k m x y e f = subst (λ (z : ℤ). MovedBy (m + 1) z x y) (between_is j k) (go (ltb k j) refl)
  where
    go : (b : Bool) → ltb k j ≡ b → MovedBy (m + 1) (cond b (neg_ℤ (pos (apart j k))) (pos (apart j k))) x y
    go true h =
        let l = ltb-true k j h in
        let q : apart j k ≡ suc (j - k - 1) = omega arith in
        rw q (round-later base k j (suc (j - k - 1)) m y x f e (omega arith))
    go false h = let l = ltb-false k j h in round-later base j k (apart j k) m x y e f (omega arith)

-- ---- the value captured
module _ (t : Timer) (base : ℕ) (divides : 0 < divisor_of t) (normal : kind_at t.config.wide (mode_of t) ≡ 0) where
  record Value (cycle : ℕ) (u : Timer) : Type 0 where
    icr : u.registers.icr ≡ (base + ticks_at (prescaler_of t) cycle) % suc (max_at t.config.wide)
    from : t.clock.origin.0 ≤ cycle

  module _ (x : Timer) (f : Follows t base x) (v : Valid x) where
    since-origin : (cycle : ℕ) → x.clock.latest.0 ≤ cycle → t.clock.origin.0 ≤ cycle
    since-origin cycle l = let o : x.clock.origin.0 ≤ x.clock.sync.0 = v.origin in let s = v.sync in rw (← f.origin) (omega arith)

    -- a capture copies the count at its cycle
    copied : (cycle : ℕ) → x.clock.latest.0 ≤ cycle → cycle < 2 ^ 62 → Value cycle (latest_to (captured (before ticks x true cycle).timer).timer cycle)
    unfolding captured
    copied cycle l u =
        let y = before-follows t base divides normal x f v true cycle l in
        let s = (timely x true cycle v l u).synced refl in
        record { icr = rw s at y.count; from = since-origin cycle l }

    -- the call captures as the timer did before its time passed
    edge_same : (pin level cycle : ℕ) → edge_captures (before ticks x true cycle).timer pin level ≡ edge_captures x pin level
    unfolding before synced passed sync_to edge_captures captures mode_of
    edge_same pin level cycle = refl

    output-same : (level cycle : ℕ) → output_captures (before ticks x true cycle).timer level ≡ output_captures x level
    unfolding before synced passed sync_to output_captures captures mode_of
    output-same level cycle = refl

    abbrev After : Call → ℕ → Type 0
    After c cycle = ((asks x c).advances ≡ false) × (x.clock.latest.0 ≤ cycle → cycle < 2 ^ 62 → Value cycle (latest_to (works (before ticks x (asks x c).syncs cycle).timer c cycle).timer cycle))

    after : (c : Call) (cycle : ℕ) → capturing x c ≡ true → After c cycle
    unfolding capturing asks works
    after (call.Edge pin level) cycle e = (refl, λ l u. rw (e, edge_same pin level cycle ∙ e) (copied cycle l u))
    after (call.Output level) cycle e = (refl, λ l u. rw (e, output-same level cycle ∙ e) (copied cycle l u))
    after call.Advance cycle e = absurd (false≢true e)
    after call.Next cycle e = absurd (false≢true e)
    after (call.Read address) cycle e = absurd (false≢true e)
    after (call.Peek address) cycle e = absurd (false≢true e)
    after (call.Write address value) cycle e = absurd (false≢true e)
    after call.Tifr cycle e = absurd (false≢true e)
    after call.Timsk cycle e = absurd (false≢true e)
    after (call.WriteTifr ones) cycle e = absurd (false≢true e)
    after (call.WriteTimsk mask) cycle e = absurd (false≢true e)
    after (call.Route level) cycle e = absurd (false≢true e)
    after (call.Sleep mode) cycle e = absurd (false≢true e)
    after call.Wake cycle e = absurd (false≢true e)
    after (call.Reduce mask) cycle e = absurd (false≢true e)
    after (call.Tsm level) cycle e = absurd (false≢true e)
    after (call.Prescale mask) cycle e = absurd (false≢true e)
    after call.Reset cycle e = absurd (false≢true e)

    captured-value : (q : Request) → capturing x q.call ≡ true → (told ticks x q).number ≡ 0 → Value q.cycle (told ticks x q).timer
    captured-value q k n =
        ⊎_elim
        (λ (w : _). w.1)
        (λ (w : _). absurd (w.0 n))
        (told-ends (Value q.cycle) x q
        (λ a z. absurd (true≢false (sym z ∙ (after q.call q.cycle k).0)))
        (λ a z. (after q.call q.cycle k).1 a.latest a.most)).went

-- ---- the claim
unheld : (a b : Bool) → a && not b ≡ true → b ≡ false
unheld true true e = absurd (false≢true e)
unheld true false e = refl
unheld false b e = absurd (false≢true e)

module _ (t : Timer) (v : Valid t) (run : running_of t ≡ true) (normal : kind_at t.config.wide (mode_of t) ≡ 0) where
  -- what the count would be at tick 0
  base : ℕ
  base = t.counter.count + ticks_at (prescaler_of t) t.clock.sync.0 * max_at t.config.wide

  free : holding t.halts ≡ false
  unfolding running_of held_of
  free = unheld (ltb 0 (divisor_of t)) (holding t.halts) run

  follows : Follows t base t
  unfolding base
  follows = record { config = refl; tccra = refl; tccrb = refl; origin = refl; free = free; count = counted }
    where
      k : ℕ
      k = ticks_at (prescaler_of t) t.clock.sync.0

      m : ℕ
      m = max_at t.config.wide

      counted : t.counter.count ≡ (t.counter.count + k * m + k) % suc m
      counted =
          let l = v.count in
          let s = mul-suc k m in
          let q : t.counter.count + k * m + k ≡ t.counter.count + k * suc m = omega arith in
          let w : t.counter.count < suc m = omega arith in
          sym (ap (λ (z : ℕ). z % suc m) q ∙ (add-mul-mod_self_right t.counter.count k (suc m) ∙ mod-eq_of_lt w))

  value : (qs : List Request) (q : Request) → Captures t qs q → Value t base (running-divides t run) normal q.cycle (told ticks (last ticks t qs) q).timer
  value qs q c = captured-value t base (running-divides t run) normal (last ticks t qs) (list-follows t base (running-divides t run) normal t qs follows v c.undisturbed) (last-valid t qs v) q c.captures c.taken

  later : (xs ys : List Request) (a b : Request) (e : ℕ) → Captures t xs a → Captures t ys b → b.cycle ≡ a.cycle + e
      → Later (max_at t.config.wide + 1) (divisor_of t) e (told ticks (last ticks t xs) a).timer.registers.icr (told ticks (last ticks t ys) b).timer.registers.icr
  later xs ys a b e ca cb h =
      record {
        either = ⊎_elim (λ (z : _). inl (by (e / divisor_of t) z)) (λ (z : _). inr (by (e / divisor_of t + 1) z)) (ticks-later (prescaler_of t) a.cycle e (running-divides t run) x.from);
        exact = λ z. by (e / divisor_of t) (ticks-exact (prescaler_of t) a.cycle e (running-divides t run) x.from z);
      }
    where
      x : Value t base (running-divides t run) normal a.cycle (told ticks (last ticks t xs) a).timer
      x = value xs a ca

      y : Value t base (running-divides t run) normal b.cycle (told ticks (last ticks t ys) b).timer
      y = value ys b cb

      by : (n : ℕ) → ticks_at (prescaler_of t) (a.cycle + e) ≡ ticks_at (prescaler_of t) a.cycle + n
          → (told ticks (last ticks t ys) b).timer.registers.icr ≡ ((told ticks (last ticks t xs) a).timer.registers.icr + n) % (max_at t.config.wide + 1)
      by n z = round-later base (ticks_at (prescaler_of t) a.cycle) (ticks_at (prescaler_of t) b.cycle) n (max_at t.config.wide) _ _ x.icr y.icr (rw h z)

  -- the signed shift, of two captures whichever comes first
  moved_by : (xs ys : List Request) (a b : Request) (z : ℤ) → Captures t xs a → Captures t ys b → values_at t a.cycle b.cycle ≡ by z
      → MovedBy (max_at t.config.wide + 1) z (told ticks (last ticks t xs) a).timer.registers.icr (told ticks (last ticks t ys) b).timer.registers.icr
  moved_by xs ys a b z ca cb h =
      let q : between (ticks_at (prescaler_of t) a.cycle) (ticks_at (prescaler_of t) b.cycle) ≡ z = rw run at (accepted-by t a.cycle b.cycle z h).1 in
      rw (← q) (round-between base _ _ (max_at t.config.wide) _ _ (value xs a ca).icr (value ys b cb).icr)

pub late : Late
late c e qs run normal = later _ (last-valid _ qs (fresh-is-valid c e)) run normal

pub shifted : Shifted
shifted c e qs run normal = moved_by _ (last-valid _ qs (fresh-is-valid c e)) run normal
