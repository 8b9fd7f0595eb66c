-- Which calls are left once a held timer was looked at, by their numbers.
use Prim.Native.Nat.{ℕ, zero, suc, ◌+◌, ◌≤◌}
use native.Mathlib.Omega.{arith}
use mathlib.Core.Bool.{Bool, true, false, cond, not, ◌&&◌, ◌||◌, true≢false}
use mathlib.Core.Path.{◌≡◌, refl, sym, ap, ◌∙◌}
use lib.Dec.{eqb, leb, ltb}
use borrow.Author.Tests.{eqb-false, leb-true, ltb-true, ltb-false, le-leb}
use Rattle.time.specs.Units.{late_at}
use Rattle.tick.proofs.Choices.{and_left}
use Rattle.config.specs.Config.{place_of}
use Rattle.wave.specs.Kinds.{C}
use Rattle.counter.specs.Registers.{is_high}
use Rattle.timer.specs.Calls.{asks}
use Rattle.timer.specs.declared.calls.Call.TheVariants as call
use Rattle.held.specs.declared.state.Held.{Held}
use Rattle.held.specs.Quick.{refusing}
use Rattle.held.specs.Write.{way_at, way_of}
use Rattle.held.proofs.Stores.{and_right}
use Rattle.serving.specs.declared.asked.Asked.{Asked}
use Rattle.serving.specs.declared.asked.Wanted.TheVariants as wanted
use Rattle.serving.specs.declared.asks.Asks.{Asks}
use Rattle.serving.specs.Asked.{calls, known, call_of}
use Rattle.serving.specs.Looking.{refused_by, stays_of, Left, LeftFor}
use Rattle.serving.proofs.Laws.{quiet_of}
use Rattle.shell.specs.Numbers.{Changes}

-- ---- the call of a number
pub advance-call : (q : Asked) → q.kind ≡ 0 → call_of q ≡ wanted.Known call.Advance
advance-call q e = ap (known (calls q)) e

pub write-call : (q : Asked) → q.kind ≡ 4 → call_of q ≡ wanted.Known (call.Write q.address q.value)
write-call q e = ap (known (calls q)) e

pub reset-call : (q : Asked) → q.kind ≡ 17 → call_of q ≡ wanted.Known call.Reset
reset-call q e = ap (known (calls q)) e

-- ---- what an accepted call passed
module _ (a : Asks) (latest next cycle : ℕ) where
  early-of : refused_by a latest next cycle ≡ 0 → refusing false latest next cycle ≡ 0
  unfolding refused_by refusing
  early-of e = go (eqb (late_at latest cycle) 0) refl e
    where
      go : (b : Bool) → eqb (late_at latest cycle) 0 ≡ b → refused_by a latest next cycle ≡ 0 → refusing false latest next cycle ≡ 0
      go false p e = let z : late_at latest cycle ≡ 0 = rw p at e in absurd (eqb-false _ _ p z)
      go true p e = rw p refl

  present-of : refused_by a latest next cycle ≡ 0 → a.absent ≡ false
  unfolding refused_by
  present-of e = go (eqb (late_at latest cycle) 0) a.absent refl refl e
    where
      go : (b x : Bool) → eqb (late_at latest cycle) 0 ≡ b → a.absent ≡ x → refused_by a latest next cycle ≡ 0 → x ≡ false
      go b false p q e = refl
      go false true p q e = let z : late_at latest cycle ≡ 0 = rw p at e in absurd (eqb-false _ _ p z)
      go true true p q e = let z : ◌≡◌ {A = ℕ} 4 0 = rw (p, q) at e in absurd (omega arith)

-- ---- the numbers that can be left
among : (q : Asked) {n : ℕ} → q.kind ≡ n → 9 ≤ n → n ≤ 16 → (n ≡ 11 → ⊥) → Changes q
among q e l m s = record { least = omega (arith, e); most = omega (arith, e); apart = λ z. s (sym e ∙ z) }

changes-at : (h : Held) (q : Asked) (n : ℕ) → q.kind ≡ n → (n ≡ 0 → ⊥) → (n ≡ 4 → ⊥) → (n ≡ 17 → Left h call.Reset q.cycle → ⊥) → LeftFor h (known (calls q) n) q.cycle → Changes q
unfolding stays_of
changes-at h q zero e a b c l = absurd (a refl)
changes-at h q (suc zero) e a b c l = absurd (true≢false l.turns)
changes-at h q (suc (suc zero)) e a b c l = absurd (true≢false l.turns)
changes-at h q (suc (suc (suc zero))) e a b c l = absurd (true≢false l.turns)
changes-at h q (suc (suc (suc (suc zero)))) e a b c l = absurd (b refl)
changes-at h q (suc (suc (suc (suc (suc zero))))) e a b c l = absurd (true≢false l.turns)
changes-at h q (suc (suc (suc (suc (suc (suc zero)))))) e a b c l = absurd (true≢false l.turns)
changes-at h q (suc (suc (suc (suc (suc (suc (suc zero))))))) e a b c l = absurd (true≢false l.turns)
changes-at h q (suc (suc (suc (suc (suc (suc (suc (suc zero)))))))) e a b c l = absurd (true≢false l.turns)
changes-at h q (suc (suc (suc (suc (suc (suc (suc (suc (suc zero))))))))) e a b c l = among q e (omega arith) (omega arith) (omega arith)
changes-at h q (suc (suc (suc (suc (suc (suc (suc (suc (suc (suc zero)))))))))) e a b c l = among q e (omega arith) (omega arith) (omega arith)
changes-at h q (suc (suc (suc (suc (suc (suc (suc (suc (suc (suc (suc zero))))))))))) e a b c l = absurd (true≢false l.turns)
changes-at h q (suc (suc (suc (suc (suc (suc (suc (suc (suc (suc (suc (suc zero)))))))))))) e a b c l = among q e (omega arith) (omega arith) (omega arith)
changes-at h q (suc (suc (suc (suc (suc (suc (suc (suc (suc (suc (suc (suc (suc zero))))))))))))) e a b c l = among q e (omega arith) (omega arith) (omega arith)
changes-at h q (suc (suc (suc (suc (suc (suc (suc (suc (suc (suc (suc (suc (suc (suc zero)))))))))))))) e a b c l = among q e (omega arith) (omega arith) (omega arith)
changes-at h q (suc (suc (suc (suc (suc (suc (suc (suc (suc (suc (suc (suc (suc (suc (suc zero))))))))))))))) e a b c l = among q e (omega arith) (omega arith) (omega arith)
changes-at h q (suc (suc (suc (suc (suc (suc (suc (suc (suc (suc (suc (suc (suc (suc (suc (suc zero)))))))))))))))) e a b c l = among q e (omega arith) (omega arith) (omega arith)
changes-at h q (suc (suc (suc (suc (suc (suc (suc (suc (suc (suc (suc (suc (suc (suc (suc (suc (suc zero))))))))))))))))) e a b c l = absurd (c refl l)
changes-at h q (suc (suc (suc (suc (suc (suc (suc (suc (suc (suc (suc (suc (suc (suc (suc (suc (suc (suc n)))))))))))))))))) e a b c l = absurd l

-- a call that is neither an advance nor a write, nor a reset that is accepted
pub changes : (h : Held) (q : Asked) (y : ℕ) → y ≡ refusing false h.timer.clock.latest.0 h.next q.cycle → (q.kind ≡ 0 → ⊥) → (q.kind ≡ 4 → ⊥) → eqb q.kind 17 && eqb y 0 ≡ false
    → LeftFor h (call_of q) q.cycle → Changes q
changes h q y e a b f l = changes-at h q q.kind refl a b (λ k z. true≢false (sym (both k z) ∙ f)) l
  where
    both : q.kind ≡ 17 → Left h call.Reset q.cycle → eqb q.kind 17 && eqb y 0 ≡ true
    both k z = rw (k, e, early-of _ h.timer.clock.latest.0 h.next q.cycle z.accepted) refl

-- ---- a write that is refused is not left
module _ (h : Held) (address value cycle : ℕ) where
  abbrev place : ℕ
  place = place_of h.timer.config address

  abbrev early : ℕ
  early = refusing false h.timer.clock.latest.0 h.next cycle

  abbrev due : ℕ
  due = refusing true h.timer.clock.latest.0 h.next cycle

  abbrev refused : Bool
  refused = ltb 12 place || not (eqb due 0)

  abbrev compares : Bool
  compares = (leb 2 place && leb place 6) && not (leb h.scene.kind C)

  abbrev chosen : Bool → Bool → Bool → Bool → ℕ
  chosen high early refused compares = cond high (cond early 1 32) (cond refused 32 (cond compares place (16 + place)))

  pub write-left : 32 ≤ way_of h address cycle → Left h (call.Write address value) cycle → ⊥
  unfolding way_at asks
  write-left w l = go (is_high place) (eqb early 0) (ltb 12 place) (eqb due 0) compares refl refl refl refl refl w
    where
      in-time : early ≡ 0
      in-time = early-of _ _ h.next _ l.accepted

      there : leb 13 place ≡ false
      there = present-of _ _ h.next _ l.accepted

      quiet : is_high place ≡ false → due ≡ 0
      quiet e = quiet_of _ _ h.next _ l.accepted (rw e refl)

      go : (x y u v z : Bool) → is_high place ≡ x → eqb early 0 ≡ y → ltb 12 place ≡ u → eqb due 0 ≡ v → compares ≡ z → 32 ≤ chosen x y (u || not v) z → ⊥
      go true true u v z p q o s r w = omega arith
      go true false u v z p q o s r w = eqb-false _ _ q in-time
      go false y true v z p q o s r w = let m = ltb-true 12 place o in true≢false (sym (le-leb 13 place (omega arith)) ∙ there)
      go false y false false z p q o s r w = eqb-false _ _ s (quiet p)
      go false y false true true p q o s r w = let m = leb-true place 6 (and_right (leb 2 place) _ (and_left _ _ r)) in omega arith
      go false y false true false p q o s r w = let m = ltb-false 12 place o in omega arith
