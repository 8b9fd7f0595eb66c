-- One tick in a normal mode, and any number of them: the count's wraps are the flag records that raise TOV.
use Prim.Native.Nat.{ℕ, zero, suc, ◌+◌, ◌-◌, ◌*◌, ◌/◌, ◌%◌, ◌≤◌, ◌^◌}
use native.Mathlib.Omega.{arith}
use native.Mathlib.Nat.{add-zero, zero-add, mul-add}
use mathlib.Core.Path.{◌≡◌, refl, sym, ◌∙◌}
use mathlib.Core.Bool.{Bool, true, false, cond, not, ◌&&◌}
use mathlib.Core.List.{[]}
use lib.Dec.{eqb, leb}
use lib.ListN.{get_or}
use lib.Bits.{bit_and, or_zero_r}
use borrow.Author.Tests.{eqb-true}
use Rattle.records.specs.Records.{only}
use Rattle.config.specs.declared.Wire.{Wire}
use Rattle.config.specs.Config.{one_bit}
use Rattle.time.specs.declared.units.Prescaler.{Prescaler}
use Rattle.wave.specs.Kinds.{N}
use Rattle.wave.specs.Count.{falls, overflows, next_count, counted}
use Rattle.tick.specs.declared.happenings.Events.{Events}
use Rattle.tick.specs.declared.setting.Channel.{Channel}
use Rattle.tick.specs.declared.setting.Moving.{Moving}
use Rattle.tick.specs.declared.setting.Setting.{Setting}
use Rattle.tick.specs.Outputs.{bit, Outs, pin_entry, recorded, on_pin, acted, matched, bottomed, matches_of, bottoms_of, matches, outputs, outs_of, reapplied, strobed}
use Rattle.tick.specs.Tick.{events_at, events_of, raised, raises, line, lines, flag_entry, trigger_entry, flag_log_of, flag_log, tick_by, tick}
use Rattle.tick.specs.Sound.{Sound}
use Rattle.tick.proofs.Choices.{cond-all}
use Rattle.tick.proofs.Still.{tick-keeps}
use Rattle.passage.specs.Passage.{Run, one, ticks}
use Rattle.passage.proofs.Runs.{one-all}
use Rattle.account.proofs.Flags.{bit-or, bit-low, bit-own, bit-none}
use Rattle.account.proofs.Records.{raisers, raisers-append, Worth, worth-none, worth-then}

-- ---- outputs raise no flag
module _ (flag : ℕ) where
  unfoldable pub Mute : Outs → Outs → Type 0
  Mute o p = raisers flag p.log ≡ raisers flag o.log

  recorded-mute : (pin ch enable value : ℕ) (o : Outs) → Mute o (recorded pin ch enable value o)
  unfolding Mute recorded pin_entry raisers
  recorded-mute pin ch enable value o =
      cond-all (Mute o) (eqb (get_or o.drives.enables ch 0) enable && eqb (get_or o.drives.values ch 0) value) refl
      (raisers-append flag o.log _ ∙ add-zero _)

  on-pin-mute : (w : Wire) (ch enable : ℕ) (o : Outs) → Mute o (on_pin w ch enable o)
  unfolding Mute on_pin
  on-pin-mute w ch enable o = cond-all (Mute o) w.present (recorded-mute w.pin ch enable (get_or o.oc ch 0) o) refl

  acted-mute : (c : Channel) (ch level : ℕ) (o : Outs) → Mute o (acted c ch level o)
  unfolding Mute acted
  acted-mute c ch level o = on-pin-mute c.wire ch _ _

  matched-mute : (kind : ℕ) (c : Channel) (ch : ℕ) (hit rises : Bool) (o : Outs) → Mute o (matched kind c ch hit rises o)
  unfolding Mute matched
  matched-mute kind c ch hit rises o = cond-all (Mute o) (hit && c.enabled) (acted-mute c ch _ o) refl

  bottomed-mute : (c : Channel) (ch : ℕ) (o : Outs) → Mute o (bottomed c ch o)
  unfolding Mute bottomed
  bottomed-mute c ch o = cond-all (Mute o) (leb 2 c.comx) (acted-mute c ch _ o) refl

  matches-mute : (s : Setting) (e : Events) (o : Outs) → Mute o (matches s e o)
  unfolding Mute matches_of
  matches-mute s e o = matched-mute _ s.c 2 _ _ _ ∙ (matched-mute _ s.b 1 _ _ _ ∙ matched-mute _ s.a 0 _ _ o)

  outputs-mute : (s : Setting) (e : Events) (o : Outs) → Mute o (outputs s e o)
  unfolding Mute outputs bottoms_of
  outputs-mute s e o =
      let m = matches-mute s e o in
      cond-all (Mute o) e.bottom (bottomed-mute s.c 2 _ ∙ (bottomed-mute s.b 1 _ ∙ (bottomed-mute s.a 0 _ ∙ m))) m

  pub driven-mute : (s : Setting) (e : Events) (again : Bool) (o : Outs) → Mute o (strobed s e (cond again (reapplied s o) o))
  unfolding Mute strobed reapplied
  driven-mute s e again o =
      let a : Mute o (cond again (reapplied s o) o) = cond-all (Mute o) again (on-pin-mute s.c.wire 2 _ _ ∙ (on-pin-mute s.b.wire 1 _ _ ∙ on-pin-mute s.a.wire 0 _ o)) refl in
      cond-all (Mute o) (leb s.wave.kind 1) (matches-mute s e _ ∙ a) a

-- ---- the flags that are raised: TOV's bit is there where the count overflows
pub record Solo (s : Setting) : Type 0 where
  pub tov : one_bit s.tov ≡ true
  pub a : s.a.flag / s.tov % 2 ≡ 0
  pub b : s.b.flag / s.tov % 2 ≡ 0
  pub c : s.c.flag / s.tov % 2 ≡ 0
  pub icf : s.icf / s.tov % 2 ≡ 0

module _ (s : Setting) (h : Solo s) where
  other : (b : Bool) (f : ℕ) → f / s.tov % 2 ≡ 0 → cond b f 0 / s.tov % 2 ≡ 0
  other true f e = e
  other false f e = bit-none s.tov h.tov

  mine : (b : Bool) → cond b s.tov 0 / s.tov % 2 ≡ bit b
  mine true = bit-own s.tov h.tov
  mine false = bit-none s.tov h.tov

  raised-tov : (e : Events) → raised s e / s.tov % 2 ≡ bit e.overflow
  unfolding raised
  raised-tov e = simp (bit-or s.tov h.tov, mine e.overflow, other e.a _ h.a, other e.b _ h.b, other e.c _ h.c, other e.capture _ h.icf, or_zero_r)

  line-most : (active mask : ℕ) → line active mask ≤ 1
  unfolding line
  line-most active mask = most (not (eqb (bit_and active mask) 0))
    where
      most : (b : Bool) → bit b ≤ 1
      most true = omega arith
      most false = omega arith

  entry-up : (up tifr : ℕ) → (flag_entry s up tifr).body / 256 % 256 / s.tov % 2 ≡ up / s.tov % 2
  unfolding flag_entry lines
  entry-up up tifr =
      let o = line-most (bit_and tifr s.timsk) s.tov in
      let a = line-most (bit_and tifr s.timsk) s.a.flag in
      let b = line-most (bit_and tifr s.timsk) s.b.flag in
      let i = line-most (bit_and tifr s.timsk) s.icf in
      let c = line-most (bit_and tifr s.timsk) s.c.flag in
      let u : (flag_entry s up tifr).body / 256 ≡ up = omega arith in
      rw u (bit-low s.tov h.tov up)

  flag-kind : (up tifr : ℕ) → eqb ((flag_entry s up tifr).kind % 4) 1 ≡ true
  unfolding flag_entry
  flag-kind up tifr = refl

  trigger-mute : (w : Bool) (k id : ℕ) → raisers s.tov (only w (trigger_entry k id)) ≡ 0
  unfolding raisers trigger_entry
  trigger-mute true k id = refl
  trigger-mute false k id = refl

  raises-tov : (e : Events) → e.overflow ≡ true → raises e ≡ true
  unfolding raises
  raises-tov e o = simp o

  -- one record of them, where TOV is raised
  flag-worth : (e : Events) (tifr : ℕ) (o r : Bool) → e.overflow ≡ o → raises e ≡ r → raisers s.tov (only r (flag_entry s (raised s e) tifr)) ≡ bit o
  unfolding raisers
  flag-worth e tifr true r eo er = let q : r ≡ true = sym er ∙ raises-tov e eo in rw q (simp (flag-kind (raised s e) tifr, entry-up (raised s e) tifr, raised-tov e, eo))
  flag-worth e tifr false true eo er = simp (flag-kind (raised s e) tifr, entry-up (raised s e) tifr, raised-tov e, eo)
  flag-worth e tifr false false eo er = refl

  pub flags-worth : (e : Events) (tifr : ℕ) → raisers s.tov (flag_log s e (raised s e) tifr) ≡ bit e.overflow
  unfolding flag_log_of
  flags-worth e tifr =
      simp (raisers-append, trigger-mute, flag-worth e tifr e.overflow (raises e) refl refl, add-zero)

-- ---- one tick
module _ (s : Setting) (h : Solo s) (n : s.wave.kind ≡ N) where
  at-max : (m : Moving) → (events_of s m).overflow ≡ eqb m.counter.count s.wave.max
  unfolding events_at overflows
  at-max m = rw n

  pub tick-worth : (m : Moving) → raisers s.tov (tick s m).log ≡ bit (eqb m.counter.count s.wave.max)
  unfolding tick_by Mute raisers
  tick-worth m =
      raisers-append s.tov (outputs s (events_of s m) (outs_of m)).log _
      ∙ simp (outputs-mute s.tov s (events_of s m) (outs_of m), flags-worth s h (events_of s m), at-max m, zero-add)

  pub wraps : (m : Moving) (b : Bool) → m.counter.count ≤ s.wave.max → eqb m.counter.count s.wave.max ≡ b
      → m.counter.count + 1 ≡ (tick s m).moving.counter.count + (s.wave.max + 1) * bit b
  unfolding tick_by next_count falls
  wraps m true l e = let q : m.counter.count ≡ s.wave.max = eqb-true _ _ e in rw n (simp e (omega arith))
  wraps m false l e = rw n (simp e (omega arith))

pub tick-counted : (s : Setting) (m : Moving) → (tick s m).moving.counter.odometer ≡ counted m.counter.odometer 1
unfolding tick_by
tick-counted s m = refl

-- ---- ticks of a run, from where it began
pub record Tally (s : Setting) (a b : Run) : Type 0 where
  pub worth : ℕ
  pub on : a.at ≤ b.at
  pub count : a.moving.counter.count + (b.at - a.at) ≡ b.moving.counter.count + (s.wave.max + 1) * worth
  pub odometer : b.moving.counter.odometer % 2 ^ 64 ≡ (a.moving.counter.odometer + (b.at - a.at)) % 2 ^ 64
  pub bytes : Worth s.tov b.bytes worth
  pub sound : Sound s b.moving

pub tally-none : (s : Setting) (a : Run) → a.bytes ≡ [] → Sound s a.moving → Tally s a a
tally-none s a e v = record { worth = 0; on = omega arith; count = omega arith; odometer = omega arith; bytes = rw e (worth-none s.tov); sound = v }

module _ (s : Setting) (h : Solo s) (n : s.wave.kind ≡ N) (p : Prescaler) (fits : ℕ → Bool) (a : Run) where
  one-tally : (r : Run) → Tally s a r → Tally s a (one s p fits r)
  one-tally r g =
      one-all s p fits (Tally s a) r g (record { worth = g.worth; on = g.on; count = g.count; odometer = g.odometer; bytes = g.bytes; sound = g.sound })
      (λ e. record {
        worth = g.worth + raisers s.tov (tick s r.moving).log;
        on = (let o = g.on in omega arith);
        count = counts;
        odometer = (let o = g.on in let k = g.odometer in rw (tick-counted s r.moving) (omega arith));
        bytes = worth-then g.bytes _ _;
        sound = tick-keeps s r.moving g.sound;
      })
    where
      counts : a.moving.counter.count + (r.at + 1 - a.at) ≡ (tick s r.moving).moving.counter.count + (s.wave.max + 1) * (g.worth + raisers s.tov (tick s r.moving).log)
      counts =
          let o = g.on in
          let c = g.count in
          let w = wraps s h n r.moving _ g.sound.steady.count refl in
          rw (tick-worth s h n r.moving, mul-add (s.wave.max + 1) g.worth (bit (eqb r.moving.counter.count s.wave.max))) (omega arith)

  pub ticks-tally : (k : ℕ) (r : Run) → Tally s a r → Tally s a (ticks s p fits k r)
  unfolding ticks
  ticks-tally zero r g = g
  ticks-tally (suc k) r g = ticks-tally k (one s p fits r) (one-tally r g)
