-- The flags that a tick raises stand in its flag record, and there is none exactly where they are 0.
use Prim.Native.Nat.{ℕ, ◌/◌, ◌≤◌, ◌<◌}
use native.Mathlib.Omega.{arith}
use mathlib.Core.Path.{◌≡◌, refl, sym, ap, ◌∙◌}
use mathlib.Core.Bool.{Bool, true, false, cond, not, ◌&&◌, ◌||◌, or-true, or-false, false≢true}
use mathlib.Core.List.{List, [], ◌∷◌, ◌++◌, append-nil, append_assoc}
use lib.Bits.{bit_or, bit_and, or_add_and, or_zero_r, and_le_l}
use lib.Dec.{eqb, leb}
use lib.ListN.{get_or}
use borrow.Author.Tests.{ne_eqb}
use Rattle.records.specs.declared.Entry.{Entry}
use Rattle.records.specs.Records.{only}
use Rattle.config.specs.declared.Config.{Config}
use Rattle.config.specs.declared.Wire.{Wire}
use Rattle.config.specs.Config.{accepted, choice_rule, width_rule, layout_rule, compare_rule, address_rule, flag_rule, pin_rule, flagged, one_bit, flags_of}
use Rattle.few.specs.Few.{distinct}
use Rattle.wave.specs.declared.count.Counter.{Counter}
use Rattle.wave.specs.Kinds.{I}
use Rattle.wave.specs.Count.{top_of, hits, at_top}
use Rattle.tick.specs.declared.happenings.Events.{Events}
use Rattle.tick.specs.declared.setting.Channel.{Channel}
use Rattle.tick.specs.declared.setting.Moving.{Moving}
use Rattle.tick.specs.declared.setting.Setting.{Setting}
use Rattle.tick.specs.Outputs.{bit, Outs, pin_entry, recorded, on_pin, acted, level_of, matched, bottomed, matches_of, bottoms_of, outputs, outs_of}
use Rattle.tick.specs.Setting.{channel_of}
use Rattle.tick.specs.Tick.{events_at, events_of, raised, raises, line, lines, flag_entry, trigger_entry, flag_log_of, tick_by, tick}
use Rattle.tick.proofs.Choices.{and_left, cond-all}
use Rattle.counter.specs.declared.state.Timer.{Timer}
use Rattle.counter.specs.Modes.{mode_of, wave_of}
use Rattle.counter.specs.Setting.{setting_at, setting_of}
use Rattle.outlook.specs.Announced.{raised_in}
use Rattle.outlook.proofs.Untouched.{and_right, middle}

-- ---- flag entries of a log
raised-append : (a b : List Entry) → raised_in (a ++ b) ≡ raised_in a ++ raised_in b
unfolding raised_in
raised-append [] b = refl
raised-append (e ∷ a) b = rw (raised-append a b) (sym (append_assoc (cond (eqb e.kind 1) ((e.body / 256) ∷ []) []) (raised_in a) (raised_in b)))

-- outputs make none
Pins : Outs → Type 0
Pins o = raised_in o.log ≡ []

module _ (o : Outs) (h : Pins o) where
  recorded-pins : (pin ch enable value : ℕ) → Pins (recorded pin ch enable value o)
  unfolding Pins recorded pin_entry raised_in
  recorded-pins pin ch enable value =
      cond-all Pins (eqb (get_or o.drives.enables ch 0) enable && eqb (get_or o.drives.values ch 0) value) h (raised-append o.log (pin_entry pin enable value ∷ []) ∙ rw h)

pin-pins : (w : Wire) (ch enable : ℕ) (o : Outs) → Pins o → Pins (on_pin w ch enable o)
unfolding on_pin
pin-pins w ch enable o h = cond-all Pins w.present (recorded-pins o h w.pin ch enable (get_or o.oc ch 0)) h

acted-pins : (c : Channel) (ch level : ℕ) (o : Outs) → Pins o → Pins (acted c ch level o)
unfolding acted Pins
acted-pins c ch level o h = pin-pins c.wire ch (bit c.enabled) _ h

matched-pins : (kind : ℕ) (c : Channel) (ch : ℕ) (hit rises : Bool) (o : Outs) → Pins o → Pins (matched kind c ch hit rises o)
unfolding matched
matched-pins kind c ch hit rises o h = cond-all Pins (hit && c.enabled) (acted-pins c ch (level_of c kind (get_or o.oc ch 0) rises) o h) h

bottomed-pins : (c : Channel) (ch : ℕ) (o : Outs) → Pins o → Pins (bottomed c ch o)
unfolding bottomed
bottomed-pins c ch o h = cond-all Pins (leb 2 c.comx) (acted-pins c ch (bit (eqb c.comx 2)) o h) h

outputs-pins : (s : Setting) (e : Events) (m : Moving) → Pins (outputs s e (outs_of m))
unfolding outputs matches_of bottoms_of raised_in Pins
outputs-pins s e m =
    let k = matched-pins s.wave.kind s.c 2 e.c e.rises _ (matched-pins s.wave.kind s.b 1 e.b e.rises _ (matched-pins s.wave.kind s.a 0 e.a e.rises (outs_of m) refl)) in
    cond-all Pins e.bottom (bottomed-pins s.c 2 _ (bottomed-pins s.b 1 _ (bottomed-pins s.a 0 _ k))) k

-- triggers are none
trigger-none : (b : Bool) (k id : ℕ) → raised_in (only b (trigger_entry k id)) ≡ []
unfolding raised_in trigger_entry
trigger-none true k id = refl
trigger-none false k id = refl

bit-small : (b : Bool) → bit b ≤ 1
bit-small true = omega arith
bit-small false = omega arith

lines-small : (s : Setting) (tifr : ℕ) → lines s tifr < 256
unfolding lines line
lines-small s tifr =
    let u = bit_and tifr s.timsk in
    let a = bit-small (not (eqb (bit_and u s.tov) 0)) in
    let b = bit-small (not (eqb (bit_and u s.a.flag) 0)) in
    let c = bit-small (not (eqb (bit_and u s.b.flag) 0)) in
    let d = bit-small (not (eqb (bit_and u s.icf) 0)) in
    let e = bit-small (not (eqb (bit_and u s.c.flag) 0)) in
    omega arith

flag_one : (s : Setting) (b : Bool) (up tifr : ℕ) → raised_in (only b (flag_entry s up tifr)) ≡ cond b (up ∷ []) []
unfolding raised_in flag_entry
flag_one s true up tifr = let l = lines-small s tifr in ap (λ (n : ℕ). n ∷ []) (omega arith)
flag_one s false up tifr = refl

log-raised : (s : Setting) (m : Moving) → raised_in (tick s m).log ≡ cond (raises (events_of s m)) (raised s (events_of s m) ∷ []) []
unfolding tick_by flag_log_of Pins
log-raised s m =
    let e = events_of s m in
    raised-append (outputs s e (outs_of m)).log _ ∙ simp (outputs-pins s e m, raised-append, trigger-none, append-nil, flag_one)

-- ---- a flag is raised exactly where something raises one
or_left : (x y : ℕ) → bit_or x y ≡ 0 → y ≡ 0
or_left x y e = let a = or_add_and x y in let b = and_le_l x y in omega arith

joins : (b was : Bool) (x flag : ℕ) → (b ≡ true → flag ≡ 0 → ⊥) → was ≡ not (eqb x 0) → was || b ≡ not (eqb (bit_or x (cond b flag 0)) 0)
joins true was x flag h e = rw (or-true, ne_eqb (bit_or x flag) 0 (λ z. h refl (or_left x flag z)))
joins false was x flag h e = rw (or-false, or_zero_r) e

first : (b : Bool) (flag : ℕ) → (flag ≡ 0 → ⊥) → b ≡ not (eqb (cond b flag 0) 0)
first true flag h = rw (ne_eqb flag 0 h)
first false flag h = refl

-- ---- the flags of an accepted configuration
one_bit-not_zero : (m : ℕ) → one_bit m ≡ true → m ≡ 0 → ⊥
unfolding one_bit
one_bit-not_zero m e z = let k : false ≡ true = rw z at e in false≢true k

unit-bit : (present : Bool) (flag : ℕ) → flagged present flag ≡ true → present ≡ true → flag ≡ 0 → ⊥
unfolding flagged
unit-bit present flag e p = one_bit-not_zero flag (rw p at e)

record Bits (config : Config) : Type 0 where
  tov : config.tov ≡ 0 → ⊥
  a : config.a.present ≡ true → config.a.flag ≡ 0 → ⊥
  b : config.b.present ≡ true → config.b.flag ≡ 0 → ⊥
  c : config.c.present ≡ true → config.c.flag ≡ 0 → ⊥
  icr : config.icr.present ≡ true → config.icr.flag ≡ 0 → ⊥

-- a rule among the rules
flags-ruled : (c : Config) → accepted c ≡ true → flag_rule c ≡ true
unfolding accepted
flags-ruled c e = middle (choice_rule c && width_rule c && layout_rule c && compare_rule c && address_rule c) (flag_rule c) (pin_rule c) e

module _ (tov a b c icr apart : Bool) (h : tov && a && b && c && icr && apart ≡ true) where
  tov-kept : tov ≡ true
  tov-kept = and_left tov a (and_left (tov && a) b (and_left (tov && a && b) c (and_left (tov && a && b && c) icr (and_left (tov && a && b && c && icr) apart h))))

  a-kept : a ≡ true
  a-kept = middle tov a b (and_left (tov && a && b) c (and_left (tov && a && b && c) icr (and_left (tov && a && b && c && icr) apart h)))

  b-kept : b ≡ true
  b-kept = middle (tov && a) b c (and_left (tov && a && b && c) icr (and_left (tov && a && b && c && icr) apart h))

  c-kept : c ≡ true
  c-kept = middle (tov && a && b) c icr (and_left (tov && a && b && c && icr) apart h)

  icr-kept : icr ≡ true
  icr-kept = middle (tov && a && b && c) icr apart h

bits : (c : Config) → flag_rule c ≡ true → Bits c
unfolding flag_rule
bits c e =
    let o = one_bit c.tov in
    let fa = flagged c.a.present c.a.flag in
    let fb = flagged c.b.present c.b.flag in
    let fc = flagged c.c.present c.c.flag in
    let fi = flagged c.icr.present c.icr.flag in
    let d = distinct (flags_of c) in
    record {
      tov = one_bit-not_zero c.tov (tov-kept o fa fb fc fi d e);
      a = unit-bit c.a.present c.a.flag (a-kept o fa fb fc fi d e);
      b = unit-bit c.b.present c.b.flag (b-kept o fa fb fc fi d e);
      c = unit-bit c.c.present c.c.flag (c-kept o fa fb fc fi d e);
      icr = unit-bit c.icr.present c.icr.flag (icr-kept o fa fb fc fi d e);
    }

hits-present : (c : Counter) (present : Bool) (compare : ℕ) → hits c present compare ≡ true → present ≡ true
unfolding hits
hits-present c present compare h = and_left present (eqb c.count compare) (and_right (not c.blocked) (present && eqb c.count compare) h)

raises-are : (t : Timer) (m : Moving) → accepted t.config ≡ true → raises (events_of (setting_of t) m) ≡ not (eqb (raised (setting_of t) (events_of (setting_of t) m)) 0)
unfolding raises raised events_at setting_at wave_of channel_of
raises-are t m k =
    let f = bits t.config (flags-ruled t.config k) in
    let e = events_of (setting_of t) m in
    let o = cond e.overflow t.config.tov 0 in
    let oa = bit_or o (cond e.a t.config.a.flag 0) in
    let ob = bit_or oa (cond e.b t.config.b.flag 0) in
    let oi = bit_or ob (cond e.capture t.config.icr.flag 0) in
    joins e.c _ oi _ (λ h. f.c (hits-present m.counter t.config.c.present (get_or m.ocr 2 0) h))
    (joins e.capture _ ob _ (λ h. f.icr (middle (eqb (wave_of t (mode_of t)).source I) t.config.icr.present (at_top (wave_of t (mode_of t)) m.counter (top_of (wave_of t (mode_of t)) (get_or m.ocr 0 0))) h))
    (joins e.b _ oa _ (λ h. f.b (hits-present m.counter t.config.b.present (get_or m.ocr 1 0) h))
    (joins e.a _ o _ (λ h. f.a (hits-present m.counter t.config.a.present (get_or m.ocr 0 0) h))
    (first e.overflow _ f.tov))))

cond-not : {A : Type 0} (b : Bool) (x y : A) → cond (not b) x y ≡ cond b y x
cond-not true x y = refl
cond-not false x y = refl

pub event-raised : (t : Timer) (m : Moving) → accepted t.config ≡ true
    → raised_in (tick (setting_of t) m).log ≡ cond (eqb (raised (setting_of t) (events_of (setting_of t) m)) 0) [] (raised (setting_of t) (events_of (setting_of t) m) ∷ [])
event-raised t m k = log-raised (setting_of t) m ∙ rw (raises-are t m k) (cond-not (eqb (raised (setting_of t) (events_of (setting_of t) m)) 0) _ _)
