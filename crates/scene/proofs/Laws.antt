-- A scene tells what its setting's ticks do, while the count rises.
use Rattle.std.proofs.Common.{◌≡◌, ℕ, ◌+◌, ◌-◌, ◌≤◌, min, Bool, true, false, cond, not, ◌&&◌, ◌||◌, eqb, leb, List, get_or, sym, refl, ap, ◌∙◌, ap₂, arith, eqb-true, le-leb, leb-true}
use mathlib.Core.Bool.{and-false}
use lib.Bits.{bit_or, bit_and, and_comm, or_zero_l, or_zero_r}
use borrow.Author.Tests.{eqb-false, lt-leb, not-false, not-true}
use Rattle.wave.specs.declared.kinds.Wave.{Wave}
use Rattle.wave.specs.declared.count.Counter.{Counter}
use Rattle.wave.specs.Kinds.{C, F, P, X, A, I}
use Rattle.wave.specs.Count.{falls, top_of, hits, overflows, next_count, at_top, at_zero}
use Rattle.wave.specs.Distance.{space, ahead, gap_at, gap}
use Rattle.tick.specs.declared.happenings.Events.{Events}
use Rattle.tick.specs.declared.setting.Channel.{Channel}
use Rattle.tick.specs.declared.setting.Moving.{Moving}
use Rattle.tick.specs.declared.setting.Setting.{Setting}
use Rattle.tick.specs.Outputs.{Outs, level_of, matched, bottomed, matches_of, bottoms_of, outputs}
use Rattle.tick.specs.Tick.{events_at, events_of, raised, raises, lines, flag_entry, flag_log_of}
use Rattle.scene.specs.Scene.{Rising, Apart, drives_pin, scene_of, climb_at, after_at, limit_at, on, raised_at, lines_of, told_of, matched_of, driven_of}
use Rattle.scene.specs.Laws.{top_now, up_now, ClimbIs, AfterIs, LimitIs, RaisedIs, ToldIs, DrivenIs, StillIs}
use Rattle.tick.proofs.Choices.{and_left}
use Rattle.scene.proofs.Choices.{and_right, neither}
use Rattle.scene.proofs.Masks.{missed, met, five, told-by, joins}

-- ---- N, C and F
-- the count does not fall
rises : (w : Wave) (c : Counter) → leb w.kind F ≡ true → falls w c ≡ false
unfolding falls
rises w c h = let k = leb-true w.kind F h in rw (lt-leb P w.kind (omega arith))

-- ---- the way to the next event
-- a compare that is not ahead may fall back on any way up to all
back : (present down : Bool) (count compare all g : ℕ) → g ≤ all → min g (ahead present down count compare g) ≡ min g (ahead present down count compare all)
unfolding ahead
back false down count compare all g h = omega arith
back true true count compare all g h = go (leb compare count)
  where
    go : (b : Bool) → min g (cond b (count - compare) g) ≡ min g (cond b (count - compare) all)
    go true = refl
    go false = omega arith
back true false count compare all g h = go (leb count compare)
  where
    go : (b : Bool) → min g (cond b (compare - count) g) ≡ min g (cond b (compare - count) all)
    go true = refl
    go false = omega arith

order : (all a b c : ℕ) → min (min (min all c) b) a ≡ min (min all a) (min b c)
order all a b c = omega arith

-- one compare after the other, each no farther than the one before
pub nears : (w : Wave) (down : Bool) (count all : ℕ) (ocr : List ℕ)
    → let near : Bool → ℕ → ℕ → ℕ = λ present compare g. min g (ahead present down count compare g) in near w.a (get_or ocr 0 0) (near w.b (get_or ocr 1 0) (near w.c (get_or ocr 2 0) all)) ≡ gap_at w down count ocr all
unfolding gap_at
nears w down count all ocr =
    let a = ahead w.a down count (get_or ocr 0 0) all in
    let b = ahead w.b down count (get_or ocr 1 0) all in
    let c = ahead w.c down count (get_or ocr 2 0) all in
    let n = min all c in
    back w.a down count (get_or ocr 0 0) all (min n (ahead w.b down count (get_or ocr 1 0) n)) (omega arith)
    ∙ ap (λ (x : ℕ). min x a) (back w.b down count (get_or ocr 1 0) all n (omega arith))
    ∙ order all a b c

pub climb-is : ClimbIs
unfolding scene_of climb_at gap
climb-is s m r = rw (rises s.wave m.counter r.kind) (nears s.wave false m.counter.count (space false m.counter.count (top_now s m) s.wave.max) m.ocr)

-- ---- the count after a tick, and TOP
pub after_is : AfterIs
unfolding scene_of after_at next_count
after_is s m r = rw (rises s.wave m.counter r.kind, r.kind) (go (eqb m.counter.count (top_now s m)) (leb C s.wave.kind) (eqb m.counter.count s.wave.max))
  where
    go : (t e x : Bool) → cond ((t && e) || x) 0 (m.counter.count + 1) ≡ cond (e && t) 0 (cond x 0 (m.counter.count + 1))
    go true true x = refl
    go true false x = refl
    go false true x = refl
    go false false x = refl

pub limit_is : LimitIs
unfolding scene_of limit_at top_of
limit_is s ocr = go (eqb s.wave.source A) refl
  where
    go : (b : Bool) → eqb s.wave.source A ≡ b
        → cond b (get_or s.buffer 0 0) (cond (eqb s.wave.source X) s.wave.fixed (cond b (get_or ocr 0 0) s.wave.icr))
        ≡ cond (eqb s.wave.source X) s.wave.fixed (cond b (get_or s.buffer 0 0) s.wave.icr)
    go true e = let k = eqb-true s.wave.source A e in rw k
    go false e = refl

-- ---- the bits raised
module _ (s : Setting) (m : Moving) (r : Rising s m) where
  abbrev count : ℕ
  count = m.counter.count

  at_top-now : at_top s.wave m.counter (top_now s m) ≡ eqb count (top_now s m)
  unfolding at_top
  at_top-now = rw (rises s.wave m.counter r.kind)

  over : cond (eqb s.wave.kind F) (eqb count (top_now s m)) (eqb count s.wave.max) ≡ (events_of s m).overflow
  unfolding events_at overflows
  over = rw at_top-now (go (eqb s.wave.kind F) refl)
    where
      go : (b : Bool) → eqb s.wave.kind F ≡ b
          → cond b (eqb count (top_now s m)) (eqb count s.wave.max)
          ≡ cond (leb s.wave.kind C) (eqb count s.wave.max) (cond b (eqb count (top_now s m)) (at_zero s.wave m.counter))
      go true e = let k = eqb-true s.wave.kind F e in rw k
      go false e =
          let k = eqb-false s.wave.kind F e in
          let l = leb-true s.wave.kind F r.kind in
          rw (le-leb s.wave.kind C (omega (arith, k)))

  -- a unit that is not there has no bit
  unit : (present here : Bool) (flag : ℕ) → present ≡ not (eqb flag 0) → cond here flag 0 ≡ cond (present && here) flag 0
  unit true here flag e = refl
  unit false true flag e = eqb-true flag 0 (not-false (eqb flag 0) (sym e))
  unit false false flag e = refl

  compared : (present : Bool) (compare flag : ℕ) → present ≡ not (eqb flag 0) → cond (eqb count compare) flag 0 ≡ cond (hits m.counter present compare) flag 0
  unfolding hits
  compared present compare flag e = rw r.free (unit present (eqb count compare) flag e)

  captured : cond (eqb count (top_now s m)) (cond (eqb s.wave.source I && s.capture) s.icf 0) 0 ≡ cond (events_of s m).capture s.icf 0
  unfolding events_at
  captured = rw at_top-now (go (eqb count (top_now s m)) (eqb s.wave.source I && s.capture))
    where
      go : (t u : Bool) → cond t (cond u s.icf 0) 0 ≡ cond (u && t) s.icf 0
      go true true = refl
      go true false = refl
      go false true = refl
      go false false = refl

pub raised_is : RaisedIs
unfolding scene_of raised_at raised events_at
raised_is s m r k =
    ap₂ bit_or
    (ap₂ bit_or
    (ap₂ bit_or
    (ap₂ bit_or
    (ap (λ (b : Bool). cond b s.tov 0) (over s m r))
    (compared s m r s.wave.a (get_or m.ocr 0 0) s.a.flag k.a))
    (compared s m r s.wave.b (get_or m.ocr 1 0) s.b.flag k.b))
    (captured s m r))
    (compared s m r s.wave.c (get_or m.ocr 2 0) s.c.flag k.c)

-- ---- what the bits raised tell
module _ (s : Setting) (m : Moving) (k : Apart s) where
  abbrev e : Events
  e = events_of s m

  has : (present : Bool) (flag : ℕ) → present ≡ not (eqb flag 0) → present ≡ true → eqb flag 0 ≡ false
  has present flag h p = not-true (eqb flag 0) (sym h ∙ p)

  hit : (present : Bool) (compare flag : ℕ) → present ≡ not (eqb flag 0) → hits m.counter present compare ≡ true → eqb flag 0 ≡ false
  unfolding hits
  hit present compare flag h p = has present flag h (and_left present (eqb m.counter.count compare) (and_right (not m.counter.blocked) _ p))

  a-there : e.a ≡ true → eqb s.a.flag 0 ≡ false
  unfolding events_at
  a-there = hit s.wave.a (get_or m.ocr 0 0) s.a.flag k.a

  b_there : e.b ≡ true → eqb s.b.flag 0 ≡ false
  unfolding events_at
  b_there = hit s.wave.b (get_or m.ocr 1 0) s.b.flag k.b

  c-there : e.c ≡ true → eqb s.c.flag 0 ≡ false
  unfolding events_at
  c-there = hit s.wave.c (get_or m.ocr 2 0) s.c.flag k.c

  icf-there : e.capture ≡ true → eqb s.icf 0 ≡ false
  unfolding events_at
  icf-there h = has s.capture s.icf k.icf (and_right (eqb s.wave.source I) s.capture (and_left (eqb s.wave.source I && s.capture) _ h))

  -- the bits raised meet each flag where its event happens
  abbrev meets : ℕ → ℕ
  meets mask = bit_and (up_now s m) mask

  tov-met : meets s.tov ≡ cond e.overflow s.tov 0
  unfolding raised
  tov-met =
      five (cond e.overflow s.tov 0) (cond e.a s.a.flag 0) (cond e.b s.b.flag 0) (cond e.capture s.icf 0) (cond e.c s.c.flag 0) s.tov
      ∙ rw (met e.overflow s.tov, missed e.a s.a.flag s.tov (and_comm s.a.flag s.tov ∙ k.tov-a), missed e.b s.b.flag s.tov (and_comm s.b.flag s.tov ∙ k.tov-b), missed e.capture s.icf s.tov (and_comm s.icf s.tov ∙ k.tov-icf), missed e.c s.c.flag s.tov (and_comm s.c.flag s.tov ∙ k.tov-c))
      (first_of (cond e.overflow s.tov 0))
    where
      first_of : (x : ℕ) → bit_or (bit_or (bit_or (bit_or x 0) 0) 0) 0 ≡ x
      first_of x = simp or_zero_r

  a-met : meets s.a.flag ≡ cond e.a s.a.flag 0
  unfolding raised
  a-met =
      five (cond e.overflow s.tov 0) (cond e.a s.a.flag 0) (cond e.b s.b.flag 0) (cond e.capture s.icf 0) (cond e.c s.c.flag 0) s.a.flag
      ∙ rw (missed e.overflow s.tov s.a.flag k.tov-a, met e.a s.a.flag, missed e.b s.b.flag s.a.flag (and_comm s.b.flag s.a.flag ∙ k.a-b), missed e.capture s.icf s.a.flag (and_comm s.icf s.a.flag ∙ k.a-icf), missed e.c s.c.flag s.a.flag (and_comm s.c.flag s.a.flag ∙ k.a-c))
      (second-of (cond e.a s.a.flag 0))
    where
      second-of : (x : ℕ) → bit_or (bit_or (bit_or (bit_or 0 x) 0) 0) 0 ≡ x
      second-of x = simp (or_zero_r, or_zero_l)

  b-met : meets s.b.flag ≡ cond e.b s.b.flag 0
  unfolding raised
  b-met =
      five (cond e.overflow s.tov 0) (cond e.a s.a.flag 0) (cond e.b s.b.flag 0) (cond e.capture s.icf 0) (cond e.c s.c.flag 0) s.b.flag
      ∙ rw (missed e.overflow s.tov s.b.flag k.tov-b, missed e.a s.a.flag s.b.flag k.a-b, met e.b s.b.flag, missed e.capture s.icf s.b.flag (and_comm s.icf s.b.flag ∙ k.b-icf), missed e.c s.c.flag s.b.flag (and_comm s.c.flag s.b.flag ∙ k.b-c))
      (third_of (cond e.b s.b.flag 0))
    where
      third_of : (x : ℕ) → bit_or (bit_or (bit_or (bit_or 0 0) x) 0) 0 ≡ x
      third_of x = or_zero_r (bit_or x 0) ∙ or_zero_r x

  icf-met : meets s.icf ≡ cond e.capture s.icf 0
  unfolding raised
  icf-met =
      five (cond e.overflow s.tov 0) (cond e.a s.a.flag 0) (cond e.b s.b.flag 0) (cond e.capture s.icf 0) (cond e.c s.c.flag 0) s.icf
      ∙ rw (missed e.overflow s.tov s.icf k.tov-icf, missed e.a s.a.flag s.icf k.a-icf, missed e.b s.b.flag s.icf k.b-icf, met e.capture s.icf, missed e.c s.c.flag s.icf k.c-icf)
      (fourth-of (cond e.capture s.icf 0))
    where
      fourth-of : (x : ℕ) → bit_or (bit_or (bit_or (bit_or 0 0) 0) x) 0 ≡ x
      fourth-of x = or_zero_r x

  c_met : meets s.c.flag ≡ cond e.c s.c.flag 0
  unfolding raised
  c_met =
      five (cond e.overflow s.tov 0) (cond e.a s.a.flag 0) (cond e.b s.b.flag 0) (cond e.capture s.icf 0) (cond e.c s.c.flag 0) s.c.flag
      ∙ rw (missed e.overflow s.tov s.c.flag k.tov-c, missed e.a s.a.flag s.c.flag k.a-c, missed e.b s.b.flag s.c.flag k.b-c, missed e.capture s.icf s.c.flag (and_comm s.icf s.c.flag ∙ k.c-icf), met e.c s.c.flag)
      (or_zero_l (cond e.c s.c.flag 0))

  on-tov : on (up_now s m) s.tov ≡ e.overflow
  unfolding on
  on-tov = ap (λ (x : ℕ). not (eqb x 0)) tov-met ∙ told-by e.overflow s.tov (λ h. k.tov)

  on-a : on (up_now s m) s.a.flag ≡ e.a
  unfolding on
  on-a = ap (λ (x : ℕ). not (eqb x 0)) a-met ∙ told-by e.a s.a.flag a-there

  on-b : on (up_now s m) s.b.flag ≡ e.b
  unfolding on
  on-b = ap (λ (x : ℕ). not (eqb x 0)) b-met ∙ told-by e.b s.b.flag b_there

  on-icf : on (up_now s m) s.icf ≡ e.capture
  unfolding on
  on-icf = ap (λ (x : ℕ). not (eqb x 0)) icf-met ∙ told-by e.capture s.icf icf-there

  on-c : on (up_now s m) s.c.flag ≡ e.c
  unfolding on
  on-c = ap (λ (x : ℕ). not (eqb x 0)) c_met ∙ told-by e.c s.c.flag c-there

  -- some bit is raised exactly where some event raises one
  some : raises e ≡ not (eqb (up_now s m) 0)
  unfolding raises raised
  some =
      let o = cond e.overflow s.tov 0 in
      let oa = bit_or o (cond e.a s.a.flag 0) in
      let ob = bit_or oa (cond e.b s.b.flag 0) in
      let oi = bit_or ob (cond e.capture s.icf 0) in
      joins e.c _ oi s.c.flag c-there
      (joins e.capture _ ob s.icf icf-there
      (joins e.b _ oa s.b.flag b_there
      (joins e.a _ o s.a.flag a-there
      (sym (told-by e.overflow s.tov (λ h. k.tov))))))

  -- no bit is on where none is raised
  off : (mask : ℕ) → eqb (up_now s m) 0 ≡ true → on (up_now s m) mask ≡ false
  unfolding on
  off mask z = rw (eqb-true (up_now s m) 0 z)

  told-from : (tifr : ℕ) (z : Bool) → eqb (up_now s m) 0 ≡ z → told_of (scene_of s) (up_now s m) tifr ≡ flag_log_of (flag_entry s (up_now s m) tifr) s.id e
  unfolding scene_of told_of lines_of flag_log_of flag_entry lines
  told-from tifr true z =
      simp (z, some, sym on-a ∙ off s.a.flag z, sym on-b ∙ off s.b.flag z, sym on-tov ∙ off s.tov z, sym on-icf ∙ off s.icf z)
  told-from tifr false z = simp (z, some, on-a, on-b, on-tov, on-icf)

pub told_is : ToldIs
told_is s m tifr r k = told-from s m k tifr (eqb (up_now s m) 0) refl

-- ---- the outputs
-- in N, C and F no level depends on the way of the count
one_way : (kind : ℕ) (c : Channel) (ch : ℕ) (hit up down : Bool) (o : Outs) → leb kind F ≡ true → matched kind c ch hit up o ≡ matched kind c ch hit down o
unfolding matched level_of
one_way kind c ch hit up down o h = rw h

pub driven-is : DrivenIs
unfolding scene_of driven_of matched_of outputs matches_of
driven-is s m o r k =
    rw (on-a s m k, on-b s m k, on-c s m k)
    (rw (
      one_way s.wave.kind s.a 0 (events_of s m).a true (events_of s m).rises o r.kind,
      one_way s.wave.kind s.b 1 (events_of s m).b true (events_of s m).rises (matched s.wave.kind s.a 0 (events_of s m).a (events_of s m).rises o) r.kind,
      one_way s.wave.kind s.c 2 (events_of s m).c true (events_of s m).rises (matched s.wave.kind s.b 1 (events_of s m).b (events_of s m).rises (matched s.wave.kind s.a 0 (events_of s m).a (events_of s m).rises o)) r.kind,
    ))

pub still-is : StillIs
unfolding scene_of driven_of matched_of matched bottoms_of bottomed
still-is s up bottom o h =
    let ab = neither (drives_pin s.a || drives_pin s.b) (drives_pin s.c) h in
    let a = neither (drives_pin s.a) (drives_pin s.b) ab.0 in
    let x = neither s.a.enabled (leb 2 s.a.comx) a.0 in
    let y = neither s.b.enabled (leb 2 s.b.comx) a.1 in
    let z = neither s.c.enabled (leb 2 s.c.comx) ab.1 in
    simp (x.0, x.1, y.0, y.1, z.0, z.1, and-false, same bottom o)
  where
    same : (b : Bool) (x : Outs) → cond b x x ≡ x
    same true x = refl
    same false x = refl
