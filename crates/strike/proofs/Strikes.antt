-- An event's tick of a rising count, as the code reckons it from the scene.
use Prim.Native.Nat.{ℕ, ◌+◌, ◌-◌, ◌*◌, ◌%◌, ◌<◌, ◌≤◌, ◌^◌}
use native.Mathlib.Omega.{arith}
use native.Mathlib.Nat.{pow-le-pow_right, mul-le-mul_left}
use mathlib.Core.Path.{◌≡◌, refl, sym, ap, ◌∙◌}
use mathlib.Core.Bool.{Bool, true, false, cond, ◌&&◌, ◌||◌, true≢false}
use mathlib.Core.List.{List, [], ◌++◌}
use mathlib.Core.Logic.{◌⊎◌, inl, inr, ⊎_elim}
use lib.Bits.{bit_or}
use lib.Dec.{eqb, leb}
use lib.IntN.{ℤ}
use lib.ListN.{length, get_or}
use lib.Seq.{sets, length-sets}
use borrow.Author.Tests.{eqb-false}
use Rattle.records.specs.Records.{records_of}
use Rattle.time.specs.declared.units.Prescaler.{Prescaler}
use Rattle.time.specs.Units.{ticks_at}
use Rattle.wave.specs.Kinds.{F}
use Rattle.wave.specs.Count.{top_of, counted}
use Rattle.wave.specs.Distance.{moved, space, gap}
use Rattle.tick.specs.declared.outputs.Outputs.{Outputs}
use Rattle.tick.specs.declared.setting.Drives.{Drives}
use Rattle.tick.specs.declared.setting.Moving.{Moving}
use Rattle.tick.specs.declared.setting.Setting.{Setting}
use Rattle.tick.specs.Outputs.{Outs, outs_of, Wrote}
use Rattle.tick.specs.Tick.{Step, events_of, tick}
use Rattle.tick.specs.Skip.{linear}
use Rattle.tick.specs.Sound.{Sound}
use Rattle.tick.proofs.Choices.{cond-case, cond-le}
use Rattle.tick.proofs.Bounds.{top-max, gap_up}
use Rattle.tick.proofs.Still.{step_keeps, tick-keeps}
use Rattle.tick.proofs.Writes.{Put, put-none, put_then}
use Rattle.scene.specs.declared.state.Scene.{Scene}
use Rattle.scene.specs.Scene.{Rising, scene_of, climb_at, after_at, limit_at, raised_at, told_of, driven_of}
use Rattle.scene.specs.Laws.{up_now}
use Rattle.strike.specs.declared.Rise.{Rise}
use Rattle.strike.specs.Strike.{tick_in, run_in, near_in, Known, Fit, Struck, EveryRun}
use Rattle.scene.proofs.Laws.{climb-is, limit_is, raised_is, still-is}
use Rattle.strike.proofs.Rises.{later-ticks, later-aligned, no-fall, bottom-is, tick-rising}

-- does the event's tick go to BOTTOM
abbrev pub bottom_in : Scene → Rise → Bool
bottom_in c a = c.fast && eqb (a.count + a.gap) a.top

-- the outputs before it
abbrev pub start_of : Rise → Outs
start_of a = record { oc = a.oc; drives = a.drives; log = [] }

-- what the code makes of it, from the scene alone
pub record Makes (c : Scene) (shift : ℕ) (a : Rise) (before : List ℕ) (b : Rise) (after : List ℕ) : Type 0 where
  pub outs : Outs
  pub out : Outputs
  pub mid : List ℕ
  pub driven : (outs ≡ driven_of c a.flags (bottom_in c a) (start_of a)) ⊎ ((c.pinned ≡ false) × (outs ≡ start_of a))
  pub wrote : Wrote outs a.next a.to before out mid
  pub count : b.count ≡ after_at c (a.count + a.gap) a.top
  pub top : b.top ≡ cond (bottom_in c a) (limit_at c a.top) a.top
  pub ocr : b.ocr ≡ cond (bottom_in c a) c.buffer a.ocr
  pub gap : b.gap ≡ climb_at c b.count b.top b.ocr
  pub oc : b.oc ≡ out.oc
  pub drives : b.drives ≡ out.drives
  pub tifr : b.tifr ≡ bit_or a.tifr a.flags
  pub to : b.to ≡ out.to + length (records_of a.next (told_of c a.flags b.tifr))
  pub area : after ≡ sets mid out.to (records_of a.next (told_of c a.flags b.tifr))
  pub most : b.to ≤ a.to + 110
  pub next : b.next ≡ a.next + (b.gap + 1) * 2 ^ shift
  pub flags : b.flags ≡ raised_at c (b.count + b.gap) b.top b.ocr

-- ---- the numbers fit
pub step-some : (shift : ℕ) → 0 < 2 ^ shift
step-some shift = pow-le-pow_right {n = 2} (omega arith) {i = 0} {j = shift} (omega arith)

pub step-most : {shift : ℕ} → shift ≤ 10 → 2 ^ shift ≤ 1024
step-most {shift} h = pow-le-pow_right {n = 2} (omega arith) {i = shift} {j = 10} h

-- up to 65,536 ticks take at most 2^26 cycles
pub way-most : (n : ℕ) {shift : ℕ} → shift ≤ 10 → n ≤ 65536 → n * 2 ^ shift ≤ 67108864
way-most n {shift} h k =
    let a : n * 2 ^ shift ≤ n * 1024 = mul-le-mul_left n (step-most h) in
    omega arith

pub way-some : (n shift : ℕ) → n < (n + 1) * 2 ^ shift
way-some n shift = let a : (n + 1) * 1 ≤ (n + 1) * 2 ^ shift = mul-le-mul_left (n + 1) (step-some shift) in omega arith

pub after-max : (c : Scene) (count top : ℕ) → count ≤ c.max → after_at c count top ≤ c.max
unfolding after_at
after-max c count top h = go (eqb count c.max) refl
  where
    or-true : (x : Bool) → x || true ≡ true
    or-true true = refl
    or-true false = refl

    go : (b : Bool) → eqb count c.max ≡ b → cond ((eqb count top && c.ends) || eqb count c.max) 0 (count + 1) ≤ c.max
    go true e = cond-case (λ (n : ℕ). n ≤ c.max) ((eqb count top && c.ends) || eqb count c.max) (λ q. omega arith) (λ q. absurd (true≢false (sym (or-true (eqb count top && c.ends)) ∙ rw e at q)))
    go false e = cond-le ((eqb count top && c.ends) || eqb count c.max) (omega arith) (let n = eqb-false count c.max e in omega arith)

pub climb-max : (c : Scene) (count top : ℕ) (ocr : List ℕ) → count ≤ c.max → top ≤ c.max → count + climb_at c count top ocr ≤ c.max
unfolding climb_at space
climb-max c count top ocr h t =
    let n : cond (leb count top) (top - count) (c.max - count) ≤ c.max - count = cond-case (λ (n : ℕ). n ≤ c.max - count) (leb count top) (λ e. omega arith) (λ e. omega arith) in
    omega arith

pub limit-max : (c : Scene) (top : ℕ) → get_or c.buffer 0 0 ≤ c.max → top ≤ c.max → limit_at c top ≤ c.max
unfolding limit_at
limit-max c top b h = cond-le c.follows b h

pub fit-after : {c : Scene} {shift room : ℕ} {a : Rise} {before : List ℕ} {b : Rise} {after : List ℕ} {room₁ : ℕ}
    → Fit c shift a room → Makes c shift a before b after → b.to ≤ room₁ → Fit c shift b room₁
fit-after {c} {shift} {room} {a} {before} {b} f m r =
    let t : b.top ≤ c.max = rw m.top (cond-le (bottom_in c a) (limit-max c a.top f.limit f.top) f.top) in
    let n : b.count ≤ c.max = rw m.count (after-max c (a.count + a.gap) a.top f.near) in
    record {
      most = f.most;
      limit = f.limit;
      top = t;
      near = rw m.gap (climb-max c b.count b.top b.ocr n t);
      steps = f.steps;
      place = r;
    }

-- ---- the tick is struck
module _ (s : Setting) (p : Prescaler) (d : ℤ) (o first : ℕ) where
  -- what moves before the event's tick
  abbrev near_of : Rise → Moving
  near_of r = record { counter = record { count = r.count + r.gap; direction = d; blocked = false; odometer = counted (counted o (tick_in p r - first)) r.gap }; ocr = r.ocr; oc = r.oc; drives = r.drives; tifr = r.tifr }

  near-is : (r : Rise) → leb s.wave.kind F ≡ true → near_in s p d o first r ≡ near_of r
  unfolding linear moved
  near-is r k = simp (no-fall s (run_in p d o first r).moving (record { kind = k; free = refl }))

  near-bottom : (r : Rise) → leb s.wave.kind F ≡ true → r.top ≡ top_of s.wave (get_or r.ocr 0 0) → (events_of s (near_of r)).bottom ≡ bottom_in (scene_of s) r
  unfolding scene_of
  near-bottom r k e = bottom-is s (near_of r) (record { kind = k; free = refl }) ∙ rw e

same-moving : {d : ℤ} {count₁ count₂ o₁ o₂ tifr₁ tifr₂ : ℕ} {ocr₁ ocr₂ oc₁ oc₂ : List ℕ} {d₁ d₂ : Drives}
    → count₁ ≡ count₂ → o₁ ≡ o₂ → ocr₁ ≡ ocr₂ → oc₁ ≡ oc₂ → d₁ ≡ d₂ → tifr₁ ≡ tifr₂
    → ◌≡◌ {A = Moving}
    (record { counter = record { count = count₁; direction = d; blocked = false; odometer = o₁ }; ocr = ocr₁; oc = oc₁; drives = d₁; tifr = tifr₁ })
    (record { counter = record { count = count₂; direction = d; blocked = false; odometer = o₂ }; ocr = ocr₂; oc = oc₂; drives = d₂; tifr = tifr₂ })
same-moving a b c e f g = rw (a, b, c, e, f, g)

scene-buffer : (s : Setting) → (scene_of s).buffer ≡ s.buffer
unfolding scene_of
scene-buffer s = refl

module _ {s : Setting} {p : Prescaler} {d : ℤ} {o first shift : ℕ} {a : Rise} {before : List ℕ} {b : Rise} {after : List ℕ} (e : p.divisor ≡ 2 ^ shift) (k : Known s p d o first a) (m : Makes (scene_of s) shift a before b after) where
  abbrev near : Moving
  near = near_of s p d o first a

  rising : Rising s near
  rising = record { kind = k.kind; free = refl }

  up : a.flags ≡ up_now s near
  up = k.flags ∙ ap (λ (q : Moving). up_now s q) (near-is s p d o first a k.kind)

  bottom : (events_of s near).bottom ≡ bottom_in (scene_of s) a
  bottom = near-bottom s p d o first a k.kind k.top

  some : 0 < p.divisor
  some = rw e (step-some shift)

  due-at : b.next ≡ a.next + (b.gap + 1) * p.divisor
  due-at = rw e m.next

  on-time : ticks_at p b.next ≡ ticks_at p a.next + (b.gap + 1)
  on-time = rw due-at (later-ticks p a.next (b.gap + 1) some k.aligned)

  struck-at : tick_in p b ≡ tick_in p a + (a.gap + 1)
  struck-at = let h = k.due in let t = on-time in omega arith

  outs-is : m.outs ≡ driven_of (scene_of s) (up_now s near) (events_of s near).bottom (outs_of near)
  outs-is = ⊎_elim (λ h. h ∙ rw (up, bottom)) (λ h. h.1 ∙ sym (still-is s (up_now s near) (events_of s near).bottom (outs_of near) h.0)) m.driven

  struck-moving : (run_in p d o first b).moving ≡ (tick s near).moving
  struck-moving =
      same-moving
      (m.count ∙ ap (after_at (scene_of s) (a.count + a.gap)) k.top)
      (let t = struck-at in let u = k.since in omega arith)
      (m.ocr ∙ ap (λ (x : Bool). cond x (scene_of s).buffer a.ocr) (sym bottom) ∙ ap (λ (l : List ℕ). cond (events_of s near).bottom l a.ocr) (scene-buffer s))
      (m.oc ∙ m.wrote.oc ∙ ap (λ (q : Outs). q.oc) outs-is)
      (m.drives ∙ m.wrote.drives ∙ ap (λ (q : Outs). q.drives) outs-is)
      (m.tifr ∙ ap (bit_or a.tifr) up)
      ∙ sym (ap (λ (q : Step). q.moving) (tick-rising s near rising k.apart))

  near-sound : Sound s near
  near-sound = rw (near-is s p d o first a k.kind) at (step_keeps s a.gap (run_in p d o first a).moving k.sound (let g = k.gap in omega arith))

  struck-top : b.top ≡ top_of s.wave (get_or b.ocr 0 0)
  struck-top = rw (m.top, m.ocr) (go (bottom_in (scene_of s) a))
    where
      go : (x : Bool) → cond x (limit_at (scene_of s) a.top) a.top ≡ top_of s.wave (get_or (cond x (scene_of s).buffer a.ocr) 0 0)
      go true = ap (limit_at (scene_of s)) k.top ∙ limit_is s a.ocr ∙ ap (λ (l : List ℕ). top_of s.wave (get_or l 0 0)) (sym (scene-buffer s))
      go false = k.top

  struck-gap : b.gap ≡ gap s.wave (run_in p d o first b).moving.counter b.ocr
  struck-gap = m.gap ∙ ap (λ (t : ℕ). climb_at (scene_of s) b.count t b.ocr) struck-top ∙ climb-is s (run_in p d o first b).moving (record { kind = k.kind; free = refl })

  struck-flags : b.flags ≡ up_now s (near_in s p d o first b)
  struck-flags =
      m.flags
      ∙ ap (λ (t : ℕ). raised_at (scene_of s) (b.count + b.gap) t b.ocr) struck-top
      ∙ raised_is s (near_of s p d o first b) (record { kind = k.kind; free = refl }) k.apart
      ∙ sym (ap (λ (q : Moving). up_now s q) (near-is s p d o first b k.kind))

  struck-known : Known s p d o first b
  struck-known =
      record {
        kind = k.kind;
        apart = k.apart;
        sound = rw struck-moving (tick-keeps s near near-sound);
        gap = struck-gap;
        top = struck-top;
        flags = struck-flags;
        aligned = rw due-at (later-aligned p a.next (b.gap + 1) some k.aligned);
        due = (let t = on-time in omega arith);
        since = (let t = struck-at in let u = k.since in omega arith);
      }

  log_is : (tick s near).log ≡ m.outs.log ++ told_of (scene_of s) a.flags b.tifr
  log_is = ap (λ (q : Step). q.log) (tick-rising s near rising k.apart) ∙ rw (outs-is, m.tifr, up)

  struck-put : Put (tick s near).log a.next a.to before b.to after
  struck-put =
      let i : Put m.outs.log a.next a.to before m.out.to m.mid = record { next = m.wrote.to; area = m.wrote.area } in
      let j : Put (told_of (scene_of s) a.flags b.tifr) a.next m.out.to m.mid b.to after = record { next = m.to; area = m.area } in
      rw log_is (put_then i j)

  pub struck : Struck s p d o first a before b after
  struck =
      let e = near-is s p d o first a k.kind in
      record {
        moving = rw e struck-moving;
        at = struck-at;
        to = rw e struck-put.next;
        area = rw e struck-put.area;
        most = m.most;
        known = struck-known;
      }

-- ---- what is known fits
pub known-fits : {s : Setting} {p : Prescaler} {d : ℤ} {o first shift room : ℕ} {r : Rise} → Known s p d o first r → shift ≤ 10 → r.to ≤ room → Fit (scene_of s) shift r room
unfolding scene_of
known-fits {s} {p} {d} {o} {first} {shift} {room} {r} k h n =
    record {
      most = k.sound.steady.most;
      limit = k.sound.buffers 0;
      top = rw k.top (top-max s.wave (run_in p d o first r).moving k.sound.steady);
      near = gap_up s.wave (run_in p d o first r).moving k.sound.steady r.gap (no-fall s (run_in p d o first r).moving (record { kind = k.kind; free = refl })) (let g = k.gap in omega arith);
      steps = h;
      place = n;
    }

-- ---- the code's parts
-- TOP and the compares, loaded or not
pub record Loads (c : Scene) (a : Rise) (top : ℕ) (ocr : List ℕ) : Type 0 where
  pub limit : top ≡ cond (bottom_in c a) (limit_at c a.top) a.top
  pub active : ocr ≡ cond (bottom_in c a) c.buffer a.ocr

module _ {c : Scene} {a : Rise} {top : ℕ} {ocr : List ℕ} where
  pub loaded : {limit : ℕ} → bottom_in c a ≡ true → limit ≡ limit_at c a.top → top ≡ limit → ocr ≡ c.buffer → Loads c a top ocr
  loaded h l t r = record { limit = t ∙ l ∙ rw h; active = r ∙ rw h }

  pub unloaded : bottom_in c a ≡ false → top ≡ a.top → ocr ≡ a.ocr → Loads c a top ocr
  unloaded h t r = record { limit = t ∙ rw h; active = r ∙ rw h }

-- the outputs, driven or not
pub record Drove (c : Scene) (a : Rise) (before : List ℕ) (oc : List ℕ) (drives : Drives) (to : ℕ) (mid : List ℕ) : Type 0 where
  pub outs : Outs
  pub driven : (outs ≡ driven_of c a.flags (bottom_in c a) (start_of a)) ⊎ ((c.pinned ≡ false) × (outs ≡ start_of a))
  pub wrote : Wrote outs a.next a.to before (record { oc = oc; drives = drives; to = to }) mid
  pub most : to ≤ a.to + 60

module _ {c : Scene} {a : Rise} {before : List ℕ} {oc : List ℕ} {drives : Drives} {to : ℕ} {mid : List ℕ} where
  pub drove : {r : Outputs} {area : List ℕ} → Wrote (driven_of c a.flags (bottom_in c a) (start_of a)) a.next a.to before r area × (r.to ≤ a.to + 60)
      → mid ≡ area → oc ≡ r.oc → drives ≡ r.drives → to ≡ r.to → Drove c a before oc drives to mid
  drove {r} {area} w em eo ed et =
      let v = w.0 in
      record {
        outs = driven_of c a.flags (bottom_in c a) (start_of a);
        driven = inl refl;
        wrote = record { oc = eo ∙ v.oc; drives = ed ∙ v.drives; to = et ∙ v.to; area = em ∙ v.area };
        most = (let q = w.1 in omega arith);
      }

  pub undriven : c.pinned ≡ false → mid ≡ before → oc ≡ a.oc → drives ≡ a.drives → to ≡ a.to → Drove c a before oc drives to mid
  undriven h em eo ed et =
      let z = put-none a.next a.to before in
      record {
        outs = start_of a;
        driven = inr (h, refl);
        wrote = record { oc = eo; drives = ed; to = et ∙ z.next; area = em ∙ z.area };
        most = omega arith;
      }

  pub drove-long : Drove c a before oc drives to mid → length mid ≡ length before
  drove-long w = ap length w.wrote.area ∙ length-sets before a.to (records_of a.next w.outs.log)

-- what they come to
module _ {c : Scene} {shift room : ℕ} {a : Rise} {count top : ℕ} {ocr : List ℕ} (f : Fit c shift a room) (ec : count ≡ after_at c (a.count + a.gap) a.top) (l : Loads c a top ocr) where
  pub count_fits : count ≤ c.max
  count_fits = rw ec (after-max c (a.count + a.gap) a.top f.near)

  top-fits : top ≤ c.max
  top-fits = rw l.limit (cond-le (bottom_in c a) (limit-max c a.top f.limit f.top) f.top)

  pub near_fits : {gap₁ : ℕ} → gap₁ ≡ climb_at c count top ocr → count + gap₁ ≤ c.max
  near_fits eg = rw eg (climb-max c count top ocr count_fits top-fits)

  pub way-fits : {gap₁ : ℕ} → gap₁ ≡ climb_at c count top ocr → (gap₁ + 1) * 2 ^ shift ≤ 67108864
  way-fits {gap₁} eg = let n = near_fits eg in let m = f.most in way-most (gap₁ + 1) f.steps (omega arith)

pub all-strike : {c : Scene} (shift : ℕ) {a : Rise} {before : List ℕ} {b : Rise} {after : List ℕ} → Makes c shift a before b after → EveryRun c shift a (λ s p d o first. Struck s p d o first a before b after)
all-strike shift {a} {before} {b} {after} m = λ s p d o first es ed k. struck ed k (rw es at m)

-- the rise that the code returns
abbrev strike_of : ℕ → Rise → ℕ → ℕ → ℕ → List ℕ → List ℕ → Drives → ℕ → ℕ → Rise
strike_of shift a count gap₁ top ocr oc drives to flags = record {
  next = a.next + ((gap₁ + 1) * 2 ^ shift) % 18446744073709551616;
  to = to;
  count = count;
  gap = gap₁;
  top = top;
  ocr = ocr;
  oc = oc;
  drives = drives;
  tifr = bit_or a.tifr a.flags;
  flags = flags;
}

module _ {c : Scene} (shift : ℕ) {a : Rise} {before : List ℕ} {count top gap₁ : ℕ} {ocr : List ℕ} {oc : List ℕ} {drives : Drives} {mid-to : ℕ} {mid : List ℕ} {to flags : ℕ} {after : List ℕ} where
  pub strikes : (Fit c shift a (length before)) × (a.next < 2 ^ 63) × (a.to + 110 ≤ length before)
      → count ≡ after_at c (a.count + a.gap) a.top
      → Loads c a top ocr
      → gap₁ ≡ climb_at c count top ocr
      → Drove c a before oc drives mid-to mid
      → (to ≡ mid-to + length (records_of a.next (told_of c a.flags (bit_or a.tifr a.flags)))) × (after ≡ sets mid mid-to (records_of a.next (told_of c a.flags (bit_or a.tifr a.flags)))) × (to ≤ mid-to + 50)
      → flags ≡ raised_at c (count + gap₁) top ocr
      → (Fit c shift (strike_of shift a count gap₁ top ocr oc drives to flags) (length after)) × (a.next < (strike_of shift a count gap₁ top ocr oc drives to flags).next) × (to ≤ a.to + 110) × (EveryRun c shift a (λ s p d o first. Struck s p d o first a before (strike_of shift a count gap₁ top ocr oc drives to flags) after))
  strikes q ec l eg w t ef =
      let y = way-fits q.0 ec l eg in
      let z : ((gap₁ + 1) * 2 ^ shift) % 18446744073709551616 ≡ (gap₁ + 1) * 2 ^ shift = omega arith in
      let u = w.most in
      let v = t.2 in
      let n : length after ≡ length before = ap length t.1 ∙ length-sets mid mid-to (records_of a.next (told_of c a.flags (bit_or a.tifr a.flags))) ∙ drove-long w in
      let m : Makes c shift a before (strike_of shift a count gap₁ top ocr oc drives to flags) after = record {
        outs = w.outs;
        out = record { oc = oc; drives = drives; to = mid-to };
        mid = mid;
        driven = w.driven;
        wrote = w.wrote;
        count = ec;
        top = l.limit;
        ocr = l.active;
        gap = eg;
        oc = refl;
        drives = refl;
        tifr = refl;
        to = t.0;
        area = t.1;
        most = omega arith;
        next = ap (λ (x : ℕ). a.next + x) z;
        flags = ef;
      } in
      let g = way-some gap₁ shift in
      let h = q.2 in
      (fit-after q.0 m (omega arith), omega arith, omega arith, all-strike shift m)
