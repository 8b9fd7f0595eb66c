-- The loops of a rising run, over plain values: each turn keeps what the whole run by ticks will be.
use Prim.Native.Nat.{ℕ, ◌+◌, ◌-◌, ◌<◌, ◌≤◌, ◌^◌}
use native.Mathlib.Omega.{arith}
use native.Mathlib.Nat.{div-le_self, le_refl}
use mathlib.Core.Path.{◌≡◌, refl, sym, ap, ◌∙◌}
use mathlib.Core.Bool.{Bool, true, false, cond, ◌&&◌, false≢true}
use mathlib.Core.List.{List}
use mathlib.Core.Logic.{◌⊎◌, inr, ⊎_elim}
use lib.IntN.{ℤ}
use lib.ListN.{length, take, drop}
use lib.Seq.{sets, sets-eq, length-take-le, take_at, drop-drop}
use lib.Dec.{leb}
use borrow.Author.Tests.{leb-true, le-leb}
use Rattle.records.specs.Records.{records_of}
use Rattle.time.specs.declared.units.Prescaler.{Prescaler}
use Rattle.time.specs.Units.{ticks_at, cycle_at}
use Rattle.time.proofs.Clocks.{ticks-mono, tick-before}
use Rattle.tick.specs.declared.setting.Setting.{Setting}
use Rattle.tick.specs.declared.tick.Ticked.{Ticked}
use Rattle.passage.specs.Passage.{Ready, Made}
use Rattle.passage.proofs.Loops.{Going, begins, turned, wrote, halted}
use Rattle.scene.specs.declared.state.Scene.{Scene}
use Rattle.strike.specs.declared.Rise.{Rise}
use Rattle.strike.specs.declared.Aside.{Aside}
use Rattle.strike.specs.Strike.{tick_in, run_in, event_in, aside_in, Known, Fit, Struck, Lone, Climbed, Rose, EveryRun}
use Rattle.strike.proofs.Strikes.{step-some}

-- ---- the next event's tick is due
ticks-most : (p : Prescaler) (cycle : ℕ) → cycle < 2 ^ 64 → ticks_at p cycle < 2 ^ 64
unfolding ticks_at
ticks-most p cycle h = let q = div-le_self (cycle - p.origin.0) p.divisor in omega arith

module _ {s : Setting} {p : Prescaler} {d : ℤ} {o first : ℕ} {r : Rise} (k : Known s p d o first r) (some : 0 < p.divisor) where
  due-cycle : r.next ≡ cycle_at p (tick_in p r + r.gap + 1)
  due-cycle =
      let h = k.due in
      let e : tick_in p r + r.gap + 1 ≡ ticks_at p r.next = omega arith in
      rw e (sym k.aligned)

  due-gap : {cycle : ℕ} → r.next ≤ cycle → r.gap < ticks_at p cycle - tick_in p r
  due-gap {cycle} n = let h = k.due in let m = ticks-mono p r.next cycle some n in omega arith

  begun-by : p.origin.0 ≤ r.next
  unfolding cycle_at
  begun-by = let e = k.aligned in omega arith

  pub ready_of : {cycle room : ℕ} → r.next ≤ cycle → cycle < 2 ^ 63 → r.to ≤ room → Ready s p (run_in p d o first r) (ticks_at p cycle) room
  ready_of {cycle} {room} n h t =
      let g = due-gap n in
      let b = begun-by in
      record {
        sound = k.sound;
        gap = k.gap;
        upto = omega arith;
        ticks = ticks-most p cycle (omega arith);
        cycles = (let c = tick-before p cycle (omega arith) in omega arith);
        bytes = t;
      }

-- ---- what is known does not depend on the place of the next record
abbrev pub placed : Rise → ℕ → Rise
placed r to = record { next = r.next; to = to; count = r.count; gap = r.gap; top = r.top; ocr = r.ocr; oc = r.oc; drives = r.drives; tifr = r.tifr; flags = r.flags }

pub known-placed : {s : Setting} {p : Prescaler} {d : ℤ} {o first : ℕ} {r : Rise} (to : ℕ) → Known s p d o first r → Known s p d o first (placed r to)
known-placed to k = record { kind = k.kind; apart = k.apart; sound = k.sound; gap = k.gap; top = k.top; flags = k.flags; aligned = k.aligned; due = k.due; since = k.since }

pub fit-placed : {c : Scene} {shift room : ℕ} {r : Rise} (to : ℕ) {room₁ : ℕ} → Fit c shift r room → to ≤ room₁ → Fit c shift (placed r to) room₁
fit-placed to f h = record { most = f.most; limit = f.limit; top = f.top; near = f.near; steps = f.steps; place = h }

-- ---- what a loop keeps of one run from a on, now that it stands at r
pub record Rises (s : Setting) (p : Prescaler) (d : ℤ) (o first : ℕ) (a : Rise) (cycle : ℕ) (before : List ℕ) (r : Rise) (area : List ℕ) : Type 0 where
  pub going : Going s p (run_in p d o first a) (ticks_at p cycle) before (run_in p d o first r) area
  pub grows : a.to ≤ r.to
  pub known : Known s p d o first r

module _ {s : Setting} {p : Prescaler} {d : ℤ} {o first : ℕ} {a : Rise} {cycle : ℕ} {before : List ℕ} where
  pub rises-begin : Known s p d o first a → Ready s p (run_in p d o first a) (ticks_at p cycle) (length before) → Rises s p d o first a cycle before a before
  rises-begin k y = record { going = begins before y; grows = le_refl a.to; known = k }

  module _ {r : Rise} {area : List ℕ} (i : Rises s p d o first a cycle before r area) (some : 0 < p.divisor) where
    -- an event's tick struck
    pub rises-struck : {r₁ : Rise} {area₁ : List ℕ} → r.next ≤ cycle → 110 ≤ length area - r.to → Struck s p d o first r area r₁ area₁ → Rises s p d o first a cycle before r₁ area₁
    rises-struck {r₁} {area₁} n h w =
        let t : Ticked = record { moving = (run_in p d o first r₁).moving; to = r₁.to } in
        let e : tick_in p r + r.gap + 1 ≡ tick_in p r₁ = (let q = w.at in omega arith) in
        let g = turned i.going {stamp = r.next} {w = t} (due-gap i.known some n, h) refl (due-cycle i.known some) (record { moving = w.moving; to = w.to; area = w.area; most = w.most }) w.known.gap in
        record { going = rw e at g; grows = (let q = w.to in let u = i.grows in omega arith); known = w.known }

    -- or made aside and written
    pub rises-wrote : {x : Aside} {done : Bool} {area₁ : List ℕ} → r.next ≤ cycle
        → Made s p (run_in p d o first r) (aside_in p d o first x) × Known s p d o first x.after
        → done ≡ leb (r.to + x.log.len) (length area)
        → area₁ ≡ cond done (sets area r.to (take x.log.len x.log.bytes)) area
        → done ≡ true
        → Rises s p d o first a cycle before (placed x.after (r.to + x.log.len)) area₁
    rises-wrote {x} n w e v h =
        record {
          going = wrote i.going {x = aside_in p d o first x} (due-gap i.known some n) w.0 e v h;
          grows = (let u = i.grows in omega arith);
          known = known-placed (r.to + x.log.len) w.1;
        }

    -- or it does not fit
    pub rose-stopped : {x : Aside} {done : Bool} {area₁ : List ℕ} → r.next ≤ cycle
        → Made s p (run_in p d o first r) (aside_in p d o first x) × Known s p d o first x.after
        → done ≡ leb (r.to + x.log.len) (length area)
        → area₁ ≡ cond done (sets area r.to (take x.log.len x.log.bytes)) area
        → done ≡ false
        → Rose s p d o first a cycle before r area₁
    rose-stopped {x} n w e v h =
        let f = halted i.going {x = aside_in p d o first x} (tick_in p r) refl (due-gap i.known some n) w.0 e v h refl in
        record {
          reached = λ l. absurd (omega (arith, l, n));
          stopped = λ l. f.run;
          left = f.left;
          room = f.room;
          grows = i.grows;
          known = i.known;
        }

    -- or no event is left
    pub rose-reached : cycle < r.next → Rose s p d o first a cycle before r area
    rose-reached n =
        record {
          reached = λ l. (i.going.ready.upto, i.going.rest);
          stopped = λ l. absurd (omega (arith, l, n));
          left = i.going.left;
          room = i.going.ready.bytes;
          grows = i.grows;
          known = i.known;
        }

    pub climbed : Climbed s p d o first a (ticks_at p cycle) before r area
    climbed = record { rest = i.going.rest; left = i.going.left; ready = i.going.ready; grows = i.grows; known = i.known }

    -- ---- the rest of the run, from where it stands
    left-then : (area₁ : List ℕ) (n : ℕ) → r.to ≤ n → drop n area₁ ≡ drop n area → drop n area₁ ≡ drop n before
    left-then area₁ n h e =
        let q : r.to + (n - r.to) ≡ n = omega arith in
        e ∙ rw q at (sym (drop-drop (n - r.to) r.to area) ∙ ap (drop (n - r.to)) i.going.left ∙ drop-drop (n - r.to) r.to before)

    pub rises-then : {r₁ : Rise} {area₁ : List ℕ} → length area₁ ≡ length area → Climbed s p d o first r (ticks_at p cycle) area r₁ area₁ → Rises s p d o first a cycle before r₁ area₁
    rises-then {r₁} {area₁} n c =
        let l = i.going.long in
        record {
          going = record { rest = rw l at c.rest ∙ i.going.rest; left = left-then area₁ r₁.to c.grows c.left; ready = rw l at c.ready; long = n ∙ l };
          grows = (let u = i.grows in let v = c.grows in omega arith);
          known = c.known;
        }

    pub rose-then : {r₁ : Rise} {area₁ : List ℕ} → Rose s p d o first r cycle area r₁ area₁ → Rose s p d o first a cycle before r₁ area₁
    rose-then {r₁} {area₁} c =
        let l = i.going.long in
        record {
          reached = λ h. ((c.reached h).0, rw l at (c.reached h).1 ∙ i.going.rest);
          stopped = λ h. sym i.going.rest ∙ rw l at (c.stopped h);
          left = left-then area₁ r₁.to c.grows c.left;
          room = (let u = c.room in omega arith);
          grows = (let u = i.grows in let v = c.grows in omega arith);
          known = c.known;
        }

-- ---- the same of every run that the numbers tell
abbrev pub AllRise : Scene → ℕ → Rise → ℕ → List ℕ → Rise → List ℕ → Type 0
AllRise c shift a cycle before r area =
    EveryRun c shift a (λ s p d o first. Ready s p (run_in p d o first a) (ticks_at p cycle) (length before) → Rises s p d o first a cycle before r area)

pub divides : (p : Prescaler) (shift : ℕ) → p.divisor ≡ 2 ^ shift → 0 < p.divisor
divides p shift e = rw e (step-some shift)

both : (x y : Bool) → x && y ≡ true → (x ≡ true) × (y ≡ true)
both true true e = (refl, refl)
both true false e = absurd (false≢true e)
both false y e = absurd (false≢true e)

module _ {c : Scene} (shift : ℕ) {a : Rise} {cycle : ℕ} {before : List ℕ} where
  pub all-begin : AllRise c shift a cycle before a before
  all-begin = λ s p d o first es ed k y. rises-begin k y

  module _ {r : Rise} {area : List ℕ} (i : AllRise c shift a cycle before r area) where
    pub all-struck : {r₁ : Rise} {area₁ : List ℕ} → r.next ≤ cycle → 110 ≤ length area - r.to → EveryRun c shift r (λ s p d o first. Struck s p d o first r area r₁ area₁) → AllRise c shift a cycle before r₁ area₁
    all-struck n h w = λ s p d o first es ed k y. let j = i s p d o first es ed k y in rises-struck j (divides p shift ed) n h (w s p d o first es ed j.known)

    module _ {x : Aside} {done : Bool} {area₁ : List ℕ} (n : r.next ≤ cycle)
        (w : EveryRun c shift r (λ s p d o first. Made s p (run_in p d o first r) (aside_in p d o first x) × Known s p d o first x.after))
        (e : done ≡ leb (r.to + x.log.len) (length area))
        (v : area₁ ≡ cond done (sets area r.to (take x.log.len x.log.bytes)) area) where
      pub all-wrote : done ≡ true → AllRise c shift a cycle before (placed x.after (r.to + x.log.len)) area₁
      all-wrote h = λ s p d o first es ed k y. let j = i s p d o first es ed k y in rises-wrote j (divides p shift ed) n (w s p d o first es ed j.known) e v h

      pub all-stopped : done ≡ false → EveryRun c shift a (λ s p d o first. Ready s p (run_in p d o first a) (ticks_at p cycle) (length before) → Rose s p d o first a cycle before r area₁)
      all-stopped h = λ s p d o first es ed k y. let j = i s p d o first es ed k y in rose-stopped j (divides p shift ed) n (w s p d o first es ed j.known) e v h

    pub all-reached : cycle < r.next → EveryRun c shift a (λ s p d o first. Ready s p (run_in p d o first a) (ticks_at p cycle) (length before) → Rose s p d o first a cycle before r area)
    all-reached n = λ s p d o first es ed k y. rose-reached (i s p d o first es ed k y) (divides p shift ed) n

    pub all-climbed : EveryRun c shift a (λ s p d o first. Ready s p (run_in p d o first a) (ticks_at p cycle) (length before) → Climbed s p d o first a (ticks_at p cycle) before r area)
    all-climbed = λ s p d o first es ed k y. climbed (i s p d o first es ed k y) (divides p shift ed)

-- ---- no turn yet, or the event that was next is struck, and alone where the run goes to its cycle
abbrev pub Turns : Scene → ℕ → Rise → ℕ → List ℕ → Rise → List ℕ → Type 0
Turns c shift a cycle before r area = ((r ≡ a) × (area ≡ before)) ⊎ ((a.next < r.next) × (cycle ≡ a.next → Lone c shift a before r area))

module _ {c : Scene} {shift : ℕ} {a : Rise} {cycle : ℕ} {before : List ℕ} {r : Rise} {area : List ℕ} (t : Turns c shift a cycle before r area) where
  pub turns-struck : {r₁ : Rise} {area₁ : List ℕ} → r.next ≤ cycle → r.next < r₁.next → r₁.to ≤ r.to + 110 → EveryRun c shift r (λ s p d o first. Struck s p d o first r area r₁ area₁) → Turns c shift a cycle before r₁ area₁
  turns-struck {r₁} {area₁} n l m w = ⊎_elim
      (λ e. let o : Lone c shift r area r₁ area₁ = record { later = l; most = m; struck = w } in
      let v : Lone c shift a before r₁ area₁ = rw (e.0, e.1) at o in
      inr (v.later, λ _. v))
      (λ e. inr (omega (arith, e.0), λ q. absurd (omega (arith, e.0, q))))
      t

  pub turns-lone : leb r.next cycle && leb 110 (length area - r.to) ≡ false → cycle ≡ a.next → a.to + 110 ≤ length before → Lone c shift a before r area
  turns-lone h q m = ⊎_elim
      (λ e. absurd (false≢true (sym h ∙ rw (e.0, e.1, le-leb a.next cycle (omega arith), le-leb 110 (length before - a.to) (omega arith)) refl)))
      (λ e. e.1 q)
      t

-- ---- what the code asks of a turn
pub goes_on : (next cycle space : ℕ) → leb next cycle && leb 110 space ≡ true → (next ≤ cycle) × (110 ≤ space)
goes_on next cycle space h = let q = both (leb next cycle) (leb 110 space) h in (leb-true next cycle q.0, leb-true 110 space q.1)

module _ {c : Scene} {shift : ℕ} {r : Rise} where
  pub fit-here : {room : ℕ} → Fit c shift r room → Fit c shift r r.to
  fit-here f = record { most = f.most; limit = f.limit; top = f.top; near = f.near; steps = f.steps; place = le_refl r.to }

  pub fit-moved : {room room₁ : ℕ} → room₁ ≡ room → Fit c shift r room → Fit c shift r room₁
  fit-moved e f = rw e f

-- ---- aside: the tick struck in an area of its own
module _ {s : Setting} {p : Prescaler} {d : ℤ} {o first : ℕ} {a : Rise} {before : List ℕ} {b : Rise} {area : List ℕ} (k : Known s p d o first a) (some : 0 < p.divisor)
    (n : length before ≡ 110) (l : length area ≡ 110) (w : Struck s p d o first (placed a 0) before b area) where
  made_bytes : take b.to area ≡ records_of a.next (event_in s p d o first a).log
  made_bytes =
      let vs : List ℕ = records_of a.next (event_in s p d o first a).log in
      let t = w.to in
      let u = w.most in
      let h : 0 + length vs ≤ length before = omega arith in
      rw (w.to, w.area) (ap (take (0 + length vs)) (sets-eq vs before 0 h) ∙ take_at vs (drop (0 + length vs) before) (0 + length vs) (omega arith))

  pub made : Made s p (run_in p d o first a) (aside_in p d o first (record { after = b; log = record { bytes = area; len = b.to } })) × Known s p d o first b
  made =
      let t = w.most in
      let e : tick_in p a + a.gap + 1 ≡ tick_in p a + (a.gap + 1) = omega arith in (
        record {
          moving = w.moving;
          at = w.at;
          gap = w.known.gap;
          sound = w.known.sound;
          bytes = made_bytes ∙ ap (λ (x : ℕ). records_of x (event_in s p d o first a).log) (due-cycle k some ∙ ap (cycle_at p) e);
          size = length-take-le b.to area (omega arith);
          len = t;
        },
        w.known,
      )

pub all_made : {c : Scene} (shift : ℕ) {a : Rise} {before : List ℕ} {b : Rise} {area : List ℕ} → length before ≡ 110 → length area ≡ 110
    → EveryRun c shift (placed a 0) (λ s p d o first. Struck s p d o first (placed a 0) before b area)
    → EveryRun c shift a (λ s p d o first. Made s p (run_in p d o first a) (aside_in p d o first (record { after = b; log = record { bytes = area; len = b.to } })) × Known s p d o first b)
all_made shift n l w = λ s p d o first es ed k. made k (divides p shift ed) n l (w s p d o first es ed (known-placed 0 k))

-- ---- rising: the first event, then the others
module _ {c : Scene} (shift : ℕ) {a : Rise} {cycle : ℕ} {before : List ℕ} {b : Rise} {area : List ℕ} (n : a.next ≤ cycle) (h : cycle < 2 ^ 63) (t : a.to + 110 ≤ length before)
    (w : EveryRun c shift a (λ s p d o first. Struck s p d o first a before b area)) where
  all_first : EveryRun c shift a (λ s p d o first. Rises s p d o first a cycle before b area)
  all_first = λ s p d o first es ed k.
      let y = ready_of k (divides p shift ed) {room = length before} n h (omega arith) in
      rises-struck (rises-begin k y) (divides p shift ed) n (omega arith) (w s p d o first es ed k)

  pub one-rose : cycle < b.next → EveryRun c shift a (λ s p d o first. Rose s p d o first a cycle before b area)
  one-rose m = λ s p d o first es ed k. rose-reached (all_first s p d o first es ed k) (divides p shift ed) m

  pub all-rose : {r₁ r₂ : Rise} {area₁ area₂ : List ℕ} → length area₁ ≡ length area
      → EveryRun c shift b (λ s p d o first. Ready s p (run_in p d o first b) (ticks_at p cycle) (length area) → Climbed s p d o first b (ticks_at p cycle) area r₁ area₁)
      → EveryRun c shift r₁ (λ s p d o first. Ready s p (run_in p d o first r₁) (ticks_at p cycle) (length area₁) → Rose s p d o first r₁ cycle area₁ r₂ area₂)
      → EveryRun c shift a (λ s p d o first. Rose s p d o first a cycle before r₂ area₂)
  all-rose l u v = λ s p d o first es ed k.
      let some = divides p shift ed in
      let i = all_first s p d o first es ed k in
      let q = u s p d o first es ed i.known (rw (← i.going.long) at i.going.ready) in
      let j = rises-then i some l q in
      rose-then j some (v s p d o first es ed j.known (rw (← j.going.long) at j.going.ready))
