-- The loops of a run, over plain values: each turn keeps what the whole run by ticks will be.
use Prim.Native.Nat.{ℕ, zero, suc, ◌+◌, ◌-◌, ◌≤◌, ◌<◌, ◌^◌}
use native.Mathlib.Omega.{arith}
use native.Mathlib.Nat.{le_refl}
use mathlib.Core.Path.{◌≡◌, refl, sym, ap, ◌∙◌}
use mathlib.Core.Bool.{Bool, true, false, cond, ◌&&◌}
use mathlib.Core.List.{List, ◌++◌}
use lib.ListN.{length, take, drop, length-append}
use lib.Seq.{sets, sets-eq, length-sets, length-take-le, take_at, drop_at, drop-drop}
use lib.Dec.{leb, ltb}
use borrow.Author.Tests.{le-leb, lt-leb, leb-true, leb-false, ltb-true, lt-ltb}
use Rattle.records.specs.Records.{records_of}
use Rattle.time.specs.declared.units.Prescaler.{Prescaler}
use Rattle.time.specs.Units.{cycle_at}
use Rattle.wave.specs.Count.{falls, hits, at_top, at_zero, rising, next_count, counted}
use Rattle.wave.specs.Distance.{gap}
use Rattle.time.proofs.Clocks.{cycle-mono}
use Rattle.passage.specs.declared.Progress.{Progress}
use Rattle.passage.specs.declared.Aside.{Aside}
use Rattle.passage.specs.declared.Finished.{Finished}
use Rattle.tick.specs.declared.tick.Ticked.{Ticked}
use Rattle.tick.specs.declared.tick.Logged.{Logged}
use Rattle.tick.specs.declared.setting.Moving.{Moving}
use Rattle.tick.specs.declared.setting.Setting.{Setting}
use Rattle.tick.specs.Tick.{events_at, tick_by, tick, Worked, Logs}
use Rattle.tick.specs.Skip.{linear}
use Rattle.passage.specs.Passage.{odometer_to, Run, one, ticks, quiet, standing, Ready, Ran, Made, Finishes}
use Rattle.tick.specs.Sound.{Sound}
use Rattle.tick.proofs.Choices.{and_left}
use Rattle.tick.proofs.Bounds.{gap-max}
use Rattle.tick.proofs.Still.{step_keeps, tick-keeps}
use Rattle.passage.proofs.Runs.{bytes_after, one-all, quiet-ticks, ticks-add, ticks-paused}

abbrev pub within : List ℕ → ℕ → Bool
within area k = leb k (length area)

-- the run from a on
abbrev pub run_of : Setting → Prescaler → Progress → ℕ → List ℕ → Run
run_of s p a end before = ticks s p (within before) (end - a.at.0) (standing a before)

-- n quiet ticks on from b
abbrev near_to : Setting → Progress → List ℕ → ℕ → Run
near_to s b area n = record { moving = linear s.wave n b.moving; at = b.at.0 + n; bytes = take b.to area; paused = false }

-- ---- one tick
module _ (s : Setting) (p : Prescaler) (fits : ℕ → Bool) where
  one-done : (r : Run) → r.paused ≡ false → fits (length (bytes_after s p r)) ≡ true
      → one s p fits r ≡ record { moving = (tick s r.moving).moving; at = r.at + 1; bytes = bytes_after s p r; paused = false }
  unfolding one
  one-done r n f = simp (n, f)

  one-stops : (r : Run) → r.paused ≡ false → fits (length (bytes_after s p r)) ≡ false
      → one s p fits r ≡ record { moving = r.moving; at = r.at; bytes = r.bytes; paused = true }
  unfolding one
  one-stops r n f = simp (n, f)

  -- bytes only come
  ticks-grow : (n : ℕ) (r : Run) → length r.bytes ≤ length (ticks s p fits n r).bytes
  unfolding ticks
  ticks-grow zero r = le_refl _
  ticks-grow (suc n) r =
      let h : length r.bytes ≤ length (one s p fits r).bytes
      = one-all s p fits (λ (q : Run). length r.bytes ≤ length q.bytes) r (le_refl _) (le_refl _) (λ e. simp length-append (omega arith)) in
      let k = ticks-grow n (one s p fits r) in
      omega arith

-- bytes stored after the first ones of an area
module _ (area vs : List ℕ) (to : ℕ) (h : to + length vs ≤ length area) where
  stored-length : length (take to area ++ vs) ≡ to + length vs
  stored-length = let a = length-append (take to area) vs in let b = length-take-le to area (omega arith) in omega arith

  stored-take : take (to + length vs) (sets area to vs) ≡ take to area ++ vs
  stored-take = ap (take (to + length vs)) (sets-eq vs area to h) ∙ take_at (take to area ++ vs) (drop (to + length vs) area) (to + length vs) stored-length

  stored-drop : drop (to + length vs) (sets area to vs) ≡ drop (to + length vs) area
  stored-drop = ap (drop (to + length vs)) (sets-eq vs area to h) ∙ drop_at (take to area ++ vs) (drop (to + length vs) area) (to + length vs) stored-length

-- ---- the quiet ticks before the next event, and then its tick
module _ {s : Setting} {p : Prescaler} {b : Progress} {end room : ℕ} (r : Ready s p b end room) {near : Moving} (e : near ≡ linear s.wave b.gap b.moving) where
  pub near-sound : Sound s near
  near-sound = rw e (step_keeps s b.gap b.moving r.sound (let l = r.gap in omega arith))

  pub event-sound : {m : Moving} → m ≡ (tick s near).moving → Sound s m
  event-sound n = rw n (tick-keeps s near near-sound)

-- ---- what a loop keeps of the run from a on, now that it stands at b
pub record Going (s : Setting) (p : Prescaler) (a : Progress) (end : ℕ) (before : List ℕ) (b : Progress) (area : List ℕ) : Type 0 where
  pub rest : ticks s p (within before) (end - b.at.0) (standing b area) ≡ run_of s p a end before
  pub left : drop b.to area ≡ drop b.to before
  pub ready : Ready s p b end (length before)
  pub long : length area ≡ length before

pub begins : {s : Setting} {p : Prescaler} {a : Progress} {end : ℕ} (before : List ℕ) → Ready s p a end (length before) → Going s p a end before a before
begins before r = record { rest = refl; left = refl; ready = r; long = refl }

module _ {s : Setting} {p : Prescaler} {a : Progress} {end : ℕ} {before : List ℕ} {b : Progress} {area : List ℕ} (g : Going s p a end before b area) where
  -- ---- what the calls of a turn ask
  pub gap-small : b.gap < 65536
  gap-small = let y = g.ready.sound.steady in let h = gap-max s.wave b.moving y in let k = y.most in let l = g.ready.gap in omega arith

  pub near-cycle : (k : ℕ) → k ≤ end → cycle_at p k < 2 ^ 64
  near-cycle k h = let c = cycle-mono p k end h in let u = g.ready.cycles in omega arith

  pub aside-ready : b.gap < end - b.at.0 → Ready s p b (b.at.0 + (b.gap + 1)) b.to
  aside-ready h =
      let y = g.ready in
      record {
        sound = y.sound;
        gap = y.gap;
        upto = omega arith;
        ticks = (let u = y.ticks in omega arith);
        cycles = near-cycle (b.at.0 + (b.gap + 1)) (omega arith);
        bytes = le_refl b.to;
      }

  -- ---- the run's next ticks
  fit : length (take b.to area) ≡ b.to
  fit = length-take-le b.to area (let h = g.ready.bytes in let l = g.long in omega arith)

  quiet-run : (n : ℕ) → n ≤ b.gap → ticks s p (within before) n (standing b area) ≡ near_to s b area n
  unfolding quiet
  quiet-run n h =
      let f = g.ready.bytes in
      let k = g.ready.gap in
      quiet-ticks s p (within before) n (standing b area) (record { sound = g.ready.sound; fit = le-leb _ (length before) (let e = fit in omega arith) }) refl (omega arith)

  event-run : b.gap < end - b.at.0 → ticks s p (within before) (end - b.at.0 - suc b.gap) (one s p (within before) (near_to s b area b.gap)) ≡ run_of s p a end before
  unfolding ticks
  event-run h =
      let n : end - b.at.0 ≡ b.gap + suc (end - b.at.0 - suc b.gap) = omega arith in
      ap (ticks s p (within before) (suc (end - b.at.0 - suc b.gap))) (sym (quiet-run b.gap (le_refl b.gap)))
      ∙ sym (ticks-add s p (within before) b.gap (suc (end - b.at.0 - suc b.gap)) (standing b area))
      ∙ ap (λ (k : ℕ). ticks s p (within before) k (standing b area)) (sym n)
      ∙ g.rest

  -- the event's tick, its records stored
  ticked : (vs : List ℕ) (m : Moving) (gap₁ at₁ to₁ : ℕ) (area₁ : List ℕ)
      → b.gap < end - b.at.0
      → at₁ ≡ b.at.0 + b.gap + 1
      → vs ≡ records_of (cycle_at p at₁) (tick s (linear s.wave b.gap b.moving)).log
      → m ≡ (tick s (linear s.wave b.gap b.moving)).moving
      → gap₁ ≡ gap s.wave m.counter m.ocr
      → to₁ ≡ b.to + length vs
      → to₁ ≤ length area
      → area₁ ≡ sets area b.to vs
      → Going s p a end before (record { moving = m; gap = gap₁; at = record { 0 = at₁ }; to = to₁ }) area₁
  ticked vs m gap₁ at₁ to₁ area₁ h ea ev em eg et f er =
      let l = g.long in
      let y = g.ready in
      let u = y.upto in
      let k : b.to + length vs ≤ length area = omega arith in
      let n : end - b.at.0 - suc b.gap ≡ end - at₁ = omega arith in
      let by : take to₁ area₁ ≡ bytes_after s p (near_to s b area b.gap) = rw (et, er) (stored-take area vs b.to k ∙ rw (ev, ea)) in
      let fi : within before (length (bytes_after s p (near_to s b area b.gap))) ≡ true = rw (← ea, ← ev) (le-leb _ (length before) (let z = stored-length area vs b.to k in omega arith)) in
      let od : one s p (within before) (near_to s b area b.gap) ≡ record { moving = m; at = at₁; bytes = take to₁ area₁; paused = false }
      = one-done s p (within before) (near_to s b area b.gap) refl fi ∙ rw (by, em, ea) in
      record {
        rest = rw (← n) (sym (ap (ticks s p (within before) (end - b.at.0 - suc b.gap)) od) ∙ event-run h);
        left = rw (et, er) (stored-drop area vs b.to k ∙ sym (drop-drop (length vs) b.to area) ∙ ap (drop (length vs)) g.left ∙ drop-drop (length vs) b.to before);
        ready = record {
          sound = event-sound y refl em;
          gap = eg;
          upto = omega arith;
          ticks = y.ticks;
          cycles = y.cycles;
          bytes = omega arith;
        };
        long = ap length er ∙ length-sets area b.to vs ∙ l;
      }

  -- ---- run: its loop's test, and a turn
  pub goes : ltb b.gap (end - b.at.0) && leb 110 (length area - b.to) ≡ true → (b.gap < end - b.at.0) × (110 ≤ length area - b.to)
  goes h =
      let n : b.gap < end - b.at.0 = ltb-true _ _ (and_left _ _ h) in
      (n, leb-true 110 (length area - b.to) (rw (lt-ltb b.gap (end - b.at.0) n) at h))

  pub turned : {near : Moving} {stamp : ℕ} {w : Ticked} {gap₁ : ℕ} {area₁ : List ℕ}
      → (b.gap < end - b.at.0) × (110 ≤ length area - b.to)
      → near ≡ linear s.wave b.gap b.moving
      → stamp ≡ cycle_at p (b.at.0 + b.gap + 1)
      → Worked (tick s near) stamp b.to area w area₁
      → gap₁ ≡ gap s.wave w.moving.counter w.moving.ocr
      → Going s p a end before (record { moving = w.moving; gap = gap₁; at = record { 0 = b.at.0 + b.gap + 1 }; to = w.to }) area₁
  turned {near} {stamp} {w} {gap₁} {area₁} h en es k eg =
      let k₁ : Worked (tick s (linear s.wave b.gap b.moving)) (cycle_at p (b.at.0 + b.gap + 1)) b.to area w area₁ = rw (← en, ← es) k in
      ticked _ w.moving gap₁ _ w.to area₁ h.0 refl refl k₁.moving eg k₁.to (let z = k.most in omega arith) k₁.area

  -- ---- finish: its turns, and its ends
  -- the event's records were written
  pub wrote : {x : Aside} {done : Bool} {area₁ : List ℕ}
      → b.gap < end - b.at.0
      → Made s p b x
      → done ≡ leb (b.to + x.log.len) (length area)
      → area₁ ≡ cond done (sets area b.to (take x.log.len x.log.bytes)) area
      → done ≡ true
      → Going s p a end before (record { moving = x.after.moving; gap = x.after.gap; at = x.after.at; to = b.to + x.log.len }) area₁
  wrote {x} {done} {area₁} h m e w d =
      let n = m.size in
      let c = m.at in
      ticked (take x.log.len x.log.bytes) x.after.moving x.after.gap x.after.at.0 (b.to + x.log.len) area₁ h
      (omega arith)
      (rw c m.bytes)
      m.moving
      m.gap
      (omega arith)
      (leb-true _ (length area) (sym e ∙ d))
      (rw d at w)

  -- or they do not fit
  pub halted : {x : Aside} {done : Bool} {area₁ : List ℕ} {near : Moving} (at : ℕ)
      → at ≡ b.at.0
      → b.gap < end - at
      → Made s p b x
      → done ≡ leb (b.to + x.log.len) (length area)
      → area₁ ≡ cond done (sets area b.to (take x.log.len x.log.bytes)) area
      → done ≡ false
      → near ≡ linear s.wave b.gap b.moving
      → Finishes s p a end before (record { moving = near; at = record { 0 = at + b.gap }; to = b.to; paused = true }) area₁
  halted {x} {done} {area₁} {near} at ea h m e w d en =
      let l = g.long in
      let n = m.size in
      let k = fit in
      let u : area₁ ≡ area = rw d at w in
      let c : b.at.0 + b.gap + 1 ≡ b.at.0 + (b.gap + 1) = omega arith in
      let f = leb-false (b.to + x.log.len) (length area) (sym e ∙ d) in
      let no : within before (length (bytes_after s p (near_to s b area b.gap))) ≡ false = rw (c, ← m.bytes) (lt-leb _ (length before) (simp length-append (omega arith))) in
      record {
        run = sym (event-run (omega arith))
            ∙ ap (ticks s p (within before) (end - b.at.0 - suc b.gap)) (one-stops s p (within before) (near_to s b area b.gap) refl no)
            ∙ ticks-paused s p (within before) (end - b.at.0 - suc b.gap) _ refl
            ∙ rw (u, ea, en);
        left = rw u g.left;
        room = g.ready.bytes;
        upto = omega arith;
      }

  -- or no event is left
  pub ended : {last : Moving} (at : ℕ) → at ≡ b.at.0 → end - at ≤ b.gap → last ≡ linear s.wave (end - at) b.moving
      → Finishes s p a end before (record { moving = last; at = record { 0 = end }; to = b.to; paused = false }) area
  ended {last} at ea h el =
      let c : b.at.0 + (end - b.at.0) ≡ end = (let u = g.ready.upto in omega arith) in
      record {
        run = sym g.rest ∙ quiet-run (end - b.at.0) (omega arith) ∙ rw (el, ea, c);
        left = g.left;
        room = g.ready.bytes;
        upto = le_refl end;
      }

-- ---- run: its loop's end
pub ran : {s : Setting} {p : Prescaler} {a : Progress} {end : ℕ} {before : List ℕ} {b : Progress} {area : List ℕ}
    → Going s p a end before b area → ltb b.gap (end - b.at.0) && leb 110 (length area - b.to) ≡ false
    → Ran s p a end before b area
ran {s} {p} {a} {end} {before} {b} {area} g h =
    record {
      rest = g.rest;
      left = g.left;
      ready = g.ready;
      ends = λ n. let l = g.long in let k = leb-false 110 (length area - b.to) (rw (lt-ltb b.gap (end - b.at.0) n) at h) in omega arith;
    }

-- ---- aside: the next event's tick, its records in a log
pub made : {s : Setting} {p : Prescaler} {a : Progress} {end room : ℕ} {near : Moving} {stamp : ℕ} {w : Logged} {gap₁ : ℕ}
    → Ready s p a end room
    → near ≡ linear s.wave a.gap a.moving
    → stamp ≡ cycle_at p (a.at.0 + (a.gap + 1))
    → Logs (tick s near) stamp w
    → gap₁ ≡ gap s.wave w.moving.counter w.moving.ocr
    → Made s p a (record { after = record { moving = w.moving; gap = gap₁; at = record { 0 = a.at.0 + (a.gap + 1) }; to = w.log.len }; log = w.log })
made r en es k eg =
    record {
      moving = k.moving ∙ rw en;
      at = refl;
      gap = eg;
      sound = event-sound r en k.moving;
      bytes = k.bytes ∙ rw (es, en);
      size = k.size;
      len = k.len;
    }

-- ---- work
-- a run, and the rest of it from where it stands
pub joined : {s : Setting} {p : Prescaler} {a : Progress} {end : ℕ} {before : List ℕ} {b : Progress} {area : List ℕ} {r : Finished} {after : List ℕ}
    → Ran s p a end before b area → length area ≡ length before → length after ≡ length before → Finishes s p b end area r after
    → Finishes s p a end before r after
joined {s} {p} {a} {end} {before} {b} {area} {r} {after} h l n f =
    let o = f.room in
    let y = h.ready.bytes in
    let e₁ : length (take r.to after) ≡ r.to = length-take-le r.to after (omega arith) in
    let e₂ : length (take b.to area) ≡ b.to = length-take-le b.to area (omega arith) in
    let k : length (take b.to area) ≤ length (take r.to after) = rw (ap (λ (q : Run). q.bytes) f.run) at (ticks-grow s p (within area) (end - b.at.0) (standing b area)) in
    let d : b.to + (r.to - b.to) ≡ r.to = omega arith in
    record {
      run = sym h.rest ∙ rw l at f.run;
      left = f.left ∙ rw d at (sym (drop-drop (r.to - b.to) b.to area) ∙ ap (drop (r.to - b.to)) h.left ∙ drop-drop (r.to - b.to) b.to before);
      room = omega arith;
      upto = f.upto;
    }

-- ---- run's loop, in which the odometer stands still
-- a tick, a linear step and the gap do not look at it
module _ (s : Setting) (m : Moving) (o : ℕ) where
  tick-dialled : tick s (odometer_to m o) ≡ record { moving = odometer_to (tick s m).moving (counted o 1); log = (tick s m).log }
  unfolding tick_by events_at hits falls at_top at_zero rising next_count
  tick-dialled = refl

  step-dialled : (n : ℕ) → linear s.wave n (odometer_to m o) ≡ odometer_to (linear s.wave n m) (counted o n)
  unfolding linear falls
  step-dialled n = refl

  gap-dialled : gap s.wave (odometer_to m o).counter m.ocr ≡ gap s.wave m.counter m.ocr
  unfolding gap falls
  gap-dialled = refl

  dialled-sound : Sound s m → o < 2 ^ 64 → Sound s (odometer_to m o)
  dialled-sound v h =
      let y = v.steady in
      record { steady = record { least = y.least; most = y.most; fixed = y.fixed; icr = y.icr; compares = y.compares; count = y.count; turns = y.turns; odometer = h }; buffers = v.buffers }

-- where the run stands that its loop has with the odometer as it was
abbrev pub lagging : Progress → Moving → ℕ → ℕ → ℕ → Progress
lagging a m gap at to = record { moving = odometer_to m (counted a.moving.counter.odometer (at - a.at.0)); gap = gap; at = record { 0 = at }; to = to }

-- what the loop keeps
pub record Lags (s : Setting) (p : Prescaler) (a : Progress) (end : ℕ) (before : List ℕ) (m : Moving) (gap at to : ℕ) (area : List ℕ) : Type 0 where
  pub going : Going s p a end before (lagging a m gap at to) area
  pub on : a.at.0 ≤ at
  pub begun : m.counter.odometer ≡ a.moving.counter.odometer
  pub fits : a.moving.counter.odometer < 2 ^ 64

pub lags-begin : {s : Setting} {p : Prescaler} {a : Progress} {end : ℕ} (before : List ℕ) → Ready s p a end (length before) → Lags s p a end before a.moving a.gap a.at.0 a.to before
lags-begin {s} {p} {a} {end} before r =
    let h = r.sound.steady.odometer in
    let z : counted a.moving.counter.odometer (a.at.0 - a.at.0) ≡ a.moving.counter.odometer = omega arith in
    record { going = rw z (begins before r); on = le_refl a.at.0; begun = refl; fits = h }

module _ {s : Setting} {p : Prescaler} {a : Progress} {end : ℕ} {before : List ℕ} {m : Moving} {gap₀ at to : ℕ} {area : List ℕ} (l : Lags s p a end before m gap₀ at to area) where
  pub lags-sound : Sound s m
  lags-sound = dialled-sound s (lagging a m gap₀ at to).moving m.counter.odometer l.going.ready.sound (let e = l.begun in let h = l.fits in omega arith)

  pub lags-gap : gap₀ ≡ gap s.wave m.counter m.ocr
  lags-gap = rw (gap-dialled s m (counted a.moving.counter.odometer (at - a.at.0))) at l.going.ready.gap

  pub lags-near : {near : Moving} → near ≡ linear s.wave gap₀ m → Sound s near
  lags-near e = rw e (step_keeps s gap₀ m lags-sound (let h = lags-gap in omega arith))

  pub lags-event : {near k : Moving} → near ≡ linear s.wave gap₀ m → k ≡ (tick s near).moving → Sound s k
  lags-event {near} e n = rw n (tick-keeps s near (lags-near e))

  pub lags-turn : {near next : Moving} {stamp : ℕ} {w : Ticked} {gap₁ : ℕ} {area₁ : List ℕ}
      → (gap₀ < end - at) × (110 ≤ length area - to)
      → near ≡ linear s.wave gap₀ m
      → stamp ≡ cycle_at p (at + gap₀ + 1)
      → Worked (tick s near) stamp to area w area₁
      → next ≡ odometer_to w.moving a.moving.counter.odometer
      → gap₁ ≡ gap s.wave next.counter next.ocr
      → Lags s p a end before next gap₁ (at + gap₀ + 1) w.to area₁
  lags-turn {near} {next} {stamp} {w} {gap₁} {area₁} h en es k ex eg =
      let o = l.on in
      let real : ℕ = counted a.moving.counter.odometer (at - a.at.0) in
      let near₁ : Moving = odometer_to near (counted real gap₀) in
      let w₁ : Ticked = record { moving = odometer_to w.moving (counted (counted real gap₀) 1); to = w.to } in
      let k₁ : Worked (tick s near₁) stamp to area w₁ area₁
      = rw (tick-dialled s near (counted real gap₀)) (record { moving = ap (λ (q : Moving). odometer_to q (counted (counted real gap₀) 1)) k.moving; to = k.to; area = k.area; most = k.most }) in
      let g₁ : gap₁ ≡ gap s.wave w.moving.counter w.moving.ocr = eg ∙ rw ex (gap-dialled s w.moving a.moving.counter.odometer) in
      let t = turned l.going h (rw en (sym (step-dialled s m real gap₀))) es k₁ (g₁ ∙ sym (gap-dialled s w.moving (counted (counted real gap₀) 1))) in
      let z : counted a.moving.counter.odometer (at + gap₀ + 1 - a.at.0) ≡ counted (counted real gap₀) 1 = omega arith in
      record { going = rw (ex, z) t; on = omega arith; begun = ap (λ (q : Moving). q.counter.odometer) ex; fits = l.fits }
