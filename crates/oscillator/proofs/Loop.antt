-- The run's loop, over plain values: each turn keeps what the whole run by ticks will be.
use Prim.Native.Nat.{ℕ, suc, ◌+◌, ◌-◌, ◌≤◌, ◌<◌, ◌^◌}
use native.Mathlib.Omega.{arith}
use native.Mathlib.Nat.{le_refl}
use mathlib.Core.Path.{◌≡◌, refl, sym, ap, ◌∙◌}
use mathlib.Core.Bool.{Bool, true, false}
use mathlib.Core.List.{List, ◌++◌}
use lib.ListN.{length, take, drop, length-append}
use lib.Seq.{sets, sets-eq, length-sets, length-take-le, take_at, drop_at, drop-drop}
use lib.Dec.{leb}
use borrow.Author.Tests.{le-leb, lt-leb}
use Rattle.std.specs.Prelude.{Some, None}
use Rattle.records.specs.Records.{record_of}
use Rattle.records.proofs.Records.{record-length, records-one}
use Rattle.time.specs.Units.{cycle_at}
use Rattle.time.proofs.Clocks.{cycle-mono}
use Rattle.wdtcsr.specs.declared.state.Moving.{Moving}
use Rattle.wdtcsr.specs.State.{running}
use Rattle.wdtcsr.specs.Timeouts.{timed_out, timeout, linear, gap_of, is_quiet}
use Rattle.wdtcsr.proofs.Ticks.{tick-loud, loud-runs, loud-gap, quiet-to-gap}
use Rattle.wdtcsr.proofs.Bounds.{timed-out-sound}
use Rattle.oscillator.specs.Oscillator.{oscillator, Run, one, ticks, quiet, begin, Ready, Finishes}
use Rattle.oscillator.proofs.Runs.{quiet-ticks, ticks-add, ticks-paused}

abbrev pub within : List ℕ → ℕ → Bool
within area k = leb k (length area)

-- where the code's loop stands
abbrev pub standing : Moving → ℕ → ℕ → List ℕ → Run
standing m at to area = record { moving = m; at = at; bytes = take to area; paused = false }

-- bytes stored after the first ones of an area
module _ (area vs : List ℕ) (to : ℕ) (h : to + length vs ≤ length area) where
  stored-length : length (take to area ++ vs) ≡ to + length vs
  stored-length = let a = length-append (take to area) vs in let b = length-take-le to area (omega arith) in omega arith

  stored-take : take (to + length vs) (sets area to vs) ≡ take to area ++ vs
  stored-take = ap (take (to + length vs)) (sets-eq vs area to h) ∙ take_at (take to area ++ vs) (drop (to + length vs) area) (to + length vs) stored-length

  stored-drop : drop (to + length vs) (sets area to vs) ≡ drop (to + length vs) area
  stored-drop = ap (drop (to + length vs)) (sets-eq vs area to h) ∙ drop_at (take to area ++ vs) (drop (to + length vs) area) (to + length vs) stored-length

-- the time-out's tick, with its record or stopped before it
module _ (fits : ℕ → Bool) (m : Moving) (at : ℕ) (bytes : List ℕ) (r : running m ≡ true) where
  pub one-loud : fits (length (bytes ++ record_of (cycle_at oscillator (at + gap_of m + 1)) (timeout m))) ≡ true
      → one fits (record { moving = linear (gap_of m) m; at = at + gap_of m; bytes = bytes; paused = false })
      ≡ record { moving = timed_out m; at = at + gap_of m + 1; bytes = bytes ++ record_of (cycle_at oscillator (at + gap_of m + 1)) (timeout m); paused = false }
  unfolding one
  one-loud f = simp (tick-loud m r, records-one, f)

  pub one-stops : fits (length (bytes ++ record_of (cycle_at oscillator (at + gap_of m + 1)) (timeout m))) ≡ false
      → one fits (record { moving = linear (gap_of m) m; at = at + gap_of m; bytes = bytes; paused = false })
      ≡ record { moving = linear (gap_of m) m; at = at + gap_of m; bytes = bytes; paused = true }
  unfolding one
  one-stops f = simp (tick-loud m r, records-one, f)

-- what the loop keeps of the run from m₀ on, now that it stands at m
pub record Going (m₀ : Moving) (from end : ℕ) (before : List ℕ) (m : Moving) (at to : ℕ) (area : List ℕ) : Type 0 where
  pub rest : ticks (within before) (end - at) (standing m at to area) ≡ ticks (within before) (end - from) (begin m₀ from)
  pub left : drop to area ≡ drop to before
  pub ready : Ready m at end
  pub bytes : to ≤ length before
  pub long : length area ≡ length before

pub begins : {m : Moving} {from end : ℕ} (before : List ℕ) → Ready m from end → Going m from end before m from 0 before
begins before y = record { rest = refl; left = refl; ready = y; bytes = omega arith; long = refl }

module _ {m₀ : Moving} {from end : ℕ} {before : List ℕ} {m : Moving} {at to : ℕ} {area : List ℕ} (g : Going m₀ from end before m at to area) where
  fit : length (take to area) ≡ to
  fit = length-take-le to area (let h = g.bytes in let l = g.long in omega arith)

  quiet-run : (n : ℕ) → is_quiet n m ≡ true → ticks (within before) n (standing m at to area) ≡ record { moving = linear n m; at = at + n; bytes = take to area; paused = false }
  unfolding quiet
  quiet-run n h = quiet-ticks (within before) n (standing m at to area) (le-leb _ (length before) (let e = fit in let f = g.bytes in omega arith)) refl h

  module _ (h : is_quiet (end - at) m ≡ false) where
    next-run : ticks (within before) (end - at - suc (gap_of m)) (one (within before) (record { moving = linear (gap_of m) m; at = at + gap_of m; bytes = take to area; paused = false }))
        ≡ ticks (within before) (end - from) (begin m₀ from)
    unfolding ticks
    next-run =
        let l = loud-gap (end - at) m h in
        let n : end - at ≡ gap_of m + suc (end - at - suc (gap_of m)) = omega arith in
        ap (ticks (within before) (suc (end - at - suc (gap_of m)))) (sym (quiet-run (gap_of m) (quiet-to-gap m)))
        ∙ sym (ticks-add (within before) (gap_of m) (suc (end - at - suc (gap_of m))) (standing m at to area))
        ∙ ap (λ (k : ℕ). ticks (within before) k (standing m at to area)) (sym n)
        ∙ g.rest

    pub near_cycle : {next : ℕ} → next ≡ at + gap_of m + 1 → cycle_at oscillator next < 2 ^ 64
    near_cycle {next} en = let l = loud-gap (end - at) m h in let u = g.ready.cycles in let c = cycle-mono oscillator next end (omega arith) in omega arith

    -- the time-out's record was written
    pub turned : {next cycle : ℕ} {area₁ : List ℕ} → 10 ≤ length area - to → next ≡ at + gap_of m + 1 → cycle ≡ cycle_at oscillator next → area₁ ≡ sets area to (record_of cycle (timeout m))
        → Going m₀ from end before (timed_out m) next (to + 10) area₁
    turned {next} {cycle} {area₁} f en ec er =
        let l = loud-gap (end - at) m h in
        let long = g.long in
        let b = g.bytes in
        let vs : List ℕ = record_of (cycle_at oscillator (at + gap_of m + 1)) (timeout m) in
        let e : length vs ≡ 10 = record-length (cycle_at oscillator (at + gap_of m + 1)) (timeout m) in
        let k : to + length vs ≤ length area = omega arith in
        let er₁ : area₁ ≡ sets area to vs = er ∙ rw (ec, en) in
        let by : take (to + 10) area₁ ≡ take to area ++ vs = rw (er₁, ← e) (stored-take area vs to k) in
        let dr : drop (to + 10) area₁ ≡ drop (to + 10) area = rw (er₁, ← e) (stored-drop area vs to k) in
        let fi : within before (length (take to area ++ vs)) ≡ true = le-leb _ (length before) (let z = stored-length area vs to k in omega arith) in
        let od = one-loud (within before) m at (take to area) (loud-runs (end - at) m h) fi in
        let n : end - at - suc (gap_of m) ≡ end - next = omega arith in
        record {
          rest = rw (by, ← n, en) (sym (ap (ticks (within before) (end - at - suc (gap_of m))) od) ∙ next-run);
          left = dr ∙ sym (drop-drop 10 to area) ∙ ap (drop 10) g.left ∙ drop-drop 10 to before;
          ready = record { sound = timed-out-sound m g.ready.sound; upto = omega arith; cycles = g.ready.cycles };
          bytes = omega arith;
          long = ap length er₁ ∙ length-sets area to vs ∙ g.long;
        }

    -- or does not fit
    pub halted : {moving : Moving} {last : ℕ} → length area - to < 10 → moving ≡ linear (gap_of m) m → last ≡ at + gap_of m
        → Finishes m₀ from end before (record { moving = moving; written = to; paused = Some (record { 0 = last }) }) area
    halted {moving} {last} f em el =
        let l = loud-gap (end - at) m h in
        let long = g.long in
        let e : length (record_of (cycle_at oscillator (at + gap_of m + 1)) (timeout m)) ≡ 10 = record-length (cycle_at oscillator (at + gap_of m + 1)) (timeout m) in
        let k = fit in
        let no : within before (length (take to area ++ record_of (cycle_at oscillator (at + gap_of m + 1)) (timeout m))) ≡ false = lt-leb _ (length before) (simp length-append (omega arith)) in
        record {
          run = sym next-run
              ∙ ap (ticks (within before) (end - at - suc (gap_of m))) (one-stops (within before) m at (take to area) (loud-runs (end - at) m h) no)
              ∙ ticks-paused (within before) (end - at - suc (gap_of m)) _ refl
              ∙ rw (em, el);
          left = g.left;
          room = g.bytes;
          upto = omega arith;
        }

  -- or no time-out is left
  pub ended : {moving : Moving} → is_quiet (end - at) m ≡ true → moving ≡ linear (end - at) m
      → Finishes m₀ from end before (record { moving = moving; written = to; paused = None }) area
  ended {moving} h em =
      let u = g.ready.upto in
      let c : at + (end - at) ≡ end = omega arith in
      record {
        run = sym g.rest ∙ quiet-run (end - at) h ∙ rw (em, c);
        left = g.left;
        room = g.bytes;
        upto = le_refl end;
      }
