-- An advance with ten bytes of area works the announced time-out.
use Prim.Native.Nat.{ℕ, zero, suc, ◌+◌, ◌-◌, ◌≤◌}
use native.Mathlib.Omega.{arith}
use mathlib.Core.Path.{◌≡◌, refl, sym, ap, ◌∙◌}
use mathlib.Core.Bool.{Bool, true, false}
use mathlib.Core.List.{List, [], append-nil}
use lib.Dec.{leb, leb-zero}
use lib.ListN.{length, take, length-append}
use lib.Seq.{take-append-le, take_at}
use borrow.Author.Tests.{le-leb}
use Rattle.records.specs.Records.{record_of}
use Rattle.records.proofs.Records.{record-length}
use Rattle.time.specs.Units.{ticks_at}
use Rattle.time.proofs.Clocks.{cycle-mono}
use Rattle.wdtcsr.specs.State.{running}
use Rattle.wdtcsr.specs.Timeouts.{timed_out, timeout, gap_of}
use Rattle.wdtcsr.proofs.Ticks.{cond-case, quiet-to-gap}
use Rattle.oscillator.specs.declared.state.Watchdog.{Watchdog}
use Rattle.oscillator.specs.Oscillator.{oscillator, Run, one, ticks, quiet, due, start, sync_of, passed, run_of, next_at}
use Rattle.oscillator.proofs.Runs.{one-all, ticks-add, quiet-ticks}
use Rattle.oscillator.proofs.Loop.{one-loud}
use Rattle.oscillator.proofs.Syncs.{gap-due}
use Rattle.watchdog.specs.declared.calls.Call.TheVariants as call
use Rattle.watchdog.specs.Calls.{refusal_of, moved, performed, answered}
use Rattle.watchdog.specs.Claims.{told, Works, Progress}
use Rattle.watchdog.proofs.Quiet.{announced}

-- a run never goes back, and keeps its first bytes
module _ (fits : ℕ → Bool) where
  ticks-on : (n : ℕ) (r : Run) → r.at ≤ (ticks fits n r).at
  unfolding ticks
  ticks-on zero r = omega arith
  ticks-on (suc n) r =
      let a : r.at ≤ (one fits r).at = one-all fits (λ (q : Run). r.at ≤ q.at) r (omega arith) (omega arith) (λ e. omega arith) in
      let b = ticks-on n (one fits r) in
      omega arith

  ticks-first : (k n : ℕ) (r : Run) → k ≤ length r.bytes → take k (ticks fits n r).bytes ≡ take k r.bytes
  unfolding ticks
  ticks-first k zero r h = refl
  ticks-first k (suc n) r h =
      ticks-first k n (one fits r) (one-all fits (λ (q : Run). k ≤ length q.bytes) r h h (λ e. simp length-append (omega arith)))
      ∙ one-all fits (λ (q : Run). take k q.bytes ≡ take k r.bytes) r refl refl (λ e. rw take-append-le)

  ticks-grow : (n : ℕ) (r : Run) → length r.bytes ≤ length (ticks fits n r).bytes
  unfolding ticks
  ticks-grow zero r = omega arith
  ticks-grow (suc n) r =
      let a : length r.bytes ≤ length (one fits r).bytes = one-all fits (λ (q : Run). length r.bytes ≤ length q.bytes) r (omega arith) (omega arith) (λ e. simp length-append (omega arith)) in
      let b = ticks-grow n (one fits r) in
      omega arith

-- the run up to the time-out and past it
module _ (w : Watchdog) (cycle : ℕ) (area : List ℕ) (r : running w.moving ≡ true) (h : next_at w ≤ cycle) (f : 10 ≤ length area) where
  fits : ℕ → Bool
  fits k = leb k (length area)

  run : Run
  run = run_of ticks w cycle fits

  rest : ℕ
  rest = due w cycle - suc (gap_of w.moving)

  worked : Run
  worked = record { moving = timed_out w.moving; at = ticks_at oscillator w.sync.0 + gap_of w.moving + 1; bytes = record_of (next_at w) (timeout w.moving); paused = false }

  through : run ≡ ticks fits rest worked
  unfolding run rest worked fits run_of start quiet next_at ticks
  through =
      let q : gap_of w.moving + suc rest ≡ due w cycle = (let d = gap-due w cycle h in omega arith) in
      let k : ticks_at oscillator w.sync.0 + gap_of w.moving + 1 ≡ ticks_at oscillator w.sync.0 + (gap_of w.moving + 1) = omega arith in
      (rw q at (ticks-add fits (gap_of w.moving) (suc rest) (start w)))
      ∙ ap (ticks fits (suc rest)) (quiet-ticks fits (gap_of w.moving) (start w) (leb-zero (length area)) refl (quiet-to-gap w.moving))
      ∙ ap (ticks fits rest) (one-loud fits w.moving (ticks_at oscillator w.sync.0) [] r (rw record-length (le-leb 10 (length area) f)))
      ∙ rw k

  reaches : next_at w ≤ sync_of w cycle run
  unfolding sync_of worked next_at
  reaches =
      let a = ticks-on fits rest worked in
      let b : ticks_at oscillator w.sync.0 + (gap_of w.moving + 1) ≤ run.at = rw through (omega arith) in
      let c = cycle-mono oscillator _ run.at b in
      cond-case (λ (k : ℕ). next_at w ≤ k) run.paused (λ e. omega arith) (λ e. h)

  first-bytes : take 10 run.bytes ≡ record_of (next_at w) (timeout w.moving)
  unfolding worked
  first-bytes =
      let n = record-length (next_at w) (timeout w.moving) in
      ap (λ (q : Run). take 10 q.bytes) through
      ∙ ticks-first fits 10 rest worked (omega arith)
      ∙ whole (record_of (next_at w) (timeout w.moving)) n
    where
      whole : (bytes : List ℕ) → length bytes ≡ 10 → take 10 bytes ≡ bytes
      whole bytes e = sym (ap (take 10) (append-nil bytes)) ∙ take_at bytes [] 10 e

  ten : 10 ≤ length run.bytes
  unfolding worked
  ten = let n = record-length (next_at w) (timeout w.moving) in let g = ticks-grow fits rest worked in rw through (omega arith)

  works : refusal_of w call.Advance cycle ≡ 0 → Works w (next_at w) (told ticks w (record { call = call.Advance; cycle = cycle; area = area }))
  unfolding answered performed moved passed run fits
  works z = rw z (record { reaches = reaches; tells = (let t = ten in rw take-append-le) ∙ first-bytes })

pub progress : Progress
progress qs cycle area next e z h f =
    let a = announced _ next e in
    rw a.1 (works _ cycle area a.0 (rw a.1 at h) f z)
