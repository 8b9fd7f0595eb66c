-- A counter that is held, or whose clock is stopped, has its count moved only by a TCNT write or a reset.
use Prim.Native.Nat.{ℕ, ◌%◌}
use native.Mathlib.Omega.{arith}
use mathlib.Core.Path.{◌≡◌, refl, ap, ◌∙◌}
use mathlib.Core.Bool.{Bool, true, false, cond, not, ◌&&◌, ◌||◌, and-false, true≢false}
use lib.Dec.{eqb, leb, ltb}
use lib.ListN.{length}
use borrow.Author.Tests.{eqb-true, eqb-false, lt-leb}
use Rattle.wave.specs.declared.count.Counter.{Counter}
use Rattle.counter.specs.declared.state.Timer.{Timer}
use Rattle.counter.specs.Capture.{captured, ticks_on}
use Rattle.counter.specs.Halts.{halting, asleep_at, awake_at, reduced_to, prescaled_at, tsm_to, routed_to}
use Rattle.counter.specs.Logs.{Noted}
use Rattle.counter.specs.Modes.{stop, falling, rising, clock_at, divisor_at, chosen, divisor_of, held_of, running_of}
use Rattle.passage.specs.Passage.{ticks}
use Rattle.counter.specs.Passage.{due, start, synced, advanced, passed, sync_to}
use Rattle.counter.specs.Registers.{compare_to, read_timer, commit, stored, configured, driven, written_a, written_b, written}
use Rattle.counter.specs.Valid.{Valid}
use Rattle.tick.proofs.Choices.{cond-case, cond-all}
use Rattle.timer.specs.declared.calls.Call.{Call}
use Rattle.timer.specs.declared.calls.Call.TheVariants as call
use Rattle.timer.specs.Calls.{placed, edge_captures, edge_ticks, output_captures, changes, prescales, asks, works, before}
use Rattle.timer.specs.Claims.{Request, told, sets_count, Held}
use Rattle.timer.proofs.Accepted.{told-all}
use Rattle.timer.proofs.Timely.{timely}
use Rattle.counter.proofs.Keeps.{fresh-is-valid}
use Rattle.timer.proofs.Keeps.{last-valid}

-- ---- a counter that stands still: no prescaled tick, and none of the T pin's
abbrev Stands : Timer → Type 0
Stands t = held_of t || eqb (clock_at t.config.clocks (t.registers.tccrb % 8)) stop ≡ true

record Still (t : Timer) : Type 0 where
  idle : running_of t ≡ false
  deaf : (level : ℕ) → ticks_on t level ≡ false

-- a stopped clock is no divisor and no edge
undivided : (clock : ℕ) → clock ≡ stop → cond (leb clock 1024) clock 0 ≡ 0
undivided clock e = rw e

untaken : (clock level : ℕ) → clock ≡ stop → eqb clock falling && eqb level 0 || eqb clock rising && eqb level 1 ≡ false
untaken clock level e = rw e

still : (t : Timer) → Stands t → Still t
unfolding running_of divisor_of divisor_at ticks_on chosen
still t e = go (held_of t) refl e
  where
    clock : ℕ
    clock = clock_at t.config.clocks (t.registers.tccrb % 8)

    go : (h : Bool) → held_of t ≡ h → h || eqb clock stop ≡ true → Still t
    go true h e = record { idle = simp (h, and-false); deaf = λ level. simp (h, and-false) }
    go false h e =
        let s : clock ≡ stop = eqb-true clock stop e in
        record {
          idle = ap (λ (n : ℕ). ltb 0 n && not (held_of t)) (undivided clock s);
          deaf = λ level. ap (λ (b : Bool). b && not (held_of t)) (untaken clock level s);
        }

-- ---- time moves no count
module _ (t : Timer) (cycle : ℕ) (h : Stands t) where
  none-due : due t cycle ≡ 0
  unfolding due
  none-due = simp (still t h).idle

  advanced-stays : (room : ℕ) → (advanced ticks t cycle room).timer.counter ≡ t.counter
  unfolding advanced passed sync_to start ticks
  advanced-stays room = rw none-due

  before-stays : (syncs : Bool) → (before ticks t syncs cycle).timer.counter ≡ t.counter
  unfolding before synced passed sync_to start ticks
  before-stays true = rw none-due
  before-stays false = refl

-- ---- nor do the calls' own works, but for those two
Stays : ℕ → Timer → Type 0
Stays n t = t.counter.count ≡ n

StaysIn : ℕ → Noted → Type 0
StaysIn n x = Stays n x.timer

commit-stays : (t : Timer) (place v : ℕ) → leb place 1 ≡ false → Stays t.counter.count (commit t place v)
unfolding Stays commit compare_to
commit-stays t place v e =
    rw e (cond-all (Stays _) (leb place 3) refl (cond-all (Stays _) (leb place 5) refl (cond-all (Stays _) (leb place 7) refl refl)))

written-stays : (t : Timer) (place v : ℕ) → eqb place 0 ≡ false → StaysIn t.counter.count (written t place v)
unfolding Stays StaysIn written written_a written_b configured stored driven
written-stays t place v h =
    cond-all (StaysIn _) (leb place 9)
    (cond-case (Stays _) (eqb (place % 2) 1) (λ e. refl) (λ e. commit-stays t place v (low e)))
    (cond-all (StaysIn _) (eqb place 10) refl (cond-all (StaysIn _) (eqb place 11) refl refl))
  where
    low : eqb (place % 2) 1 ≡ false → leb place 1 ≡ false
    low e = lt-leb place 1 (omega (arith, eqb-false place 0 h, eqb-false (place % 2) 1 e))

works-stay : (t x : Timer) (c : Call) (cycle : ℕ) → x.config ≡ t.config → Stands x → sets_count t c ≡ false → StaysIn x.counter.count (works x c cycle)
unfolding Stays StaysIn sets_count works read_timer edge_ticks captured routed_to asleep_at awake_at reduced_to tsm_to prescaled_at
works-stay t x call.Advance cycle g h e = refl
works-stay t x call.Next cycle g h e = refl
works-stay t x (call.Read address) cycle g h e = cond-all (Stays _) ((eqb (placed x address) 0 || eqb (placed x address) 8) && x.config.wide) refl refl
works-stay t x (call.Peek address) cycle g h e = refl
works-stay t x (call.Write address value) cycle g h e = written-stays x (placed x address) (value % 256) (rw g e)
works-stay t x call.Tifr cycle g h e = refl
works-stay t x call.Timsk cycle g h e = refl
works-stay t x (call.WriteTifr ones) cycle g h e = refl
works-stay t x (call.WriteTimsk mask) cycle g h e = refl
works-stay t x (call.Edge pin level) cycle g h e = cond-all (StaysIn _) (edge_captures x pin level) refl (simp ((still x h).deaf level, and-false))
works-stay t x (call.Output level) cycle g h e = cond-all (StaysIn _) (output_captures x level) refl refl
works-stay t x (call.Route level) cycle g h e = cond-all (Stays _) x.config.icr.present refl refl
works-stay t x (call.Sleep mode) cycle g h e = cond-all (Stays _) (halting x mode) refl refl
works-stay t x call.Wake cycle g h e = cond-all (Stays _) x.halts.asleep refl refl
works-stay t x (call.Reduce mask) cycle g h e = refl
works-stay t x (call.Tsm level) cycle g h e = cond-all (Stays _) (changes x level) refl refl
works-stay t x (call.Prescale mask) cycle g h e = cond-all (Stays _) (prescales x mask) refl refl
works-stay t x call.Reset cycle g h e = absurd (true≢false e)

call_stays : (t : Timer) (q : Request) → Valid t → Stands t → sets_count t q.call ≡ false → Stays t.counter.count (told ticks t q).timer
unfolding Stays StaysIn held_of
call_stays t q v h s =
    told-all (Stays t.counter.count) t q refl (λ a. ap (λ (k : Counter). k.count) (advanced-stays t q.cycle h (length q.area)))
    (λ a. let g = timely t (asks t q.call).syncs q.cycle v a.latest a.most in
    works-stay t _ q.call q.cycle g.config (rw (g.config, g.registers, g.halts) h) s ∙ ap (λ (k : Counter). k.count) (before-stays t q.cycle h (asks t q.call).syncs))

pub held : Held
unfolding Stays held_of
held c e qs q = call_stays _ q (last-valid _ qs (fresh-is-valid c e))
