-- What moves the origin of the ticks, and what leaves it.
use Prim.Native.Nat.{ℕ, zero, suc, ◌%◌}
use native.Mathlib.Omega.{arith}
use mathlib.Core.Path.{◌≡◌, refl, ◌∙◌}
use mathlib.Core.Bool.{Bool, true, false, cond, ◌&&◌, ◌||◌}
use lib.Dec.{eqb, leb, ltb}
use borrow.Author.Tests.{ltb-false}
use Rattle.counter.specs.declared.state.Timer.{Timer}
use Rattle.counter.specs.Capture.{captured}
use Rattle.counter.specs.Halts.{halting, asleep_at, awake_at, reduced_to, prescaled_at, tsm_to, routed_to, reset_at}
use Rattle.counter.specs.Logs.{Noted, struck}
use Rattle.passage.specs.Passage.{ticks}
use Rattle.counter.specs.Passage.{synced, advanced, passed, sync_to}
use Rattle.counter.specs.Registers.{compare_to, read_timer, commit, stored, configured, driven, written_a, written_b, written}
use Rattle.tick.proofs.Choices.{cond-all}
use Rattle.timer.specs.declared.calls.Call.{Call}
use Rattle.timer.specs.declared.calls.Call.TheVariants as call
use Rattle.answers.specs.Answers.{Told}
use Rattle.timer.specs.Calls.{placed, edge_captures, edge_ticks, output_captures, changes, prescales, asks, works, before, moved}
use Rattle.timer.specs.Claims.{origin_of, Origin}
use Rattle.timer.proofs.Accepted.{told-taken}

-- a timer of the same configuration and halts, with the same origin
record Frame (t x : Timer) : Type 0 where
  config : x.config ≡ t.config
  halts : x.halts ≡ t.halts
  origin : x.clock.origin ≡ t.clock.origin

before-frame : (t : Timer) (syncs : Bool) (cycle : ℕ) → Frame t (before ticks t syncs cycle).timer
unfolding before synced passed sync_to
before-frame t true cycle = record { config = refl; halts = refl; origin = refl }
before-frame t false cycle = record { config = refl; halts = refl; origin = refl }

-- ---- the calls that leave it
abbrev Leaves : ℕ → Timer → Type 0
Leaves n x = x.clock.origin.0 ≡ n

abbrev LeavesIn : ℕ → Noted → Type 0
LeavesIn n x = Leaves n x.timer

commit-leaves : (x : Timer) (place v : ℕ) → Leaves x.clock.origin.0 (commit x place v)
unfolding commit compare_to
commit-leaves x place v =
    cond-all (Leaves _) (leb place 1) refl (cond-all (Leaves _) (leb place 3) refl (cond-all (Leaves _) (leb place 5) refl (cond-all (Leaves _) (leb place 7) refl refl)))

written-leaves : (x : Timer) (place v : ℕ) → LeavesIn x.clock.origin.0 (written x place v)
unfolding written written_a written_b configured stored driven
written-leaves x place v =
    cond-all (LeavesIn _) (leb place 9)
    (cond-all (Leaves _) (eqb (place % 2) 1) refl (commit-leaves x place v))
    (cond-all (LeavesIn _) (eqb place 10) refl (cond-all (LeavesIn _) (eqb place 11) refl refl))

-- ---- TSM: its release alone
tsm-origin : (x : Timer) (level cycle : ℕ) → ltb 1 level ≡ false → (cond (changes x level) (tsm_to x (eqb level 1) cycle) x).clock.origin.0 ≡ cond (x.halts.tsm && eqb level 0) cycle x.clock.origin.0
unfolding tsm_to
tsm-origin x level cycle h = go level x.halts.tsm refl h
  where
    go : (l : ℕ) (b : Bool) → x.halts.tsm ≡ b → ltb 1 l ≡ false → (cond (changes x l) (tsm_to x (eqb l 1) cycle) x).clock.origin.0 ≡ cond (x.halts.tsm && eqb l 0) cycle x.clock.origin.0
    go zero true e h = simp e
    go zero false e h = simp e
    go (suc zero) true e h = simp e
    go (suc zero) false e h = simp e
    go (suc (suc l)) b e h = absurd (omega (arith, ltb-false 1 (suc (suc l)) h))

-- ---- a call's own work
origin-cond : (b : Bool) (x y : Timer) → (cond b x y).clock.origin.0 ≡ cond b x.clock.origin.0 y.clock.origin.0
origin-cond true x y = refl
origin-cond false x y = refl

works-origin : (t x : Timer) (c : Call) (cycle : ℕ) → Frame t x → (asks t c).wrong ≡ false → (works x c cycle).timer.clock.origin.0 ≡ origin_of t c cycle
unfolding asks works origin_of read_timer captured struck sync_to routed_to asleep_at awake_at reduced_to prescaled_at reset_at driven
works-origin t x call.Advance cycle g h = rw g.origin
works-origin t x call.Next cycle g h = rw g.origin
works-origin t x (call.Read address) cycle g h = cond-all (Leaves _) ((eqb (placed x address) 0 || eqb (placed x address) 8) && x.config.wide) (rw g.origin) (rw g.origin)
works-origin t x (call.Peek address) cycle g h = rw g.origin
works-origin t x (call.Write address value) cycle g h = written-leaves x (placed x address) (value % 256) ∙ rw g.origin
works-origin t x call.Tifr cycle g h = rw g.origin
works-origin t x call.Timsk cycle g h = rw g.origin
works-origin t x (call.WriteTifr ones) cycle g h = rw g.origin
works-origin t x (call.WriteTimsk mask) cycle g h = rw g.origin
works-origin t x (call.Edge pin level) cycle g h = cond-all (LeavesIn _) (edge_captures x pin level) (rw g.origin) (cond-all (LeavesIn _) (edge_ticks x pin level) (rw g.origin) (rw g.origin))
works-origin t x (call.Output level) cycle g h = cond-all (LeavesIn _) (output_captures x level) (rw g.origin) (rw g.origin)
works-origin t x (call.Route level) cycle g h = cond-all (Leaves _) x.config.icr.present (rw g.origin) (rw g.origin)
works-origin t x (call.Sleep mode) cycle g h = cond-all (Leaves _) (halting x mode) (rw g.origin) (rw g.origin)
works-origin t x call.Wake cycle g h = origin-cond x.halts.asleep (awake_at x cycle) x ∙ rw (g.halts, g.origin)
works-origin t x (call.Reduce mask) cycle g h = rw g.origin
works-origin t x (call.Tsm level) cycle g h = tsm-origin x level cycle h ∙ rw (g.halts, g.origin)
works-origin t x (call.Prescale mask) cycle g h = origin-cond (prescales x mask) (prescaled_at x cycle) x ∙ rw (g.config, g.origin)
works-origin t x call.Reset cycle g h = refl

pub origin : Origin
unfolding origin_of moved advanced passed sync_to
origin t q =
    told-taken (λ (x : Told). x.timer.clock.origin.0 ≡ origin_of t q.call q.cycle) t q (λ a e. rw e)
    (λ a. works-origin t _ q.call q.cycle (before-frame t (asks t q.call).syncs q.cycle) a.right)
