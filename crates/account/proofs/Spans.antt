-- Time that passes, over its ticks: from one sync cycle to the next.
use Prim.Native.Nat.{ℕ, zero, suc, ◌+◌, ◌-◌, ◌*◌, ◌%◌, ◌≤◌, ◌<◌, ◌^◌, max}
use native.Mathlib.Omega.{arith}
use native.Mathlib.Nat.{add-zero, add-sub_cancel_left, mul-div_cancel}
use borrow.Author.Tests.{leb-true, leb-false}
use mathlib.Core.Path.{◌≡◌, refl, sym, ap, ◌∙◌}
use mathlib.Core.Bool.{Bool, true, false, false≢true}
use mathlib.Core.List.{[]}
use lib.Dec.{leb}
use Rattle.config.specs.Config.{accepted}
use Rattle.time.specs.declared.units.Prescaler.{Prescaler}
use Rattle.time.specs.Units.{ticks_at, cycle_at}
use Rattle.time.proofs.Clocks.{ticks-mono}
use Rattle.wave.specs.Kinds.{N}
use Rattle.tick.specs.declared.setting.Setting.{Setting}
use Rattle.tick.specs.Setting.{channel_of}
use Rattle.tick.proofs.Choices.{cond-case, cond-all}
use Rattle.passage.specs.Passage.{Run, one, ticks}
use Rattle.passage.proofs.Runs.{ticks-paused}
use Rattle.counter.specs.declared.state.Timer.{Timer}
use Rattle.counter.specs.Modes.{max_at, wave_of, divisor_of, prescaler_of, running_of}
use Rattle.counter.specs.Setting.{setting_of, setting_at}
use Rattle.counter.specs.Passage.{Passed, due, start, passed, sync_to, sync_of, synced, advanced}
use Rattle.counter.specs.Valid.{Valid}
use Rattle.counter.proofs.Bounds.{valid-sound}
use Rattle.counter.proofs.Clocks.{running-divides}
use Rattle.timer.specs.Calls.{before}
use Rattle.account.specs.Account.{Normal}
use Rattle.account.proofs.Flags.{own}
use Rattle.account.proofs.Records.{Worth, worth-none}
use Rattle.account.proofs.Ticks.{Solo, Tally, tally-none, ticks-tally}

-- a valid timer's TOV has a bit of its own, and in a normal mode its waveform is that
pub solo : (t : Timer) → accepted t.config ≡ true → Solo (setting_of t)
unfolding setting_at channel_of
solo t v = let o = own t.config v in record { tov = o.tov; a = o.a; b = o.b; c = o.c; icf = o.icr }

pub normal-wave : (t : Timer) → Normal t → (setting_of t).wave.kind ≡ N
unfolding setting_at wave_of
normal-wave t n = n

-- ---- a run that does not stop works every tick
module _ (s : Setting) (p : Prescaler) (fits : ℕ → Bool) where
  Goes : ℕ → Run → Type 0
  Goes k q = q.paused ≡ false → q.at ≡ k

  one-goes : (r : Run) → Goes (r.at + 1) (one s p fits r)
  unfolding one Goes
  one-goes r =
      cond-case (Goes (r.at + 1)) r.paused (λ e z. absurd (false≢true (sym z ∙ e)))
      (λ e. cond-case (Goes (r.at + 1)) (fits _) (λ f z. refl) (λ f z. absurd (false≢true (sym z))))

  ticks-goes : (n : ℕ) (r : Run) → (ticks s p fits n r).paused ≡ false → (ticks s p fits n r).at ≡ r.at + n
  unfolding ticks Goes
  ticks-goes zero r e = omega arith
  ticks-goes (suc n) r e =
      let h = ticks-goes n (one s p fits r) e in
      let o = one-goes r (goes (one s p fits r).paused refl) in
      omega arith
    where
      goes : (b : Bool) → (one s p fits r).paused ≡ b → (one s p fits r).paused ≡ false
      goes true z = absurd (false≢true (sym e ∙ (ap (λ (q : Run). q.paused) (ticks-paused s p fits n _ z) ∙ z)))
      goes false z = z

-- ---- the tick number of the cycle that a run ends at
tick-of : (p : Prescaler) (k : ℕ) → 0 < p.divisor → ticks_at p (cycle_at p k) ≡ k
unfolding ticks_at cycle_at
tick-of p k d = rw (add-sub_cancel_left p.origin.0 (k * p.divisor)) (mul-div_cancel k d)

-- a stopped one's is its last tick's, or the sync cycle before it
tick-stopped : (p : Prescaler) (sync k : ℕ) → 0 < p.divisor → p.origin.0 ≤ sync → ticks_at p sync ≤ k → ticks_at p (max sync (cycle_at p k)) ≡ k
tick-stopped p sync k d o l = go (leb sync (cycle_at p k)) refl
  where
    go : (b : Bool) → leb sync (cycle_at p k) ≡ b → ticks_at p (max sync (cycle_at p k)) ≡ k
    go true e = let h = leb-true sync (cycle_at p k) e in let m : max sync (cycle_at p k) ≡ cycle_at p k = omega arith in rw m (tick-of p k d)
    go false e =
        let h = leb-false sync (cycle_at p k) e in
        let m : max sync (cycle_at p k) ≡ sync = omega arith in
        let a = ticks-mono p (cycle_at p k) sync d (omega arith) in
        let b = tick-of p k d in
        rw m (omega arith)

-- ---- what the time up to a cycle makes of a timer in a normal mode
pub record Spans (t : Timer) (x : Passed) : Type 0 where
  pub made : ℕ
  pub worth : ℕ
  pub count : t.counter.count + made ≡ x.timer.counter.count + (max_at t.config.wide + 1) * worth
  pub odometer : x.timer.counter.odometer % 2 ^ 64 ≡ (t.counter.odometer + made) % 2 ^ 64
  pub bytes : Worth t.config.tov x.bytes worth
  pub sync : t.clock.sync.0 ≤ x.timer.clock.sync.0
  pub ticks : running_of t ≡ true → ticks_at (prescaler_of t) x.timer.clock.sync.0 ≡ ticks_at (prescaler_of t) t.clock.sync.0 + made
  pub idle : running_of t ≡ false → made ≡ 0
  pub origin : x.timer.clock.origin ≡ t.clock.origin
  pub registers : x.timer.registers ≡ t.registers
  pub halts : x.timer.halts ≡ t.halts
  pub config : x.timer.config ≡ t.config

module _ (t : Timer) (cycle : ℕ) (v : Valid t) (n : Normal t) (l : t.clock.latest.0 ≤ cycle) (fits : ℕ → Bool) where
  whole : Run
  whole = ticks (setting_of t) (prescaler_of t) fits (due t cycle) (start t)

  tally : Tally (setting_of t) (start t) whole
  unfolding whole start
  tally = ticks-tally (setting_of t) (solo t v.accepted) (normal-wave t n) (prescaler_of t) fits (start t) (due t cycle) (start t) (tally-none _ _ refl (valid-sound t v))

  -- its last tick is that of its sync cycle
  last-tick : running_of t ≡ true → ticks_at (prescaler_of t) (sync_of t cycle whole) ≡ whole.at
  unfolding sync_of whole start due
  last-tick r = cond-case (λ (k : ℕ). ticks_at (prescaler_of t) k ≡ whole.at) whole.paused stopped done
    where
      d : 0 < divisor_of t
      d = running-divides t r

      stopped : whole.paused ≡ true → ticks_at (prescaler_of t) (max t.clock.sync.0 (cycle_at (prescaler_of t) whole.at)) ≡ whole.at
      stopped e = tick-stopped (prescaler_of t) t.clock.sync.0 whole.at d v.origin tally.on

      done : whole.paused ≡ false → ticks_at (prescaler_of t) cycle ≡ whole.at
      done e =
          let g = ticks-goes (setting_of t) (prescaler_of t) fits (due t cycle) (start t) e in
          let s = v.sync in
          let m = ticks-mono (prescaler_of t) t.clock.sync.0 cycle d (omega arith) in
          let u : due t cycle ≡ ticks_at (prescaler_of t) cycle - ticks_at (prescaler_of t) t.clock.sync.0 = rw r in
          omega arith

  -- a run that has not stopped, or whose last tick is later, goes on; else its sync cycle stays
  sync-on : t.clock.sync.0 ≤ sync_of t cycle whole
  unfolding sync_of
  sync-on = let s = v.sync in cond-all (λ (k : ℕ). t.clock.sync.0 ≤ k) whole.paused (omega arith) (omega arith)

  none-idle : running_of t ≡ false → whole.at ≡ ticks_at (prescaler_of t) t.clock.sync.0
  unfolding whole start due ticks
  none-idle r = rw r

  spans : Spans t (passed t cycle whole)
  unfolding passed sync_to whole start setting_at wave_of
  spans =
      record {
        made = whole.at - ticks_at (prescaler_of t) t.clock.sync.0;
        worth = tally.worth;
        count = tally.count;
        odometer = tally.odometer;
        bytes = tally.bytes;
        sync = sync-on;
        ticks = λ r. (let a = last-tick r in let o = tally.on in omega arith);
        idle = λ r. (let a = none-idle r in omega arith);
        origin = refl;
        registers = refl;
        halts = refl;
        config = refl;
      }

-- no time at all
stays : (t : Timer) → Spans t (record { timer = t; bytes = []; paused = false })
stays t = record { made = 0; worth = 0; count = omega arith; odometer = omega arith; bytes = worth-none _; sync = omega arith; ticks = λ r. sym (add-zero _); idle = λ r. refl; origin = refl; registers = refl; halts = refl; config = refl }

pub before-spans : (t : Timer) (syncs : Bool) (cycle : ℕ) → Valid t → Normal t → t.clock.latest.0 ≤ cycle → Spans t (before ticks t syncs cycle)
unfolding before synced whole
before-spans t true cycle v n l = spans t cycle v n l (λ k. true)
before-spans t false cycle v n l = stays t

pub advance-spans : (t : Timer) (cycle room : ℕ) → Valid t → Normal t → t.clock.latest.0 ≤ cycle → Spans t (advanced ticks t cycle room)
unfolding advanced whole
advance-spans t cycle room v n l = spans t cycle v n l (λ k. leb k room)
