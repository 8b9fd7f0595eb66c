-- The sums close, call by call and over a list.
use Prim.Native.Nat.{ℕ, ◌+◌, ◌*◌, ◌/◌, ◌%◌, ◌≤◌, ◌^◌}
use native.Mathlib.Omega.{arith}
use native.Mathlib.Nat.{mul-add, mul-zero}
use mathlib.Core.Path.{◌≡◌, refl, subst, ◌∙◌}
use mathlib.Core.Bool.{false, true≢false}
use mathlib.Core.List.{List, [], ◌∷◌, ◌++◌}
use lib.Dec.{eqb}
use lib.ListN.{length, drop}
use Rattle.records.specs.Records.{records_of}
use Rattle.config.specs.declared.Config.{Config}
use Rattle.tick.proofs.Choices.{cond-all}
use Rattle.counter.specs.declared.state.Timer.{Timer}
use Rattle.counter.specs.Fresh.{fresh_of}
use Rattle.counter.specs.Halts.{latest_to, halting}
use Rattle.counter.specs.Modes.{mode_of, max_at}
use Rattle.counter.specs.Passage.{Passed, advanced}
use Rattle.counter.specs.Valid.{Valid}
use Rattle.counter.proofs.Keeps.{Lasts, fresh-is-valid}
use Rattle.passage.specs.Passage.{ticks}
use Rattle.answers.specs.Answers.{Told, given}
use Rattle.timer.specs.declared.calls.Call.{Call}
use Rattle.timer.specs.declared.calls.Call.TheVariants as call
use Rattle.timer.specs.Calls.{placed, output_captures, asks, works, says, before, moved}
use Rattle.timer.specs.Claims.{Request, told, outcomes, last, sets_count}
use Rattle.timer.proofs.Accepted.{Accepted, told-taken}
use Rattle.timer.proofs.Keeps.{call-keeps, last-valid}
use Rattle.timer.proofs.Timely.{Timely, timely}
use Rattle.account.specs.Account.{raisings, overflows, Normal, Counting, watch_of, ticks_made, Account}
use Rattle.account.specs.Watch.{Watch, made_at, hears, follows}
use Rattle.account.proofs.Records.{raisers, Worth, worth-then, worth-is}
use Rattle.account.proofs.Spans.{Spans, before-spans, advance-spans}
use Rattle.account.proofs.Works.{Agrees, made-on, made-here, Steps, quiet-steps, read-steps, captured-steps, route-steps, flag-steps, Written, write-steps, edge-steps, sleep-steps, wake-steps, reduce-steps, tsm-steps, prescale-steps}

-- ---- the call's own work, whatever the call
call-steps : (t x : Timer) (w : Watch) (k : Call) (cycle : ℕ) → Timely t x (asks t k).syncs cycle → Agrees w x → Normal x → sets_count t k ≡ false → Steps x.config w x (hears x.config w k cycle) (works x k cycle)
unfolding hears works asks halting sets_count Lasts Written
call-steps t x w call.Advance cycle v g n s = quiet-steps w x g
call-steps t x w call.Next cycle v g n s = quiet-steps w x g
call-steps t x w (call.Read address) cycle v g n s = read-steps w x g (placed x address)
call-steps t x w (call.Peek address) cycle v g n s = quiet-steps w x g
call-steps t x w (call.Write address value) cycle v g n s =
    write-steps w x g cycle value (placed x address) (rw v.config s) (λ h j. v.synced (let p = rw v.config at h in let q = rw v.config at j in simp (p, q)))
call-steps t x w call.Tifr cycle v g n s = quiet-steps w x g
call-steps t x w call.Timsk cycle v g n s = quiet-steps w x g
call-steps t x w (call.WriteTifr ones) cycle v g n s = flag-steps w x g _ _
call-steps t x w (call.WriteTimsk mask) cycle v g n s = flag-steps w x g _ _
call-steps t x w (call.Edge pin level) cycle v g n s = edge-steps w x g cycle pin level v.lasts.accepted n v.lasts.count
call-steps t x w (call.Output level) cycle v g n s = cond-all (Steps x.config w x w) (output_captures x level) (captured-steps w x g v.lasts.accepted) (quiet-steps w x g)
call-steps t x w (call.Route level) cycle v g n s = route-steps w x g (eqb level 1)
call-steps t x w (call.Sleep mode) cycle v g n s = sleep-steps w x g cycle mode (λ e. v.synced (rw v.config at e))
call-steps t x w call.Wake cycle v g n s = wake-steps w x g cycle
call-steps t x w (call.Reduce mask) cycle v g n s = reduce-steps w x g cycle mask (λ e. v.synced (rw (v.config, v.halts) at e))
call-steps t x w (call.Tsm level) cycle v g n s = tsm-steps w x g cycle level (λ e. v.synced (rw v.halts at e))
call-steps t x w (call.Prescale mask) cycle v g n s = prescale-steps w x g cycle mask (λ e. v.synced (rw v.config at e))
call-steps t x w call.Reset cycle v g n s = absurd (true≢false s)

-- ---- a call that is accepted
-- what it makes of the sums: so many ticks
record Sums (w : Watch) (t : Timer) (v : Watch) (x : Told) : Type 0 where
  made : ℕ
  told : made_at t.config v x.timer.clock.sync.0 ≡ made_at t.config w t.clock.sync.0 + made
  count : t.counter.count + made ≡ x.timer.counter.count + (max_at t.config.wide + 1) * raisings t.config.tov (x.written / 10) x.area
  odometer : x.timer.counter.odometer % 2 ^ 64 ≡ (t.counter.odometer + made) % 2 ^ 64
  agrees : Agrees v x.timer
  config : x.timer.config ≡ t.config

normal-on : (t : Timer) (x : Passed) → Spans t x → Normal t → Normal x.timer
unfolding mode_of
normal-on t x s n = rw (s.config, s.registers) n

module _ (t : Timer) (w : Watch) (v : Valid t) (g : Agrees w t) (n : Normal t) where
  -- time that passes keeps the clock's agreement
  agrees_on : (x : Passed) → Spans t x → Agrees w x.timer
  agrees_on x s =
      record {
        sync = (let a = g.sync in let b = s.sync in omega arith);
        origin = rw s.origin g.origin;
        select = rw s.registers g.select;
        asleep = rw s.halts g.asleep;
        since = rw s.halts g.since;
        reduced = rw s.halts g.reduced;
        tsm = rw s.halts g.tsm;
      }

  advance-sums : (cycle : ℕ) (area : List ℕ) → t.clock.latest.0 ≤ cycle → Sums w t w (moved (advanced ticks t cycle (length area)) area)
  unfolding moved
  advance-sums cycle area l =
      let x = advanced ticks t cycle (length area) in
      let s : Spans t x = advance-spans t cycle (length area) v n l in
      record {
        made = s.made;
        told = made-on w t g x s;
        count = rw (worth-is s.bytes (drop (length x.bytes) area)) s.count;
        odometer = s.odometer;
        agrees = agrees_on x s;
        config = s.config;
      }

  work-sums : (k : Call) (cycle : ℕ) (area : List ℕ) → Accepted t k cycle → sets_count t k ≡ false → let x = before ticks t (asks t k).syncs cycle in let y = works x.timer k cycle in
      Sums w t (hears t.config w k cycle) (given (latest_to y.timer cycle) (says x.timer k) (x.bytes ++ records_of cycle y.log) area)
  work-sums k cycle area a z =
      let x = before ticks t (asks t k).syncs cycle in
      let y = works x.timer k cycle in
      let s : Spans t x = before-spans t (asks t k).syncs cycle v n a.latest in
      let p : Steps x.timer.config w x.timer (hears x.timer.config w k cycle) y
      = call-steps t x.timer w k cycle (timely t (asks t k).syncs cycle v a.latest a.most) (agrees_on x s) (normal-on t x s n) z in
      let b : Worth t.config.tov (x.bytes ++ records_of cycle y.log) (s.worth + raisers t.config.tov y.log) = worth-then s.bytes cycle y.log in
      let m = made-on w t g x s in
      let i = s.count in
      let j : x.timer.counter.count + p.more ≡ y.timer.counter.count + (max_at t.config.wide + 1) * raisers t.config.tov y.log
      = subst (λ (d : Config). x.timer.counter.count + p.more ≡ y.timer.counter.count + (max_at d.wide + 1) * raisers d.tov y.log) s.config p.count in
      let h : made_at t.config (hears t.config w k cycle) y.timer.clock.sync.0 ≡ made_at t.config w x.timer.clock.sync.0 + p.more
      = subst (λ (d : Config). made_at d (hears d w k cycle) y.timer.clock.sync.0 ≡ made_at d w x.timer.clock.sync.0 + p.more) s.config p.made in
      let r : Agrees (hears t.config w k cycle) y.timer = subst (λ (d : Config). Agrees (hears d w k cycle) y.timer) s.config p.agrees in
      let o = s.odometer in
      let q = p.odometer in
      record {
        made = s.made + p.more;
        told = omega arith;
        count = rw (worth-is b (drop (length (x.bytes ++ records_of cycle y.log)) area), mul-add (max_at t.config.wide + 1) s.worth (raisers t.config.tov y.log)) (omega arith);
        odometer = omega arith;
        agrees = record { sync = r.sync; origin = r.origin; select = r.select; asleep = r.asleep; since = r.since; reduced = r.reduced; tsm = r.tsm };
        config = p.config ∙ s.config;
      }

  call-sums : (q : Request) → (told ticks t q).number ≡ 0 → sets_count t q.call ≡ false → Sums w t (hears t.config w q.call q.cycle) (told ticks t q)
  unfolding hears
  call-sums q k z =
      told-taken (Sums w t (hears t.config w q.call q.cycle)) t q
      (λ a e. rw e (advance-sums q.cycle q.area a.latest))
      (λ a. work-sums q.call q.cycle q.area a z) k

-- ---- a list of calls
record Total (w : Watch) (t : Timer) (qs : List Request) : Type 0 where
  made : ℕ
  told : made_at t.config (follows t.config w qs) (last ticks t qs).clock.sync.0 ≡ made_at t.config w t.clock.sync.0 + made
  count : t.counter.count + made ≡ (last ticks t qs).counter.count + (max_at t.config.wide + 1) * overflows t.config.tov (outcomes ticks t qs)
  odometer : (last ticks t qs).counter.odometer % 2 ^ 64 ≡ (t.counter.odometer + made) % 2 ^ 64

total : (t : Timer) (w : Watch) (qs : List Request) → Valid t → Agrees w t → Counting t qs → Total w t qs
unfolding follows last outcomes overflows
total t w [] v g h = record { made = 0; told = omega arith; count = rw (mul-zero (max_at t.config.wide + 1)) (omega arith); odometer = omega arith }
total t w (q ∷ qs) v g h =
    let a = call-sums t w v g h.0 q h.1 h.2 in
    let x = told ticks t q in
    let w₁ = hears t.config w q.call q.cycle in
    let i = total x.timer w₁ qs (call-keeps t q v) a.agrees h.3 in
    let j : made_at t.config (follows t.config w₁ qs) (last ticks x.timer qs).clock.sync.0 ≡ made_at t.config w₁ x.timer.clock.sync.0 + i.made
    = subst (λ (d : Config). made_at d (follows d w₁ qs) (last ticks x.timer qs).clock.sync.0 ≡ made_at d w₁ x.timer.clock.sync.0 + i.made) a.config i.told in
    let k : x.timer.counter.count + i.made ≡ (last ticks x.timer qs).counter.count + (max_at t.config.wide + 1) * overflows t.config.tov (outcomes ticks x.timer qs)
    = subst (λ (d : Config). x.timer.counter.count + i.made ≡ (last ticks x.timer qs).counter.count + (max_at d.wide + 1) * overflows d.tov (outcomes ticks x.timer qs)) a.config i.count in
    let b = a.told in
    let c = a.count in
    let o = a.odometer in
    let p = i.odometer in
    record {
      made = a.made + i.made;
      told = omega arith;
      count = rw (mul-add (max_at t.config.wide + 1) (raisings t.config.tov (x.written / 10) x.area) (overflows t.config.tov (outcomes ticks x.timer qs))) (omega arith);
      odometer = omega arith;
    }

-- the clock that a timer begins with agrees with it
begins : (t : Timer) → Agrees (watch_of t) t
begins t = record { sync = omega arith; origin = refl; select = refl; asleep = refl; since = refl; reduced = refl; tsm = refl }

pub account : Account
account c e ps qs h =
    let t = last ticks (fresh_of c) ps in
    let v = last-valid _ ps (fresh-is-valid c e) in
    let s = total t (watch_of t) qs v (begins t) h in
    let z = made-here t.config t.clock.sync.0 0 t.clock.origin.0 (t.registers.tccrb % 8) t.halts in
    let u = last-valid t qs v in
    let m = s.told in
    let k = s.count in
    let o = s.odometer in
    let l = u.odometer in
    let n : ticks_made t qs ≡ s.made = omega arith in
    record { count = rw n k; odometer = rw n (omega arith) }
