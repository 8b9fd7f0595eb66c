-- A call's own work on a timer in a normal mode, beside the clock that hears of it.
use Prim.Native.Nat.{ℕ, ◌+◌, ◌-◌, ◌*◌, ◌%◌, ◌≤◌, ◌^◌}
use native.Mathlib.Omega.{arith}
use native.Mathlib.Nat.{add-zero, mod-mod}
use mathlib.Core.Path.{◌≡◌, refl, sym, ap, ◌∙◌}
use mathlib.Core.Bool.{Bool, true, false, cond, not, ◌&&◌, ◌||◌, beq, and-false, true≢false, false≢true}
use lib.Bits.{bit_and, and_mod, and_mask}
use lib.Dec.{eqb, leb}
use borrow.Author.Tests.{eqb-true, eqb-false, ne_eqb, leb-true, lt-leb}
use Rattle.config.specs.declared.Config.{Config}
use Rattle.config.specs.Config.{split, accepted}
use Rattle.time.specs.declared.clock.Clock.{Clock}
use Rattle.time.specs.declared.halts.Halts.{Halts}
use Rattle.time.specs.Halts.{holding, wakened, hold_to}
use Rattle.time.specs.Units.{ticks_at}
use Rattle.time.proofs.Clocks.{ticks-mono}
use Rattle.wave.specs.declared.count.Counter.{Counter}
use Rattle.tick.proofs.Choices.{cond-case, cond-all}
use Rattle.counter.specs.declared.state.Timer.{Timer}
use Rattle.counter.specs.Capture.{capture, captured, ticks_on}
use Rattle.counter.specs.Halts.{halting, asleep_at, awake_at, reduced_to, prescaled_at, tsm_to, routed_to}
use Rattle.counter.specs.Logs.{Noted, silent, struck}
use Rattle.counter.specs.Modes.{max_at, falling, rising, clock_at, divisor_at, chosen, divisor_of, prescaler_of, held_of, running_of, wave_of, mode_of}
use Rattle.counter.specs.Parts.{flags_to}
use Rattle.counter.specs.Passage.{Passed, sync_to}
use Rattle.counter.specs.Registers.{temp_to, icr_to, compare_to, read_timer, commit, stored, configured, driven_by, driven, stored_b, written_a, written_b, written}
use Rattle.counter.specs.Setting.{setting_of, setting_at, moving_of}
use Rattle.counter.proofs.Clocks.{running-divides}
use Rattle.timer.specs.declared.calls.Call.TheVariants as call
use Rattle.timer.specs.Calls.{is_pin, edge_captures, edge_ticks, reduces, changes, prescales}
use Rattle.account.specs.Account.{Normal}
use Rattle.account.specs.Watch.{Watch, prescaler, runs, made_at, goes_on, names, selects, halts, strikes, hears}
use Rattle.account.proofs.Flags.{t-alone}
use Rattle.account.proofs.Records.{raisers}
use Rattle.account.proofs.Spans.{Spans, solo}
use Rattle.account.proofs.Ticks.{Mute, driven-mute, flags-worth, tick-worth, tick-counted, wraps}

-- ---- the clock stands as the timer's does, and has told the ticks up to a cycle that time has passed
pub record Agrees (w : Watch) (t : Timer) : Type 0 where
  pub sync : w.sync ≤ t.clock.sync.0
  pub origin : w.origin ≡ t.clock.origin.0
  pub select : w.select ≡ t.registers.tccrb % 8
  pub asleep : w.halts.asleep ≡ t.halts.asleep
  pub since : w.halts.since.0 ≡ t.halts.since.0
  pub reduced : w.halts.reduced ≡ t.halts.reduced
  pub tsm : w.halts.tsm ≡ t.halts.tsm

module _ (w : Watch) (t : Timer) (g : Agrees w t) where
  holds-alike : holding w.halts ≡ held_of t
  unfolding held_of
  holds-alike = rw (g.asleep, g.reduced, g.tsm)

  divides-alike : divisor_at t.config.clocks w.select ≡ divisor_of t
  unfolding divisor_of
  divides-alike = rw g.select

  runs-alike : runs t.config w ≡ running_of t
  unfolding running_of
  runs-alike = rw (holds-alike, divides-alike)

  prescaler-alike : prescaler t.config w ≡ prescaler_of t
  prescaler-alike = rw (g.origin, divides-alike)

  strikes-alike : (pin level : ℕ) → strikes t.config w pin level ≡ edge_ticks t pin level
  unfolding edge_ticks ticks_on
  strikes-alike pin level = rw (holds-alike, g.select)

  made-runs : (cycle : ℕ) → running_of t ≡ true → made_at t.config w cycle ≡ w.made + (ticks_at (prescaler_of t) cycle - ticks_at (prescaler_of t) w.sync)
  unfolding made_at
  made-runs cycle r = simp (runs-alike, r, prescaler-alike)

  made-idle : (cycle : ℕ) → running_of t ≡ false → made_at t.config w cycle ≡ w.made
  unfolding made_at
  made-idle cycle r = simp (runs-alike, r, add-zero)

  -- time that passes adds its ticks
  pub made-on : (x : Passed) (s : Spans t x) → made_at t.config w x.timer.clock.sync.0 ≡ made_at t.config w t.clock.sync.0 + s.made
  made-on x s = go (running_of t) refl
    where
      go : (b : Bool) → running_of t ≡ b → made_at t.config w x.timer.clock.sync.0 ≡ made_at t.config w t.clock.sync.0 + s.made
      go true r =
          let m = ticks-mono (prescaler_of t) w.sync t.clock.sync.0 (running-divides t r) g.sync in
          let k = s.ticks r in
          rw (made-runs x.timer.clock.sync.0 r, made-runs t.clock.sync.0 r) (omega arith)
      go false r = let k = s.idle r in rw (made-idle x.timer.clock.sync.0 r, made-idle t.clock.sync.0 r) (omega arith)

-- ticks told up to a cycle are those up to it
pub made-here : (c : Config) (cycle made origin select : ℕ) (h : Halts) → made_at c (goes_on cycle made origin select h) cycle ≡ made
unfolding made_at
made-here c cycle made origin select h = cond-all (λ (k : ℕ). made + k ≡ made) (runs c (goes_on cycle made origin select h)) (omega arith) (omega arith)

-- ---- what a call's own work makes of a timer and of the clock: ticks, and flag records that raise TOV
pub record Steps (c : Config) (w : Watch) (u : Timer) (v : Watch) (n : Noted) : Type 0 where
  pub more : ℕ
  pub count : u.counter.count + more ≡ n.timer.counter.count + (max_at u.config.wide + 1) * raisers u.config.tov n.log
  pub odometer : n.timer.counter.odometer % 2 ^ 64 ≡ (u.counter.odometer + more) % 2 ^ 64
  pub made : made_at c v n.timer.clock.sync.0 ≡ made_at c w u.clock.sync.0 + more
  pub agrees : Agrees v n.timer
  pub config : n.timer.config ≡ u.config

-- what the sums and the clock look at
record Face : Type 0 where
  counter : Counter
  clock : Clock
  tccrb : ℕ
  asleep : Bool
  since : ℕ
  reduced : Bool
  tsm : Bool
  config : Config

face : Timer → Face
face t = record { counter = t.counter; clock = t.clock; tccrb = t.registers.tccrb; asleep = t.halts.asleep; since = t.halts.since.0; reduced = t.halts.reduced; tsm = t.halts.tsm; config = t.config }

-- another timer that shows the same
Same : Timer → Timer → Type 0
Same u t = face t ≡ face u

-- work that makes no tick and leaves the clock
still : (c : Config) (w : Watch) (u : Timer) (n : Noted) → Agrees w u → Same u n.timer → raisers u.config.tov n.log ≡ 0 → Steps c w u w n
unfolding Same face
still c w u n g e l =
    let k : n.timer.clock ≡ u.clock = ap (λ (f : Face). f.clock) e in
    record {
      more = 0;
      count = (let z : n.timer.counter.count ≡ u.counter.count = ap (λ (f : Face). f.counter.count) e in rw (z, l) (omega arith));
      odometer = (let z : n.timer.counter.odometer ≡ u.counter.odometer = ap (λ (f : Face). f.counter.odometer) e in omega arith);
      made = rw k (sym (add-zero _));
      agrees = record {
        sync = rw k g.sync;
        origin = rw k g.origin;
        select = g.select ∙ ap (λ (f : Face). f.tccrb % 8) (sym e);
        asleep = g.asleep ∙ ap (λ (f : Face). f.asleep) (sym e);
        since = g.since ∙ ap (λ (f : Face). f.since) (sym e);
        reduced = g.reduced ∙ ap (λ (f : Face). f.reduced) (sym e);
        tsm = g.tsm ∙ ap (λ (f : Face). f.tsm) (sym e);
      };
      config = ap (λ (f : Face). f.config) e;
    }

-- a timer that reads, or takes a byte that is not TCNT's and has no clock select
module _ (u : Timer) where
  here : Same u u
  unfolding Same
  here = refl

  temp-same : (n : ℕ) → Same u (temp_to u n)
  unfolding Same face
  temp-same n = refl

  compare_same : (ch n : ℕ) → Same u (compare_to u ch n)
  unfolding Same face compare_to
  compare_same ch n = refl

  icr-same : (n : ℕ) → Same u (icr_to u n)
  unfolding Same face
  icr-same n = refl

  read_same : (place : ℕ) → Same u (read_timer u place)
  unfolding read_timer
  read_same place = cond-all (Same u) ((eqb place 0 || eqb place 8) && u.config.wide) (temp-same _) here

  commit-same : (place v : ℕ) → leb place 1 ≡ false → Same u (commit u place v)
  unfolding commit
  commit-same place v e =
      rw e
      (cond-all (Same u) (leb place 3) (compare_same 0 _) (cond-all (Same u) (leb place 5) (compare_same 1 _) (cond-all (Same u) (leb place 7) (compare_same 2 _) (icr-same _))))

-- a control register's low bits are the clock select
select-b : (wide : Bool) (v : ℕ) → cond wide (bit_and v 0xDF) (bit_and v 0x0F) % 8 ≡ v % 8
select-b true v = and_mod v 0xDF 3 ∙ (and_mask (v % 8) 3 ∙ mod-mod v 8)
select-b false v = and_mod v 0x0F 3 ∙ (and_mask (v % 8) 3 ∙ mod-mod v 8)

-- work at the call's cycle, up to which time has passed, that makes no tick and changes the clock
turned : (c : Config) (w : Watch) (u : Timer) (cycle origin select : ℕ) (h : Halts) (n : Noted) → u.clock.sync.0 ≡ cycle → n.timer.counter ≡ u.counter → raisers u.config.tov n.log ≡ 0
    → n.timer.clock.sync.0 ≡ cycle → Agrees (goes_on cycle (made_at c w cycle) origin select h) n.timer → n.timer.config ≡ u.config → Steps c w u (goes_on cycle (made_at c w cycle) origin select h) n
turned c w u cycle origin select h n s e l t a k =
    record { more = 0; count = rw (e, l) (omega arith); odometer = rw e (omega arith); made = rw (t, s) (made-here c cycle (made_at c w cycle) origin select h ∙ sym (add-zero _)); agrees = a; config = k }

-- drives and strobes raise no flag
driven-log : (flag : ℕ) (t : Timer) (again : Bool) (v : ℕ) → raisers flag (driven t again v).log ≡ 0
unfolding driven driven_by Mute raisers
driven-log flag t again v = driven-mute flag (setting_of t) _ again _

driven-same : (u t : Timer) (again : Bool) (v : ℕ) → Same u t → Same u (driven t again v).timer
unfolding Same face driven
driven-same u t again v e = e

-- nothing is done, and a capture
pub quiet-steps : (w : Watch) (u : Timer) → Agrees w u → Steps u.config w u w (silent u)
unfolding raisers
quiet-steps w u g = still u.config w u (silent u) g (here u) refl

pub read-steps : (w : Watch) (u : Timer) → Agrees w u → (place : ℕ) → Steps u.config w u w (silent (read_timer u place))
unfolding raisers
read-steps w u g place = still u.config w u _ g (read_same u place) refl

flag_same : (u : Timer) (tifr timsk : ℕ) → Same u (flags_to u tifr timsk)
unfolding Same face
flag_same u tifr timsk = refl

pub flag-steps : (w : Watch) (u : Timer) → Agrees w u → (tifr timsk : ℕ) → Steps u.config w u w (silent (flags_to u tifr timsk))
unfolding raisers
flag-steps w u g tifr timsk = still u.config w u _ g (flag_same u tifr timsk) refl

route-same : (u : Timer) (on : Bool) → Same u (routed_to u on)
unfolding Same face routed_to
route-same u on = refl

pub route-steps : (w : Watch) (u : Timer) → Agrees w u → (on : Bool) → Steps u.config w u w (silent (cond u.config.icr.present (routed_to u on) u))
unfolding raisers
route-steps w u g on = still u.config w u _ g (cond-all (Same u) u.config.icr.present (route-same u on) (here u)) refl

captured-same : (u : Timer) → Same u (captured u).timer
unfolding Same face captured
captured-same u = refl

captured-log : (u : Timer) → accepted u.config ≡ true → raisers u.config.tov (captured u).log ≡ 0
unfolding captured setting_at
captured-log u a = flags-worth (setting_of u) (solo u a) capture _

pub captured-steps : (w : Watch) (u : Timer) → Agrees w u → accepted u.config ≡ true → Steps u.config w u w (captured u)
captured-steps w u g a = still u.config w u (captured u) g (captured-same u) (captured-log u a)

-- ---- registers
module _ (w : Watch) (u : Timer) (g : Agrees w u) (cycle value : ℕ) where
  abbrev pub chosen_to : Watch
  chosen_to = goes_on cycle (made_at u.config w cycle) w.origin (value % 8) w.halts

  unfoldable pub Written : ℕ → Noted → Type 0
  Written place n = Steps u.config w u (cond (selects u.config place) chosen_to w) n

  plain : (place : ℕ) (n : Noted) → selects u.config place ≡ false → Same u n.timer → raisers u.config.tov n.log ≡ 0 → Written place n
  unfolding Written
  plain place n e s l = rw e (still _ w u n g s l)

  -- a control write with the clock select, at its cycle
  control : (place : ℕ) (a b : ℕ) (again : Bool) (v : ℕ) → selects u.config place ≡ true → u.clock.sync.0 ≡ cycle → b % 8 ≡ value % 8
      → Written place (driven (configured u a b) again v)
  unfolding Written configured stored driven
  control place a b again v e s k =
      rw e
      (turned _ w u cycle w.origin (value % 8) w.halts _ s refl (driven-log u.config.tov (configured u a b) again v) s
      (record { sync = rw s (omega arith); origin = g.origin; select = sym k; asleep = g.asleep; since = g.since; reduced = g.reduced; tsm = g.tsm }) refl)

  -- a control register without it
  mode-same : (a b : ℕ) → b ≡ u.registers.tccrb → Same u (configured u a b)
  unfolding Same face configured stored
  mode-same a b e = rw e

  low-written : (place : ℕ) → leb place 9 ≡ true → eqb place 0 ≡ false → Written place (silent (cond (eqb (place % 2) 1) (temp_to u (value % 256)) (commit u place (value % 256))))
  unfolding raisers
  low-written place e z =
      let h = leb-true place 9 e in
      plain place _ (simp (ne_eqb place 11 (omega arith), ne_eqb place 10 (omega arith)))
      (cond-case (Same u) (eqb (place % 2) 1) (λ o. temp-same u _) (λ o. commit-same u place _ (lt-leb place 1 (omega (arith, eqb-false place 0 z, eqb-false (place % 2) 1 o))))) refl

  a-written : (place : ℕ) → eqb place 10 ≡ true → (leb place 9 ≡ false → u.clock.sync.0 ≡ cycle) → Written place (written_a u (value % 256))
  unfolding written_a
  a-written place e s = go (split u.config.layout) refl
    where
      p : place ≡ 10
      p = eqb-true place 10 e

      go : (b : Bool) → split u.config.layout ≡ b → Written place (written_a u (value % 256))
      go true d = plain place _ (rw (p, d)) (driven-same u _ true _ (mode-same _ _ (rw d))) (driven-log _ _ true _)
      go false d = control place _ _ true _ (rw (p, d)) (s (rw p)) (rw d (omega arith))

  b-written : (place : ℕ) → eqb place 11 ≡ true → (leb place 9 ≡ false → u.clock.sync.0 ≡ cycle) → Written place (written_b u (value % 256))
  unfolding written_b stored_b
  b-written place e s =
      let p : place ≡ 11 = eqb-true place 11 e in
      control place _ _ true _ (rw e) (s (rw p)) (select-b u.config.wide (value % 256) ∙ omega arith)

  pub write-steps : (place : ℕ) → eqb place 0 ≡ false → (leb place 9 ≡ false → eqb place 12 ≡ false → u.clock.sync.0 ≡ cycle) → Written place (written u place (value % 256))
  unfolding written
  write-steps place z s =
      cond-case (Written place) (leb place 9) (λ e. low-written place e z)
      (λ e. cond-case (Written place) (eqb place 10) (λ a. a-written place a (λ n. s n (rw (eqb-true place 10 a))))
      (λ a. cond-case (Written place) (eqb place 11) (λ b. b-written place b (λ n. s n (rw (eqb-true place 11 b))))
      (λ b. plain place _ (rw (b, a)) (driven-same u u false _ (here u)) (driven-log _ u false _))))

-- ---- the T pin: a chosen edge's clock has no divisor
chosen-idle : (clocks select level : ℕ) → chosen clocks select level ≡ true → divisor_at clocks select ≡ 0
unfolding chosen divisor_at
chosen-idle clocks select level h = go (leb (clock_at clocks select) 1024) refl
  where
    go : (b : Bool) → leb (clock_at clocks select) 1024 ≡ b → cond b (clock_at clocks select) 0 ≡ 0
    go true e =
        let l = leb-true (clock_at clocks select) 1024 e in
        absurd (false≢true (simp (ne_eqb (clock_at clocks select) falling (λ z. omega arith), ne_eqb (clock_at clocks select) rising (λ z. omega arith)) at h))
    go false e = refl

and_first : (a b : Bool) → a && b ≡ true → a ≡ true
and_first true b e = refl
and_first false b e = e

and_second : (a b : Bool) → a && b ≡ true → b ≡ true
and_second true b e = e
and_second false b e = absurd (false≢true e)

module _ (w : Watch) (u : Timer) (g : Agrees w u) (cycle pin level : ℕ) where
  struck_to : Watch
  struck_to = goes_on cycle (made_at u.config w cycle + 1) w.origin w.select w.halts

  edge-idle : edge_ticks u pin level ≡ true → running_of u ≡ false
  unfolding edge_ticks ticks_on running_of divisor_of
  edge-idle e =
      let z : divisor_at u.config.clocks (u.registers.tccrb % 8) ≡ 0 = chosen-idle _ _ level (and_first _ _ (and_second (is_pin u.config.t pin) _ e)) in
      rw z

  not-both : accepted u.config ≡ true → edge_captures u pin level ≡ true → edge_ticks u pin level ≡ true → ⊥
  unfolding edge_captures edge_ticks
  not-both a c e =
      let t = t-alone u.config a pin (and_first (is_pin u.config.t pin) _ e) in
      let i : is_pin u.config.icr.wire pin ≡ true = and_first _ _ (and_first (is_pin u.config.icr.wire pin && not u.halts.routed) _ c) in
      true≢false (sym i ∙ t)

  struck-steps : accepted u.config ≡ true → Normal u → u.counter.count ≤ max_at u.config.wide → edge_ticks u pin level ≡ true → Steps u.config w u struck_to (struck (sync_to u cycle))
  unfolding struck sync_to setting_at wave_of mode_of struck_to
  struck-steps a n l e =
      let y : Timer = sync_to u cycle in
      let s = solo y a in
      let k = wraps (setting_of y) s n (moving_of y) _ l refl in
      let i = edge-idle e in
      record {
        more = 1;
        count = rw (tick-worth (setting_of y) s n (moving_of y)) k;
        odometer = (let o = tick-counted (setting_of y) (moving_of y) in omega arith);
        made = made-here u.config cycle _ _ _ _ ∙ rw (made-idle w u g cycle i, made-idle w u g u.clock.sync.0 i);
        agrees = record { sync = omega arith; origin = g.origin; select = g.select; asleep = g.asleep; since = g.since; reduced = g.reduced; tsm = g.tsm };
        config = refl;
      }

  Struck : Noted → Type 0
  Struck n = Steps u.config w u (cond (strikes u.config w pin level) struck_to w) n

  pub edge-steps : accepted u.config ≡ true → Normal u → u.counter.count ≤ max_at u.config.wide
      → Steps u.config w u (cond (strikes u.config w pin level) (goes_on cycle (made_at u.config w cycle + 1) w.origin w.select w.halts) w)
      (cond (edge_captures u pin level) (captured u) (cond (edge_ticks u pin level) (struck (sync_to u cycle)) (silent u)))
  unfolding Struck struck_to
  edge-steps a n l =
      cond-case Struck (edge_captures u pin level)
      (λ c. go (edge_ticks u pin level) refl c)
      (λ c. cond-case Struck (edge_ticks u pin level) (λ e. rw (strikes-alike w u g pin level, e) (struck-steps a n l e)) (λ e. rw (strikes-alike w u g pin level, e) (quiet-steps w u g)))
    where
      go : (b : Bool) → edge_ticks u pin level ≡ b → edge_captures u pin level ≡ true → Struck (captured u)
      go true e c = absurd (not-both a c e)
      go false e c = rw (strikes-alike w u g pin level, e) (captured-steps w u g a)

-- ---- halts and the prescaler
not_same : (a b : Bool) → not (beq a b) ≡ false → a ≡ b
not_same true true e = refl
not_same true false e = absurd (true≢false e)
not_same false true e = absurd (true≢false e)
not_same false false e = refl

-- a choice that the clock and the timer make alike
both : (Q : Watch → Timer → Type 0) (a b : Bool) {v w : Watch} {t u : Timer} → a ≡ b → (b ≡ true → Q v t) → (b ≡ false → Q w u) → Q (cond a v w) (cond b t u)
both Q true true e h k = h refl
both Q true false e h k = absurd (true≢false e)
both Q false true e h k = absurd (false≢true e)
both Q false false e h k = k refl

module _ (w : Watch) (u : Timer) (g : Agrees w u) (cycle : ℕ) where
  Heard : Watch → Timer → Type 0
  Heard v t = Steps u.config w u v (silent t)

  -- at the call's cycle, other halts and another origin
  moved : (origin : ℕ) (h : Halts) (t : Timer) → u.clock.sync.0 ≡ cycle → t.counter ≡ u.counter → t.config ≡ u.config → t.registers.tccrb ≡ u.registers.tccrb → t.clock.sync.0 ≡ u.clock.sync.0
      → origin ≡ t.clock.origin.0 → h.asleep ≡ t.halts.asleep → h.since.0 ≡ t.halts.since.0 → h.reduced ≡ t.halts.reduced → h.tsm ≡ t.halts.tsm
      → Heard (goes_on cycle (made_at u.config w cycle) origin w.select h) t
  unfolding Heard raisers
  moved origin h t k ec ef er es eo ea ei ed et =
      turned u.config w u cycle origin w.select h (silent t) k ec refl (es ∙ k)
      (record { sync = rw (es, k) (omega arith); origin = eo; select = g.select ∙ ap (λ (n : ℕ). n % 8) (sym er); asleep = ea; since = ei; reduced = ed; tsm = et }) ef

  pub sleep-steps : (mode : ℕ) → (halting u mode ≡ true → u.clock.sync.0 ≡ cycle)
      → Steps u.config w u (hears u.config w (call.Sleep mode) cycle) (silent (cond (halting u mode) (asleep_at u cycle) u))
  unfolding Heard hears halting asleep_at
  sleep-steps mode s =
      both Heard (halts u.config mode) (halting u mode) refl (λ e. moved _ _ _ (s e) refl refl refl refl g.origin refl refl g.reduced g.tsm) (λ e. quiet-steps w u g)

  held-idle : u.halts.asleep ≡ true → running_of u ≡ false
  unfolding running_of held_of
  held-idle e = simp (e, and-false)

  woken : u.halts.asleep ≡ true → Heard (goes_on cycle w.made (w.origin + (cycle - w.halts.since.0)) w.select (wakened w.halts)) (awake_at u cycle)
  unfolding Heard awake_at raisers
  woken e =
      record {
        more = 0;
        count = omega arith;
        odometer = omega arith;
        made = made-here u.config cycle w.made _ _ _ ∙ (sym (made-idle w u g u.clock.sync.0 (held-idle e)) ∙ sym (add-zero _));
        agrees = record { sync = omega arith; origin = rw (g.origin, g.since); select = g.select; asleep = refl; since = g.since; reduced = g.reduced; tsm = g.tsm };
        config = refl;
      }

  pub wake-steps : Steps u.config w u (hears u.config w call.Wake cycle) (silent (cond u.halts.asleep (awake_at u cycle) u))
  unfolding Heard hears
  wake-steps = both Heard w.halts.asleep u.halts.asleep g.asleep woken (λ e. quiet-steps w u g)

  reduced-same : (mask : ℕ) → reduces u mask ≡ u.halts.reduced → Heard w (reduced_to u (reduces u mask))
  unfolding Heard reduced_to raisers
  reduced-same mask q =
      record {
        more = 0;
        count = omega arith;
        odometer = omega arith;
        made = sym (add-zero _);
        agrees = record { sync = g.sync; origin = g.origin; select = g.select; asleep = g.asleep; since = g.since; reduced = g.reduced ∙ sym q; tsm = g.tsm };
        config = refl;
      }

  pub reduce-steps : (mask : ℕ) → (not (beq (reduces u mask) u.halts.reduced) ≡ true → u.clock.sync.0 ≡ cycle)
      → Steps u.config w u (hears u.config w (call.Reduce mask) cycle) (silent (reduced_to u (reduces u mask)))
  unfolding Heard hears reduced_to
  reduce-steps mask s =
      let a : not (beq (reduces u mask) w.halts.reduced) ≡ not (beq (reduces u mask) u.halts.reduced) = ap (λ (b : Bool). not (beq (reduces u mask) b)) g.reduced in
      cond-case (λ (v : Watch). Heard v (reduced_to u (reduces u mask))) (not (beq (reduces u mask) w.halts.reduced))
      (λ e. moved _ _ _ (s (sym a ∙ e)) refl refl refl refl g.origin g.asleep g.since refl g.tsm)
      (λ e. reduced-same mask (not_same _ _ (sym a ∙ e)))

  held_on : (on : Bool) → u.clock.sync.0 ≡ cycle → Heard (goes_on cycle (made_at u.config w cycle) (cond on w.origin cycle) w.select (hold_to w.halts on)) (tsm_to u on cycle)
  unfolding tsm_to
  held_on true k = moved _ _ _ k refl refl refl refl g.origin g.asleep g.since g.reduced refl
  held_on false k = moved _ _ _ k refl refl refl refl refl g.asleep g.since g.reduced refl

  pub tsm-steps : (level : ℕ) → (changes u level ≡ true → u.clock.sync.0 ≡ cycle)
      → Steps u.config w u (hears u.config w (call.Tsm level) cycle) (silent (cond (changes u level) (tsm_to u (eqb level 1) cycle) u))
  unfolding Heard hears
  tsm-steps level s = both Heard _ (changes u level) (ap (λ (b : Bool). not (beq (eqb level 1) b)) g.tsm) (λ e. held_on (eqb level 1) (s e)) (λ e. quiet-steps w u g)

  pub prescale-steps : (mask : ℕ) → (prescales u mask ≡ true → u.clock.sync.0 ≡ cycle)
      → Steps u.config w u (hears u.config w (call.Prescale mask) cycle) (silent (cond (prescales u mask) (prescaled_at u cycle) u))
  unfolding Heard hears prescaled_at
  prescale-steps mask s =
      both Heard (names mask u.config.group) (prescales u mask) refl (λ e. moved _ _ _ (s e) refl refl refl refl refl g.asleep g.since g.reduced g.tsm) (λ e. quiet-steps w u g)
