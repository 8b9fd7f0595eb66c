-- What the calls answer, over plain values: turned away, done, filed with its records, advanced.
use Prim.Native.Nat.{ℕ, zero, suc, ◌+◌, ◌-◌, ◌%◌, ◌≤◌, ◌<◌, ◌^◌}
use native.Mathlib.Omega.{arith}
use native.Mathlib.Nat.{mod-eq_of_lt}
use mathlib.Core.Path.{◌≡◌, refl, sym, ap, ◌∙◌}
use mathlib.Core.Bool.{Bool, true, false, cond, not, ◌&&◌, ◌||◌, beq}
use mathlib.Core.List.{List, [], ◌++◌}
use lib.Dec.{eqb, leb, ltb, leb-zero, eqb-suc-zero}
use lib.ListN.{length, drop}
use borrow.Author.Tests.{ne_eqb, leb-false, ltb-false}
use Rattle.records.specs.Records.{records_of}
use Rattle.counter.specs.declared.advance.Advanced.{Advanced}
use Rattle.counter.specs.declared.advance.Logged.{Logged}
use Rattle.counter.specs.declared.state.Timer.{Timer}
use Rattle.counter.specs.Capture.{captures}
use Rattle.wave.specs.Distance.{gap}
use Rattle.counter.specs.Next.{next_at, next_flags}
use Rattle.counter.specs.Halts.{latest_to, halting, asleep_at, awake_at, reduced_to, prescaled_at, tsm_to, routed_to}
use Rattle.counter.specs.Logs.{Noted, silent, Logs}
use Rattle.counter.specs.Modes.{mode_of, wave_of}
use Rattle.passage.specs.Passage.{ticks}
use Rattle.counter.specs.Passage.{due, synced, passed, sync_to, advanced, Advances}
use Rattle.counter.specs.Registers.{written}
use Rattle.counter.specs.Valid.{Valid}
use Rattle.counter.proofs.Clocks.{due-gap}
use Rattle.answers.specs.declared.Answer.{Answer}
use Rattle.answers.specs.declared.Answer.TheVariants as answer
use Rattle.answers.specs.declared.Outcome.{Outcome}
use Rattle.timer.specs.declared.calls.Call.{Call}
use Rattle.timer.specs.declared.calls.Call.TheVariants as call
use Rattle.answers.specs.Answers.{Told, none, fitted, number_of, values_of, Tells, Filed}
use Rattle.answers.specs.Refusals.{is_due, late, refusal}
use Rattle.timer.specs.Calls.{placed, reduces, changes, prescales, edge_captures, output_captures, asks, works, says, before, worked, moved, performed, refusal_of, answered}
use Rattle.timer.proofs.Accepted.{call-accepted}
use Rattle.timer.proofs.Keeps.{call-keeps}

-- ---- tests
pub or_left : (a b : Bool) → a || b ≡ false → a ≡ false
or_left true b e = e
or_left false b e = refl

-- the choice that a test makes
is-first : {A : Type 0} (b : Bool) (x y : A) → b ≡ true → x ≡ cond b x y
is-first b x y e = rw e

is-second : {A : Type 0} (b : Bool) (x y : A) → b ≡ false → y ≡ cond b x y
is-second b x y e = rw e

-- ---- refusals

-- a call that is tested for its cycle alone is turned away by that
pub late-alone : (t : Timer) (cycle : ℕ) → refusal t cycle false false false false ≡ late t cycle
unfolding refusal
late-alone t cycle = go (late t cycle)
  where
    go : (n : ℕ) → cond (not (eqb n 0)) n 0 ≡ n
    go zero = refl
    go (suc n) = rw (eqb-suc-zero n)

-- a call accepted that may not pass the next event has no event due: time passes in one step
pub sync-asked : (t : Timer) (c : Call) (cycle : ℕ) → Valid t → refusal_of t c cycle ≡ 0 → (asks t c).tested ≡ true
    → (Valid t) × (t.clock.latest.0 ≤ cycle) × (cycle < 2 ^ 62) × (due t cycle ≤ gap (wave_of t (mode_of t)) t.counter t.ocr)
unfolding is_due
sync-asked t c cycle v e y =
    let a = call-accepted t c cycle e in
    let d : is_due t cycle ≡ false = rw y at a.early in
    (v, a.latest, a.most, due-gap t cycle v (let s = v.sync in let l = a.latest in omega arith) (λ r. leb-false (next_at t) cycle (rw r at d)))

-- a sleep mode over 7 is wrong, whatever its low bits
pub sleep-number : (t : Timer) (mode cycle : ℕ) {n : ℕ} → n ≡ refusal t cycle false (ltb 7 mode) true (t.halts.asleep && halting t (mode % 8))
    → n ≡ refusal_of t (call.Sleep mode) cycle
unfolding refusal_of asks refusal
sleep-number t mode cycle {n} h = go (ltb 7 mode) refl h
  where
    go : (b : Bool) → ltb 7 mode ≡ b → n ≡ refusal t cycle false b true (t.halts.asleep && halting t (mode % 8))
        → n ≡ refusal t cycle false b true (t.halts.asleep && halting t mode)
    go true e k = k
    go false e k = rw (mod-eq_of_lt {n = mode} {m = 8} (let l = ltb-false 7 mode e in omega arith)) at k

pub sleep-mode : (t : Timer) (mode cycle : ℕ) → refusal_of t (call.Sleep mode) cycle ≡ 0 → mode % 8 ≡ mode
unfolding asks
sleep-mode t mode cycle e = mod-eq_of_lt (let l = ltb-false 7 mode (call-accepted t (call.Sleep mode) cycle e).right in omega arith)

-- what an edge's tick and a wake ask
pub tick-asked : (t : Timer) (c : Call) (cycle : ℕ) {u : Timer} → Valid t → refusal_of t c cycle ≡ 0 → u ≡ sync_to t cycle → Valid u
unfolding sync_to
tick-asked t c cycle v e q =
    let a = call-accepted t c cycle e in
    let o = v.origin in
    let s = v.sync in
    let l = a.latest in
    let m = a.most in
    rw q
    (record {
      accepted = v.accepted;
      count = v.count;
      turns = v.turns;
      odometer = v.odometer;
      compares = v.compares;
      buffers = v.buffers;
      icr = v.icr;
      temp = v.temp;
      origin = omega arith;
      sync = omega arith;
      latest = omega arith;
      slept = λ z. ((v.slept z).0, (let k = (v.slept z).1 in omega arith));
    })

pub wake-asked : (t : Timer) (c : Call) (cycle : ℕ) → Valid t → refusal_of t c cycle ≡ 0 → t.halts.asleep ≡ true
    → (t.halts.since.0 ≤ cycle) × (t.clock.origin.0 + (cycle - t.halts.since.0) < 2 ^ 64)
wake-asked t c cycle v e z =
    let a = call-accepted t c cycle e in
    let o = (v.slept z).0 in
    let k = (v.slept z).1 in
    let l = a.latest in
    let m = a.most in
    (omega arith, omega arith)

-- ---- time passes: configuration, registers and halts stay
pub record Kept (t x : Timer) : Type 0 where
  pub config : x.config ≡ t.config
  pub registers : x.registers ≡ t.registers
  pub halts : x.halts ≡ t.halts

pub kept : (t : Timer) (cycle : ℕ) {x : Timer} → (x ≡ (synced ticks t cycle).timer) × ((synced ticks t cycle).bytes ≡ []) × (Valid x) → Kept t x
unfolding synced passed sync_to
kept t cycle p = record { config = rw p.0; registers = rw p.0; halts = rw p.0 }

-- so the tests of a call stay
module _ {t x : Timer} (k : Kept t x) where
  pub same_place : (address : ℕ) {place : ℕ} → place ≡ placed t address → place ≡ placed x address
  same_place address e = e ∙ rw k.config

  pub same-edge : (pin level : ℕ) → edge_captures x pin level ≡ edge_captures t pin level
  unfolding edge_captures captures mode_of
  same-edge pin level = rw (k.config, k.registers, k.halts)

  pub same-output : (level : ℕ) → output_captures x level ≡ output_captures t level
  unfolding output_captures captures mode_of
  same-output level = rw (k.config, k.registers, k.halts)

-- ---- answers
module _ (t : Timer) (c : Call) (cycle : ℕ) (area : List ℕ) where
  -- an outcome that is the definition's; the timer is valid since calls keep it so
  told_is : {x : Told} {r : Outcome} {after : List ℕ} → Valid t → answered ticks t c cycle area ≡ x → r.timer ≡ x.timer → number_of r.answer ≡ x.number
      → values_of r.answer ≡ x.values → r.written ≡ x.written → after ≡ x.area → Tells (answered ticks t c cycle area) r after
  told_is {r = r} v e m n u w a =
      let k = call-keeps t (record { call = c; cycle = cycle; area = area }) v in
      let z : r.timer ≡ (answered ticks t c cycle area).timer = m ∙ sym (ap (λ (y : Told). y.timer) e) in
      record {
        timer = z;
        number = n ∙ sym (ap (λ (y : Told). y.number) e);
        values = u ∙ sym (ap (λ (y : Told). y.values) e);
        written = w ∙ sym (ap (λ (y : Told). y.written) e);
        area = a ∙ sym (ap (λ (y : Told). y.area) e);
        valid = rw z k;
      }

  -- turned away
  pub turned-away : {n : ℕ} {r : Outcome} → Valid t → n ≡ refusal_of t c cycle → (n ≡ 0 → ⊥)
      → r ≡ record { answer = answer.Refused n; timer = t; written = 0 } → Tells (answered ticks t c cycle area) r area
  unfolding answered
  turned-away {n} v e h q = rw q (told_is v (simp (← e, ne_eqb n 0 h)) refl refl refl refl refl)

  -- the call is accepted, and x is the timer whose time has passed, without a record
  pub record Ready (x : Timer) : Type 0 where
    pub valid : Valid t
    pub refusal : refusal_of t c cycle ≡ 0
    pub advances : (asks t c).advances ≡ false
    pub timer : (before ticks t (asks t c).syncs cycle).timer ≡ x
    pub bytes : (before ticks t (asks t c).syncs cycle).bytes ≡ []

  -- no time passes before the call's work
  pub at_once : {n : ℕ} → Valid t → n ≡ refusal_of t c cycle → n ≡ 0 → (asks t c).advances ≡ false → (asks t c).syncs ≡ false → Ready t
  unfolding before
  at_once v e z a s = record { valid = v; refusal = sym e ∙ z; advances = a; timer = rw s; bytes = rw s }

  -- or it does
  pub in-time : {n : ℕ} {x : Timer} → Valid t → n ≡ refusal_of t c cycle → n ≡ 0 → (asks t c).advances ≡ false → (asks t c).syncs ≡ true
      → (x ≡ (synced ticks t cycle).timer) × ((synced ticks t cycle).bytes ≡ []) × (Valid x) → Ready x
  unfolding before
  in-time v e z a s p = record { valid = v; refusal = sym e ∙ z; advances = a; timer = rw s (sym p.0); bytes = rw s p.1 }

  module _ {x : Timer} (y : Ready x) where
    worked-is : answered ticks t c cycle area
        ≡ fitted t (latest_to (works x c cycle).timer cycle) (says x c) (records_of cycle (works x c cycle).log) area
    unfolding answered performed worked
    worked-is = simp (y.refusal, y.advances, y.bytes, y.timer)

    -- done without a record
    pub plainly : (u : Timer) {a : Answer} {r : Outcome} → u ≡ (works x c cycle).timer → (works x c cycle).log ≡ [] → values_of a ≡ says x c → number_of a ≡ 0
        → r ≡ record { answer = a; timer = latest_to u cycle; written = 0 } → Tells (answered ticks t c cycle area) r area
    unfolding records_of
    plainly u w l s n q = rw q (told_is y.valid (worked-is ∙ simp (l, leb-zero)) (ap (λ (z : Timer). latest_to z cycle) w) n s refl refl)

    -- accepted if its records fit, else refused with 8
    pub filed : {l : Logged} {r : Outcome} {after : List ℕ} → Logs (works x c cycle) cycle l → says x c ≡ none → Filed t l cycle area r after
        → Tells (answered ticks t c cycle area) r after
    filed {l} {r} {after} g s f = go (leb l.log.len (length area)) refl
      where
        size : length (records_of cycle (works x c cycle).log) ≡ l.log.len
        size = sym (ap length g.bytes) ∙ g.size

        go : (b : Bool) → leb l.log.len (length area) ≡ b → Tells (answered ticks t c cycle area) r after
        go true e =
            let q : r ≡ record { answer = answer.Done; timer = latest_to l.timer cycle; written = l.log.len } = rw e at f.outcome in
            let a : after ≡ records_of cycle (works x c cycle).log ++ drop l.log.len area = rw (e, g.bytes) at f.area in
            rw q (told_is y.valid (worked-is ∙ simp (size, e)) (ap (λ (u : Timer). latest_to u cycle) g.timer) refl (sym s) refl a)
        go false e =
            let q : r ≡ record { answer = answer.Refused 8; timer = t; written = 0 } = rw e at f.outcome in
            rw q (told_is y.valid (worked-is ∙ simp (size, e)) refl refl refl refl (rw e at f.area))

-- ---- the calls' own work, where it is done and where it is not
module _ (t : Timer) (cycle : ℕ) where
  pub routes : (level : ℕ) {u : Timer} → t.config.icr.present ≡ true → u ≡ routed_to t (eqb level 1) → u ≡ (works t (call.Route level) cycle).timer
  unfolding works
  routes level e h = h ∙ is-first t.config.icr.present _ _ e

  pub routes-not : (level : ℕ) → t.config.icr.present ≡ false → t ≡ (works t (call.Route level) cycle).timer
  unfolding works
  routes-not level e = is-second t.config.icr.present _ _ e

  pub wakes : {u : Timer} → t.halts.asleep ≡ true → u ≡ awake_at t cycle → u ≡ (works t call.Wake cycle).timer
  unfolding works
  wakes e h = h ∙ is-first t.halts.asleep _ _ e

  pub wakes-not : t.halts.asleep ≡ false → t ≡ (works t call.Wake cycle).timer
  unfolding works
  wakes-not e = is-second t.halts.asleep _ _ e

-- ---- a call that turns something in the timer, or finds it so: time passes where it turns
pub record Turning (t : Timer) (c : Call) (cycle : ℕ) (turns : Bool) (made : Timer → Timer) : Type 0 where
  pub tested : (asks t c).tested ≡ true
  pub advances : (asks t c).advances ≡ false
  pub syncs : (asks t c).syncs ≡ turns
  pub works : {x : Timer} → Kept t x → works x c cycle ≡ silent (cond turns (made x) x)
  pub says : (x : Timer) → says x c ≡ none

module _ (t : Timer) (cycle : ℕ) where
  pub sleeping : (mode : ℕ) → Turning t (call.Sleep mode) cycle (halting t mode) (λ x. asleep_at x cycle)
  unfolding asks works says halting
  sleeping mode = record { tested = refl; advances = refl; syncs = refl; works = λ k. rw k.config; says = λ x. refl }

  pub reducing : (mask : ℕ) → Turning t (call.Reduce mask) cycle (not (beq (reduces t mask) t.halts.reduced)) (λ x. reduced_to x (reduces t mask))
  unfolding asks works says reduced_to
  reducing mask =
      record {
        tested = refl;
        advances = refl;
        syncs = refl;
        works = λ {x} k. let r : reduces x mask ≡ reduces t mask = rw k.config in ap silent (ap (reduced_to x) r ∙ so x (reduces t mask) k.halts);
        says = λ x. refl;
      }
    where
      so : (x : Timer) (on : Bool) → x.halts ≡ t.halts → reduced_to x on ≡ cond (not (beq on t.halts.reduced)) (reduced_to x on) x
      so x on e = rw (← e) (go on x.halts.reduced refl)
        where
          go : (a b : Bool) → x.halts.reduced ≡ b → reduced_to x a ≡ cond (not (beq a b)) (reduced_to x a) x
          go true true e = rw (← e)
          go true false e = refl
          go false true e = refl
          go false false e = rw (← e)

  pub changing : (level : ℕ) → Turning t (call.Tsm level) cycle (changes t level) (λ x. tsm_to x (eqb level 1) cycle)
  unfolding asks works says
  changing level = record { tested = refl; advances = refl; syncs = refl; works = λ k. rw k.halts; says = λ x. refl }

  pub prescaling : (mask : ℕ) → Turning t (call.Prescale mask) cycle (prescales t mask) (λ x. prescaled_at x cycle)
  unfolding asks works says
  prescaling mask = record { tested = refl; advances = refl; syncs = refl; works = λ k. rw k.config; says = λ x. refl }

module _ {t : Timer} {c : Call} {cycle : ℕ} {turns : Bool} {made : Timer → Timer} (g : Turning t c cycle turns made) where
  unmoved : turns ≡ false → works t c cycle ≡ silent t
  unmoved o = rw o at (g.works {x = t} (record { config = refl; registers = refl; halts = refl }))

  pub stays : turns ≡ false → t ≡ (works t c cycle).timer
  stays o = sym (ap (λ (y : Noted). y.timer) (unmoved o))

  module _ {n : ℕ} (v : Valid t) (e : n ≡ refusal_of t c cycle) (z : n ≡ 0) where
    pub turn-asked : (Valid t) × (t.clock.latest.0 ≤ cycle) × (cycle < 2 ^ 62) × (due t cycle ≤ gap (wave_of t (mode_of t)) t.counter t.ocr)
    turn-asked = sync-asked t c cycle v (sym e ∙ z) g.tested

    pub turned : (area : List ℕ) {x u : Timer} {r : Outcome} → turns ≡ true → (x ≡ (synced ticks t cycle).timer) × ((synced ticks t cycle).bytes ≡ []) × (Valid x) → u ≡ made x
        → r ≡ record { answer = answer.Done; timer = latest_to u cycle; written = 0 } → Tells (answered ticks t c cycle area) r area
    turned area {x} {u} o p m q =
        let w : works x c cycle ≡ silent (made x) = rw o at (g.works (kept t cycle p)) in
        plainly t c cycle area (in-time t c cycle area v e z g.advances (g.syncs ∙ o) p) u (m ∙ sym (ap (λ (y : Noted). y.timer) w)) (ap (λ (y : Noted). y.log) w) (sym (g.says x)) refl q

    pub unturned : (area : List ℕ) {r : Outcome} → turns ≡ false
        → r ≡ record { answer = answer.Done; timer = latest_to t cycle; written = 0 } → Tells (answered ticks t c cycle area) r area
    unturned area o q =
        plainly t c cycle area (at_once t c cycle area v e z g.advances (g.syncs ∙ o)) t (stays o) (ap (λ (y : Noted). y.log) (unmoved o)) (sym (g.says t)) refl q

-- a byte written is the call's value
pub written_is : (x : Timer) (address value cycle : ℕ) {place : ℕ} {l : Logged} → value < 256 → place ≡ placed x address → Logs (written x place value) cycle l
    → Logs (works x (call.Write address value) cycle) cycle l
unfolding works
written_is x address value cycle h e g = rw (← e, mod-eq_of_lt h) g

-- ---- advance
module _ (t : Timer) (cycle : ℕ) (area : List ℕ) {n : ℕ} {a : Advanced} {after : List ℕ} {f : ℕ} (v : Valid t) (e : n ≡ late t cycle) (z : n ≡ 0)
    (g : Advances (advanced ticks t cycle (length area)) area a after) (k : f ≡ next_flags a.timer) where
  moved-is : answered ticks t call.Advance cycle area ≡ moved (advanced ticks t cycle (length area)) area
  unfolding answered performed refusal_of asks
  moved-is = simp (late-alone, ← e, z)

  -- it stopped before a tick whose records do not fit, or came to its cycle
  pub stopped : a.paused ≡ true → Tells (answered ticks t call.Advance cycle area) (record { answer = answer.Paused a.timer.clock.sync f; timer = a.timer; written = a.written }) after
  unfolding moved
  stopped p = told_is t call.Advance cycle area v moved-is g.timer refl (simp (← g.timer, ← g.paused, p, k)) g.written g.area

  pub came : a.paused ≡ false → Tells (answered ticks t call.Advance cycle area) (record { answer = answer.Reached f; timer = a.timer; written = a.written }) after
  unfolding moved
  came p = told_is t call.Advance cycle area v moved-is g.timer refl (simp (← g.timer, ← g.paused, p, k)) g.written g.area
