-- A register written below the next event: the answers that its work tells.
use Prim.Native.Nat.{ℕ, ◌+◌, ◌%◌, ◌≤◌, ◌<◌}
use native.Mathlib.Omega.{arith}
use native.Mathlib.Nat.{mod-eq_of_lt, zero-add}
use mathlib.Core.Path.{◌≡◌, refl, sym, ap, subst, ◌∙◌}
use mathlib.Core.Bool.{Bool, true, false, cond, not}
use mathlib.Core.List.{List}
use lib.Dec.{eqb, leb}
use lib.ListN.{length, take}
use lib.Seq.{sets, sets-eq}
use borrow.Author.Tests.{le-leb, lt-leb, leb-true, ne_eqb}
use Rattle.config.specs.Config.{place_of}
use Rattle.wave.specs.Kinds.{C}
use Rattle.scene.specs.Scene.{scene_of}
use Rattle.time.specs.declared.clock.Clock.{Clock}
use Rattle.passage.specs.Passage.{ticks}
use Rattle.counter.specs.declared.advance.Logged.{Logged}
use Rattle.counter.specs.declared.state.Timer.{Timer}
use Rattle.counter.specs.Halts.{latest_to}
use Rattle.counter.specs.Logs.{Noted, silent, Logs}
use Rattle.counter.specs.Modes.{wave_of}
use Rattle.counter.specs.Registers.{is_high, immediate, commit, stored, configured, driven, written_a, written_b, written}
use Rattle.counter.specs.Setting.{setting_at}
use Rattle.counter.specs.Valid.{Valid}
use Rattle.answers.specs.declared.Answer.TheVariants as answer
use Rattle.answers.specs.declared.Outcome.{Outcome}
use Rattle.answers.specs.Answers.{Tells, Filed}
use Rattle.timer.specs.declared.calls.Call.{Call}
use Rattle.timer.specs.declared.calls.Call.TheVariants as call
use Rattle.timer.specs.Calls.{answered, asks, works, says}
use Rattle.timer.proofs.Outcomes.{Ready, plainly, filed, written_is}
use Rattle.held.specs.declared.state.Held.{Held}
use Rattle.held.specs.Held.{Kept}
use Rattle.held.specs.Quick.{stilled, Passing}
use Rattle.held.proofs.Answers.{Timed, refusal_is}
use Rattle.held.proofs.Stills.{quiet-in, still-asks, stored-kept}
use Rattle.serving.specs.Asks.{asks_in}
use Rattle.serving.specs.Looking.{refused_by, stilled_in, passed_of}
use Rattle.rewriting.specs.Writing.{Takes}
use Rattle.serving.proofs.Laws.{refused-is, passed-ready}

-- ---- the work

-- a low byte commits
low-commits : (t : Timer) (place v : ℕ) → place < 10 → is_high place ≡ false → written t place v ≡ silent (commit t place v)
unfolding written
low-commits t place v l e =
    let n : leb place 9 ≡ true = le-leb place 9 (omega arith) in
    let o : eqb (place % 2) 1 ≡ false = rw n at e in
    rw (n, o) refl

-- a control register's write leaves the clock
clock-stays : (t : Timer) (place v : ℕ) → 10 ≤ place → (written t place v).timer.clock ≡ t.clock
unfolding written written_a written_b driven configured stored
clock-stays t place v l = rw (lt-leb place 9 (omega arith)) (go (eqb place 10) (eqb place 11))
  where
    go : (a b : Bool) → (cond a (written_a t v) (cond b (written_b t v) (driven t false v))).timer.clock ≡ t.clock
    go true b = refl
    go false true = refl
    go false false = refl

-- so a cycle that is the latest is accepted already
latest-is : (t : Timer) (cycle : ℕ) → t.clock.latest.0 ≡ cycle → t ≡ latest_to t cycle
latest-is t cycle e = rw (← e) refl

-- ---- the answers
module _ (h : Held) (place value cycle address : ℕ) (k : Kept h) (w : Takes h place cycle) (f : value < 256) (is : place_of h.timer.config address ≡ place) where
  abbrev t : Timer
  t = h.timer

  abbrev c : Call
  c = call.Write address value

  abbrev x : Timer
  x = stilled_in h cycle

  timed : Timed t c true
  unfolding asks
  timed = let l = w.there in record { absent = rw is (lt-leb 13 place (omega arith)); wrong = refl; halted = refl; tests = rw (is, w.low) refl }

  accepted : refused_by (asks_in (asks t c)) t.clock.latest.0 h.next cycle ≡ 0
  accepted = refused-is h c cycle k ∙ refusal_is h c cycle k timed ∙ w.quiet

  syncs : place < 12 → (asks t c).syncs ≡ true
  unfolding asks
  syncs l = rw (is, w.low, ne_eqb place 12 (λ z. omega arith)) refl

  advances : (asks t c).advances ≡ false
  unfolding asks
  advances = refl

  ready : (area : List ℕ) (b : Bool) → (asks t c).syncs ≡ b → Ready t c cycle area (passed_of h b cycle)
  ready area b e = subst (λ (s : Bool). Ready t c cycle area (passed_of h s cycle)) e (passed-ready h c cycle k accepted area advances)

  pub commit-tells : (area : List ℕ) {u : Timer} → place < 10 → u ≡ commit (passed_of h true cycle) place value
      → Tells (answered ticks t c cycle area) (record { answer = answer.Done; timer = latest_to u cycle; written = 0 }) area
  unfolding works says passed_of
  commit-tells area {u} l e =
      let n : works x c cycle ≡ silent (commit x place value) = rw (is, mod-eq_of_lt f) (low-commits x place value l w.low) in
      plainly t c cycle area (ready area true (syncs (omega arith))) u {a = answer.Done} (e ∙ sym (ap (λ (z : Noted). z.timer) n)) (ap (λ (z : Noted). z.log) n) refl refl refl

  -- a control or force register: its records
  pub files : (b : Bool) → (asks t c).syncs ≡ b → (area : List ℕ) {l : Logged} {r : Outcome} {after : List ℕ} → Logs (written (passed_of h b cycle) place value) cycle l → Filed t l cycle area r after → Tells (answered ticks t c cycle area) r after
  unfolding says passed_of
  files b e area g o = filed t c cycle area (ready area b e) (written_is (passed_of h b cycle) address value cycle f (same b) g) refl o
    where
      same : (b : Bool) → place ≡ place_of (passed_of h b cycle).config address
      same true = sym is
      same false = sym is

  -- a control register's records, written where they fit
  module _ (area : List ℕ) {l : Logged} {wrote : Bool} {after : List ℕ} (low : 10 ≤ place) (high : place < 12) (g : Logs (written (passed_of h true cycle) place value) cycle l)
      (q : (wrote ≡ leb (0 + l.log.len) (length area)) × (after ≡ cond wrote (sets area 0 (take l.log.len l.log.bytes)) area)) where
    fit : leb l.log.len (length area) ≡ wrote
    fit = rw (zero-add l.log.len) at (sym q.0)

    -- the timer has the cycle as its latest already
    latest-in : l.timer ≡ latest_to l.timer cycle
    unfolding passed_of stilled
    latest-in = latest-is l.timer cycle (ap (λ (u : Timer). u.clock.latest.0) g.timer ∙ ap (λ (y : Clock). y.latest.0) (clock-stays x place value low))

    pub control-tells : wrote ≡ true → Tells (answered ticks t c cycle area) (record { answer = answer.Done; timer = l.timer; written = l.log.len }) after
    control-tells d =
        let m : l.log.len ≤ length area = leb-true _ _ (fit ∙ d) in
        let n = g.size in
        let y = sets-eq (take l.log.len l.log.bytes) area 0 (omega arith) in
        files true (syncs high) area g (record { outcome = rw (fit, d, ← latest-in); area = rw (fit, d) (rw d at q.1 ∙ y ∙ rw (n, zero-add l.log.len)) })

    pub control-turned : wrote ≡ false → {r : Outcome} → r ≡ record { answer = answer.Refused 8; timer = t; written = 0 } → Tells (answered ticks t c cycle area) r after
    control-turned d e = files true (syncs high) area g (record { outcome = e ∙ rw (fit, d) refl; area = rw (fit, d) (rw d at q.1) })

  -- what the time that passes asks, and what it leaves
  pub passes : Passing t.counter t.clock h.shift h.down cycle
  passes = still-asks h cycle (quiet-in h cycle k w.quiet)

  pub left-valid : (b : Bool) → Valid (passed_of h b cycle)
  unfolding passed_of
  left-valid true = (stored-kept h cycle (quiet-in h cycle k w.quiet)).valid
  left-valid false = k.valid

-- a force register lets time pass in N and C alone
pub force-syncs : (h : Held) (value address : ℕ) → Kept h → place_of h.timer.config address ≡ 12 → (asks h.timer (call.Write address value)).syncs ≡ leb h.scene.kind C
unfolding asks immediate setting_at wave_of scene_of
force-syncs h value address k is = rw (is, k.scene) (twice _)
  where
    twice : (b : Bool) → not (not b) ≡ b
    twice true = refl
    twice false = refl
