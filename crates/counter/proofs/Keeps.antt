-- The calls' own work keeps a timer valid, once the call's cycle is the latest.
use Prim.Native.Nat.{ℕ, zero, suc, ◌+◌, ◌*◌, ◌%◌, ◌≤◌, ◌<◌, ◌^◌}
use native.Mathlib.Omega.{arith}
use mathlib.Core.Path.{◌≡◌, refl, sym, ◌∙◌}
use mathlib.Core.Bool.{Bool, true, false, cond, ◌&&◌, ◌||◌, false≢true}
use mathlib.Core.List.{List, [], ◌∷◌}
use mathlib.Core.Logic.{inl}
use lib.ListN.{get_or, set}
use lib.Dec.{eqb, leb}
use Rattle.config.specs.declared.Config.{Config}
use Rattle.config.specs.Config.{accepted}
use Rattle.tick.specs.declared.setting.Drives.{Drives}
use Rattle.tick.proofs.Choices.{cond-all}
use Rattle.tick.proofs.Still.{tick-keeps}
use Rattle.time.specs.declared.clock.Clock.{Clock}
use Rattle.time.specs.Clock.{clock_at}
use Rattle.counter.specs.declared.state.Flags.{Flags}
use Rattle.time.specs.declared.halts.Halts.{Halts}
use Rattle.counter.specs.declared.state.Timer.{Timer}
use Rattle.counter.specs.Modes.{max_at, mode_of, wave_of}
use Rattle.counter.specs.Setting.{setting_of, setting_at, moving_of}
use Rattle.counter.specs.Passage.{sync_to}
use Rattle.counter.specs.Valid.{Valid}
use Rattle.counter.specs.Logs.{Noted, struck}
use Rattle.counter.specs.Registers.{temp_to, icr_to, count_to, compare_to, immediate, read_timer, committed, commit, stored, configured, driven, written_a, written_b, written}
use Rattle.counter.specs.Parts.{flags_to, halts_to, clock_to}
use Rattle.counter.specs.Capture.{captured}
use Rattle.counter.specs.Fresh.{blank, fresh_of, FreshIsValid}
use Rattle.counter.specs.Halts.{latest_to, asleep_at, awake_at, reduced_to, prescaled_at, tsm_to, routed_to, reset_at}
use Rattle.counter.proofs.Bounds.{valid-sound}

-- a valid timer with another clock, and with other halts
clock-keeps : {t : Timer} {k : Clock} {h : Halts} → Valid t
    → k.origin.0 ≤ k.sync.0
    → k.sync.0 ≤ k.latest.0
    → k.latest.0 < 2 ^ 62
    → (h.asleep ≡ true → (k.origin.0 ≤ h.since.0) × (h.since.0 ≤ k.latest.0))
    → Valid (clock_to (halts_to t h) k)
clock-keeps v o s l z = search

-- valid once a cycle is the latest
unfoldable pub Lasts : ℕ → Timer → Type 0
Lasts cycle t = Valid (latest_to t cycle)

pub valid-lasts : (t : Timer) (cycle : ℕ) → Valid t → t.clock.latest.0 ≤ cycle → cycle < 2 ^ 62 → Lasts cycle t
unfolding Lasts
valid-lasts t cycle v l u = clock-keeps v v.origin (omega arith) u (λ e. let z = v.slept e in (z.0, omega arith))

-- ---- registers
set-le : (l : List ℕ) (i n most : ℕ) → n ≤ most → ((ch : ℕ) → get_or l ch 0 ≤ most) → (ch : ℕ) → get_or (set l i n) ch 0 ≤ most
set-le [] i n most h k ch = k ch
set-le (x ∷ l) zero n most h k zero = h
set-le (x ∷ l) zero n most h k (suc ch) = k (suc ch)
set-le (x ∷ l) (suc i) n most h k zero = k zero
set-le (x ∷ l) (suc i) n most h k (suc ch) = set-le l i n most h (λ c. k (suc c)) ch

word-max : (wide : Bool) (high low : ℕ) → high < 256 → low < 256 → cond wide (high * 256 + low) low ≤ max_at wide
unfolding max_at
word-max true high low h l = omega arith
word-max false high low h l = omega arith

module _ (cycle : ℕ) (t : Timer) (v : Lasts cycle t) where
  Within : List ℕ → Type 0
  Within l = (ch : ℕ) → get_or l ch 0 ≤ max_at t.config.wide

  pub flags-keep : (tifr timsk : ℕ) → Lasts cycle (flags_to t tifr timsk)
  unfolding Lasts
  flags-keep tifr timsk = search

  temp-keeps : (n : ℕ) → n < 256 → Lasts cycle (temp_to t n)
  unfolding Lasts
  temp-keeps n h = search

  count-keeps : (n : ℕ) → n ≤ max_at t.config.wide → Lasts cycle (count_to t n)
  unfolding Lasts
  count-keeps n h = search

  icr-keeps : (n : ℕ) → n ≤ max_at t.config.wide → Lasts cycle (icr_to t n)
  unfolding Lasts
  icr-keeps n h = search

  compare-keeps : (ch n : ℕ) → n ≤ max_at t.config.wide → Lasts cycle (compare_to t ch n)
  unfolding Lasts compare_to Within
  compare-keeps ch n h =
      let o = cond-all Within (immediate t) {x = set t.ocr ch n} {y = t.ocr} (set-le t.ocr ch n _ h v.compares) v.compares in
      let b = set-le t.buffer ch n _ h v.buffers in
      search

  pub read_keeps : (place : ℕ) → Lasts cycle (read_timer t place)
  unfolding read_timer
  read_keeps place = cond-all (Lasts cycle) ((eqb place 0 || eqb place 8) && t.config.wide) (temp-keeps _ (omega arith)) v

  committed-max : (n : ℕ) → n < 256 → committed t n ≤ max_at t.config.wide
  unfolding Lasts committed
  committed-max n h = word-max t.config.wide t.registers.temp n v.temp h

  commit-keeps : (place n : ℕ) → n < 256 → Lasts cycle (commit t place n)
  unfolding commit
  commit-keeps place n h =
      let k = committed-max n h in
      cond-all (Lasts cycle) (leb place 1) (count-keeps _ k)
      (cond-all (Lasts cycle) (leb place 3) (compare-keeps 0 _ k)
      (cond-all (Lasts cycle) (leb place 5) (compare-keeps 1 _ k)
      (cond-all (Lasts cycle) (leb place 7) (compare-keeps 2 _ k) (icr-keeps _ k))))

  driven-keeps : (again : Bool) (n : ℕ) → Lasts cycle (driven t again n).timer
  unfolding Lasts driven
  driven-keeps again n = search

  configured-keeps : (a b : ℕ) → Lasts cycle (configured t a b)
  unfolding Lasts configured stored Within
  configured-keeps a b = let o = cond-all Within (immediate (stored t a b)) {x = t.buffer} {y = t.ocr} v.buffers v.compares in search

pub written_keeps : (cycle : ℕ) (t : Timer) → Lasts cycle t → (place n : ℕ) → n < 256 → Lasts cycle (written t place n).timer
unfolding written written_a written_b
written_keeps cycle t v place n h =
    cond-all Keeps (leb place 9)
    (cond-all (Lasts cycle) (eqb (place % 2) 1) (temp-keeps cycle t v n h) (commit-keeps cycle t v place n h))
    (cond-all Keeps (eqb place 10) (driven-keeps cycle _ (configured-keeps cycle t v _ _) true _)
    (cond-all Keeps (eqb place 11) (driven-keeps cycle _ (configured-keeps cycle t v _ _) true _) (driven-keeps cycle t v false n)))
  where
    Keeps : Noted → Type 0
    Keeps x = Lasts cycle x.timer

-- ---- a fresh timer, and one with its registers clear
not-both : {A : Type 0} {b : Bool} → b ≡ false → b ≡ true → A
not-both e z = absurd (false≢true (sym e ∙ z))

blank-valid : (c : Config) (f : Flags) (d : Drives) (k : Clock) → accepted c ≡ true → k.origin.0 ≤ k.sync.0 → k.sync.0 ≤ k.latest.0 → k.latest.0 < 2 ^ 62 → Valid (blank c f d k)
blank-valid c f d k e o s l =
    record { accepted = e; count = omega arith; turns = inl refl; odometer = omega arith; compares = none; buffers = none; icr = omega arith; temp = omega arith; origin = o; sync = s; latest = l; slept = not-both refl }
  where
    none : (ch : ℕ) → get_or (0 ∷ 0 ∷ 0 ∷ []) ch 0 ≤ max_at c.wide
    none zero = omega arith
    none (suc zero) = omega arith
    none (suc (suc zero)) = omega arith
    none (suc (suc (suc ch))) = omega arith

pub fresh-is-valid : FreshIsValid
unfolding fresh_of
fresh-is-valid c e = blank-valid c _ _ _ e (omega arith) (omega arith) (omega arith)

-- ---- captures, edges, the clock and the halts
module _ (cycle : ℕ) (t : Timer) (v : Lasts cycle t) where
  pub captured-keeps : Lasts cycle (captured t).timer
  unfolding Lasts captured
  captured-keeps = search

  pub struck-keeps : Lasts cycle (struck t).timer
  unfolding Lasts struck setting_at wave_of mode_of
  struck-keeps = let s = tick-keeps (setting_of t) (moving_of t) (valid-sound (latest_to t cycle) v) in search

  pub sync-keeps : Lasts cycle (sync_to t cycle)
  unfolding Lasts sync_to
  sync-keeps = search arith

  pub reduced-keeps : (on : Bool) → Lasts cycle (reduced_to t on)
  unfolding Lasts reduced_to
  reduced-keeps on = search

  pub routed-keeps : (on : Bool) → Lasts cycle (routed_to t on)
  unfolding Lasts routed_to
  routed-keeps on = search

  pub asleep-keeps : Lasts cycle (asleep_at t cycle)
  unfolding Lasts asleep_at
  asleep-keeps = search arith

  pub awake-keeps : t.halts.asleep ≡ true → Lasts cycle (awake_at t cycle)
  unfolding Lasts awake_at
  awake-keeps e = let z = v.slept e in clock-keeps v (omega arith) (omega arith) v.latest (not-both refl)

  -- a new origin, where time has passed up to the cycle and the counter is not asleep
  pub prescaled-keeps : t.clock.sync.0 ≡ cycle → t.halts.asleep ≡ false → Lasts cycle (prescaled_at t cycle)
  unfolding Lasts prescaled_at
  prescaled-keeps s e = clock-keeps v (omega arith) v.sync v.latest (not-both e)

  pub tsm-keeps : (on : Bool) → t.clock.sync.0 ≡ cycle → t.halts.asleep ≡ false → Lasts cycle (tsm_to t on cycle)
  unfolding Lasts tsm_to prescaled_at
  tsm-keeps true s e = search
  tsm-keeps false s e = clock-keeps v (omega arith) v.sync v.latest (not-both e)

  pub reset-keeps : Lasts cycle (reset_at t cycle).timer
  unfolding Lasts reset_at
  reset-keeps = driven-keeps cycle (blank t.config t.flags t.drives (clock_at cycle cycle t.clock.latest.0)) (blank-valid _ _ _ _ v.accepted (omega arith) (omega arith) v.latest) true 0
