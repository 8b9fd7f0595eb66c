-- Before the announced event nothing but the count moves, and an advance with ten bytes of area works it.
use Prim.Native.Nat.{ℕ, ◌+◌, ◌≤◌}
use mathlib.Core.Path.{◌≡◌, refl, ◌∙◌}
use mathlib.Core.Bool.{Bool, true, false, cond}
use borrow.Author.Tests.{le-leb}
use Rattle.time.specs.declared.units.Cycle.{Cycle}
use Rattle.wdtcsr.specs.State.{running}
use Rattle.wdtcsr.specs.Timeouts.{linear, gap_of}
use Rattle.std.specs.Prelude.{Option, Some, None}
use Rattle.oscillator.specs.declared.state.Watchdog.{Watchdog}
use Rattle.oscillator.specs.Oscillator.{quiet, start, next_at, next_of}
use Rattle.oscillator.proofs.Runs.{quiet-ticks}
use Rattle.oscillator.proofs.Syncs.{before-next}
use Rattle.watchdog.specs.Claims.{OnlyCounts, Quiet}

-- an announced event says that it runs, and when
pub announced : (w : Watchdog) (next : Cycle) → next_of w ≡ Some next → (running w.moving ≡ true) × (next.0 ≡ next_at w)
unfolding next_of
announced w next e = go (running w.moving) refl e
  where
    go : (b : Bool) → running w.moving ≡ b → cond b (Some (record { 0 = next_at w })) None ≡ Some next → (running w.moving ≡ true) × (next.0 ≡ next_at w)
    go true r h = (r, cc)
    go false r h = cc

pub none-announced : (w : Watchdog) → next_of w ≡ None → running w.moving ≡ false
unfolding next_of
none-announced w e = go (running w.moving) refl e
  where
    go : (b : Bool) → running w.moving ≡ b → cond {A = Option Cycle} b (Some (record { 0 = next_at w })) None ≡ None → running w.moving ≡ false
    go true r h = cc
    go false r h = r

only-counts : (w : Watchdog) (n : ℕ) → running w.moving ≡ true → n ≤ gap_of w.moving → OnlyCounts w n (w.moving.count + n)
unfolding start quiet linear
only-counts w n r h = quiet-ticks (λ k. true) n (start w) refl refl (rw r (le-leb n _ h)) ∙ rw r

stays : (w : Watchdog) (n : ℕ) → running w.moving ≡ false → OnlyCounts w n w.moving.count
unfolding start quiet linear
stays w n r = quiet-ticks (λ k. true) n (start w) refl refl (rw r) ∙ rw r

pub quiet-before : Quiet
quiet-before qs n =
    record {
      before = λ next e h. let a = announced _ next e in only-counts _ n a.0 (before-next _ n (rw a.1 at h));
      never = λ e. stays _ n (none-announced _ e);
    }
