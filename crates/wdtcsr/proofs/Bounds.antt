-- The periods, and what bounds the count.
use Rattle.std.proofs.Common.{ℕ, ◌+◌, ◌≤◌, ◌<◌, ◌^◌, ◌≡◌, refl, true, arith}
use Rattle.std.proofs.Math.Pow.{pow_mono}
use Rattle.wdtcsr.specs.declared.state.Moving.{Moving}
use Rattle.wdtcsr.specs.State.{running, Sound}
use Rattle.wdtcsr.specs.Timeouts.{period_of, resets, timed_out, linear, gap_of, is_quiet}
use Rattle.wdtcsr.proofs.Ticks.{cond-case, quiet-gap}

pub period-upto : (p : ℕ) → p < 10 → period_of p ≤ 2 ^ 20
unfolding period_of
period-upto p h = let e = pow_mono {i = p} {j = 9} (omega arith) in omega arith

pub gap-small : (m : Moving) → Sound m → gap_of m < 2 ^ 20
unfolding gap_of
gap-small m y = let h = period-upto m.control.wdp y.wdp in omega arith

-- ticks that only count keep the count small
pub count_small : (n : ℕ) (m : Moving) → Sound m → running m ≡ true → is_quiet n m ≡ true → m.count + n < 2 ^ 20
unfolding gap_of
count_small n m y r h = let g = quiet-gap n m r h in let p = period-upto m.control.wdp y.wdp in let c = y.count in omega arith

-- and leave what the oscillator keeps
pub linear-sound : (n : ℕ) (m : Moving) → Sound m → is_quiet n m ≡ true → Sound (linear n m)
unfolding linear
linear-sound n m y h =
    record {
      count = cond-case (λ (k : ℕ). k < 2 ^ 20) (running m) (λ r. count_small n m y r h) (λ r. y.count);
      wdp = y.wdp;
      stopped = λ r. rw r (y.stopped r);
    }

-- a time-out leaves what the oscillator keeps
pub timed-out-sound : (m : Moving) → Sound m → Sound (timed_out m)
unfolding timed_out
timed-out-sound m y =
    cond-case Sound (resets m.control)
    (λ e. record { count = omega arith; wdp = omega arith; stopped = λ r. refl })
    (λ e. record { count = omega arith; wdp = y.wdp; stopped = λ r. refl })
