-- What the quick calls leave and reply, of a cycle accepted and of one refused.
use Prim.Native.Nat.{ℕ, ◌-◌}
use mathlib.Core.Path.{◌≡◌, sym, subst, ◌∙◌}
use mathlib.Core.Bool.{true, false}
use lib.Bits.{bit_and}
use lib.Dec.{eqb}
use borrow.Author.Tests.{eqb-true}
use Rattle.held.specs.declared.state.Held.{Held}
use Rattle.held.specs.Held.{Kept}
use Rattle.held.specs.Reply.{Served, replied, count_low}
use Rattle.held.specs.Quick.{counting, Passing}
use Rattle.held.specs.declared.quick.Counted.{Counted}
use Rattle.shell.specs.Numbers.{High}
use Rattle.held.proofs.Stills.{low-timed, count-asks, low-right, high-turned, high-serves}
use Rattle.held.proofs.Puts.{tifr_in, temp_in, clock_in, counter_in}
use Rattle.held.proofs.Accepts.{Accepts, left-taken, left_alone}
use Rattle.held.proofs.Answers.{Timed, tifr-timed, tifr-serves, clear-timed, clear-serves, refused-serves}
use Rattle.timer.specs.declared.calls.Call.{Call}
use Rattle.timer.specs.declared.calls.Call.TheVariants as call

module _ (h : Held) (n : ℕ) (k : Kept h) (g : Held) (y : ℕ) (a : Accepts true n h g y) where
  pub refused : (c : Call) → Timed h.timer c true → eqb y 0 ≡ false → Served h.timer c n g (replied y 5 0 0 0 0)
  refused c m z = subst (λ (x : Held). Served h.timer c n x (replied y 5 0 0 0 0)) (sym (left_alone h true n g y a z)) (refused-serves h n k c y m a.0 z)

  pub tifr-refused : eqb y 0 ≡ false → Served h.timer call.Tifr n g (replied y 5 0 0 0 0)
  tifr-refused = refused call.Tifr (tifr-timed h n k)

  pub tifr-told : eqb y 0 ≡ true → Served h.timer call.Tifr n g (replied 0 1 g.timer.flags.tifr 0 g.next g.flags)
  tifr-told z = subst (λ (x : Held). Served h.timer call.Tifr n x (replied 0 1 x.timer.flags.tifr 0 x.next x.flags)) (sym (left-taken h true n g y a z)) (tifr-serves h n k (sym a.0 ∙ eqb-true y 0 z))

  pub clear-refused : (ones : ℕ) → eqb y 0 ≡ false → Served h.timer (call.WriteTifr ones) n g (replied y 5 0 0 0 0)
  clear-refused ones = refused (call.WriteTifr ones) (clear-timed h n k ones)

  pub clear_told : (ones : ℕ) → eqb y 0 ≡ true → Served h.timer (call.WriteTifr ones) n (tifr_in g (bit_and g.timer.flags.tifr (255 - ones))) (replied 0 0 0 0 g.next g.flags)
  clear_told ones z =
      subst (λ (x : Held). Served h.timer (call.WriteTifr ones) n (tifr_in x (bit_and x.timer.flags.tifr (255 - ones))) (replied 0 0 0 0 x.next x.flags)) (sym (left-taken h true n g y a z))
      (clear-serves h n k ones (sym a.0 ∙ eqb-true y 0 z))

  pub low-refused : eqb y 0 ≡ false → Served h.timer (count_low h.timer) n g (replied y 5 0 0 0 0)
  low-refused = refused (count_low h.timer) (low-timed h.timer)

  pub low-asks : eqb y 0 ≡ true → Passing g.timer.counter g.timer.clock g.shift g.down n
  low-asks z = subst (λ (x : Held). Passing x.timer.counter x.timer.clock x.shift x.down n) (sym (left-taken h true n g y a z)) (count-asks h n k (sym a.0 ∙ eqb-true y 0 z))

  -- the count read of a held timer
  abbrev read : Held → Counted
  read x = counting x.timer.counter x.timer.clock x.timer.config.wide x.timer.registers.temp x.shift x.down n

  pub low_told : eqb y 0 ≡ true → Served h.timer (count_low h.timer) n (temp_in (clock_in (counter_in g (read g).counter) (read g).clock) (read g).temp) (replied 0 1 (read g).byte 0 g.next g.flags)
  low_told z =
      subst (λ (x : Held). Served h.timer (count_low h.timer) n (temp_in (clock_in (counter_in x (read x).counter) (read x).clock) (read x).temp) (replied 0 1 (read x).byte 0 x.next x.flags)) (sym (left-taken h true n g y a z))
      (low-right h n k (sym a.0 ∙ eqb-true y 0 z))

module _ (h : Held) (n : ℕ) (k : Kept h) (g : Held) (y : ℕ) (a : Accepts false n h g y) (w : h.timer.config.wide ≡ true) where
  pub high-refused : eqb y 0 ≡ false → High h.timer n g (replied y 5 0 0 0 0)
  high-refused z = subst (λ (x : Held). High h.timer n x (replied y 5 0 0 0 0)) (sym (left_alone h false n g y a z)) (high-turned h n k w y a.0 z)

  pub high-told : eqb y 0 ≡ true → High h.timer n g (replied 0 1 g.timer.registers.temp 0 g.next g.flags)
  high-told z = subst (λ (x : Held). High h.timer n x (replied 0 1 x.timer.registers.temp 0 x.next x.flags)) (sym (left-taken h false n g y a z)) (high-serves h n k w (sym a.0 ∙ eqb-true y 0 z))
