-- What the contracts of `src/` cite: how a pin's level and volts come of what drives it, over the values and the operators of `lib.Ieee`,
-- and what each public call answers, in 01's terms. Each definition names the section of 01 that it is from. Assumes nothing.
use Rattle.std.specs.Prelude.{ℕ, Bool, true, false, not, cond, ◌&&◌, pos, leb, eqb, Result, Ok, Err}
use Rattle.std.specs.Float.Ieee as Ieee
use Rattle.std.specs.Float.{fin, binary64, float_is_finite}
use Rattle.std.specs.Float.Ieee.{lt, le, mul, round}
use Rattle.pins.specs.declared.Drive.{Drive}
use Rattle.pins.specs.declared.Drive.TheVariants as drive
use Rattle.pins.specs.declared.Pin.{Pin}
use Rattle.pins.specs.declared.Refusal.{Refusal}
use Rattle.pins.specs.declared.Refusal.TheVariants as refusal
use Rattle.pins.specs.declared.Resolved.{Resolved}

-- ---- volts

-- "Outputs and pins": 0 volts, which is plus zero
abbrev pub ground : Ieee.Float
ground = fin false 0 (pos 0)

-- "Calls turned away", 9: a Vcc of use is finite, neither a NaN nor an infinity, and above 0
abbrev pub supplied : Ieee.Float → Bool
supplied vcc = float_is_finite vcc && lt ground vcc

-- "Calls turned away", 9: a drive of use has finite volts where it is analog
abbrev pub usable : Drive → Bool
usable drive.Float = true
usable drive.Low = true
usable drive.High = true
usable (drive.Analog v) = float_is_finite v

-- "Outputs and pins": a bit or a level that is 1
abbrev pub is_set : ℕ → Bool
is_set n = not (eqb n 0)

-- "Outputs and pins": the volts of a level, Vcc or 0
abbrev pub rail : ℕ → Ieee.Float → Ieee.Float
rail level vcc = cond (is_set level) vcc ground

-- "Outputs and pins": v clamped to 0..Vcc; minus zero is not below 0, so it passes unchanged
abbrev pub clamped : Ieee.Float → Ieee.Float → Ieee.Float
clamped v vcc = cond (lt v ground) ground (cond (lt vcc v) vcc v)

-- "Outputs and pins": n tenths as the nearest f64, so that 0.6 is `tenths 6`
unfoldable pub tenths : ℕ → Ieee.Float
unfolding round
tenths n = round binary64 false n 10

-- "Outputs and pins": 1 from 0.6 × Vcc, 0 to 0.3 × Vcc, else held
abbrev pub analog_level : Ieee.Float → Ieee.Float → ℕ → ℕ
analog_level v vcc held = cond (le (mul binary64 (tenths 6) vcc) v) 1 (cond (le v (mul binary64 (tenths 3) vcc)) 0 held)

-- ---- a pin

-- "Outputs and pins": a value of the pin's own, or a peripheral's where that is enabled
abbrev pub overridden : ℕ → ℕ → ℕ → ℕ
overridden enable value own = cond (is_set enable) value own

-- "Outputs and pins": the bit that the MCU drives
abbrev pub driven_bit : Pin → ℕ
driven_bit p = overridden p.ovenable p.ovvalue p.out

-- "Outputs and pins": the direction, 1 for an output
abbrev pub direction : Pin → ℕ
direction p = overridden p.ddoe p.ddov p.dir

-- "Outputs and pins": an output pin that is not reserved
abbrev pub output : Pin → Bool
output p = is_set (direction p) && not p.reserved

-- "Calls turned away", 10: every pin bit is 0 or 1
abbrev pub bits : Pin → Bool
bits p =
    leb p.dir 1 && leb p.out 1 && leb p.pullup 1 && leb p.pulldown 1 && leb p.ovenable 1 && leb p.ovvalue 1
    && leb p.ddoe 1 && leb p.ddov 1 && leb p.level 1

-- "Outputs and pins": the pin with another level and other volts, and the rest as it was
abbrev pub at : Pin → ℕ → Ieee.Float → Pin
at p n v =
    record {
      dir = p.dir;
      out = p.out;
      pullup = p.pullup;
      pulldown = p.pulldown;
      ovenable = p.ovenable;
      ovvalue = p.ovvalue;
      reserved = p.reserved;
      ddoe = p.ddoe;
      ddov = p.ddov;
      level = n;
      volts = v;
    }

-- "Outputs and pins": the pin at a level and that level's volts
abbrev pub at_rail : Pin → ℕ → Ieee.Float → Pin
at_rail p n vcc = at p n (rail n vcc)

-- "Outputs and pins": the level of a floating input: pull-up, then pull-down, else held
abbrev pub pulled : Pin → ℕ
pulled p = cond (is_set p.pullup) 1 (cond (is_set p.pulldown) 0 p.level)

-- "Outputs and pins": an input takes its drive
abbrev pub input : Pin → Drive → Ieee.Float → Pin
input p drive.Float vcc = at_rail p (pulled p) vcc
input p drive.Low vcc = at_rail p 0 vcc
input p drive.High vcc = at_rail p 1 vcc
input p (drive.Analog x) vcc = at p (analog_level (clamped x vcc) vcc p.level) (clamped x vcc)

-- "Outputs and pins": an output has its driven bit, an input its drive
abbrev pub settled : Pin → Drive → Ieee.Float → Pin
settled p d vcc = cond (output p) (at_rail p (driven_bit p) vcc) (input p d vcc)

-- "Outputs and pins": an output drives one level and the outside the other
abbrev pub opposed : Pin → Drive → Bool
opposed p drive.Float = false
opposed p drive.Low = output p && eqb (driven_bit p) 1
opposed p drive.High = output p && eqb (driven_bit p) 0
opposed p (drive.Analog x) = false

-- ---- answers

-- "Calls turned away": the number of a refusal
abbrev pub number_of : Refusal → ℕ
number_of refusal.Volts = 9
number_of refusal.Bits = 10

-- "Calls turned away": 9 unless the volts are of use, then 10 unless each bit is 0 or 1, else the values
abbrev pub answer : {A : Type 0} → Bool → Pin → A → Result A Refusal
answer goodVolts p v = cond (not goodVolts) (Err refusal.Volts) (cond (not (bits p)) (Err refusal.Bits) (Ok v))

-- "Outputs and pins": what `driven` answers
abbrev pub driven : Pin → Result ℕ Refusal
driven p = answer true p (driven_bit p)

-- "Outputs and pins": what `effective_dir` answers
abbrev pub effective_dir : Pin → Result ℕ Refusal
effective_dir p = answer true p (direction p)

-- "Outputs and pins": what `contention` answers, a yes or no
abbrev pub contention : Pin → Drive → Result Bool Refusal
contention p d = answer (usable d) p (opposed p d)

-- "Outputs and pins": what `resolve` answers, the pin and whether its level changed
abbrev pub resolved : Pin → Drive → Ieee.Float → Result Resolved Refusal
resolved p d vcc =
    let q = settled p d vcc in
    answer (supplied vcc && usable d) p (record { pin = q; changed = not (eqb q.level p.level) })
