-- Kinds of mode and sources of TOP, as numbers with names (01, "Count, direction, next event").
-- The sheet: "Modes of Operation".
use Rattle.std.specs.Prelude.{ℕ}

-- kinds: normal, CTC, fast PWM, phase correct PWM, phase and frequency correct PWM
abbrev pub N : ℕ
N = 0

abbrev pub C : ℕ
C = 1

abbrev pub F : ℕ
F = 2

abbrev pub P : ℕ
P = 3

abbrev pub Q : ℕ
Q = 4

-- sources of TOP: fixed by the mode, OCRnA, ICRn
abbrev pub X : ℕ
X = 0

abbrev pub A : ℕ
A = 1

abbrev pub I : ℕ
I = 2
