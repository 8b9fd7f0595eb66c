-- Laws of the dump's numbers: pins, and times, whose last five digits go round.
use Prim.Native.Nat.{ℕ, ◌+◌, ◌*◌, ◌/◌, ◌%◌, ◌≤◌, ◌<◌, ◌^◌}
use native.Mathlib.Omega.{arith}
use mathlib.Core.Path.{◌≡◌, ap, ◌∙◌}
use mathlib.Core.List.{List, [], ◌∷◌, ◌++◌, append_assoc}
use lib.ListN.{length, length-append}
use Rattle.figures.specs.Figures.{decimal}
use Rattle.figures.proofs.Writing.{decimal-more, decimal-length}
use Rattle.dump.specs.Dump.{five}

-- so has a pin three at most
pub pin_length : (n : ℕ) → n < 256 → length (decimal n) ≤ 3
pin_length n h = decimal-length 2 n (omega arith)

-- and a time 24
pub time_length : (n : ℕ) → n < 2 ^ 62 → length (decimal (62500 * n)) ≤ 24
time_length n h = decimal-length 23 (62500 * n) (omega arith)

-- so lines are as long as they may be
pub ruleset pin_widths = (pin_length, length-append)

-- one digit, and those before it
decimal_step : (n m d : ℕ) → 10 ≤ n → n / 10 ≡ m → n % 10 ≡ d → decimal n ≡ decimal m ++ (48 + d) ∷ []
decimal_step n m d h a b = decimal-more n h ∙ rw (a, b)

-- five digits, and those before them
decimal-five : (q r : ℕ) → 1 ≤ q → decimal (q * 100000 + r % 100000) ≡ decimal q ++ five r
decimal-five q r h =
    decimal_step (q * 100000 + r % 100000) (q * 10000 + r % 100000 / 10) (r % 10) (omega arith) (omega arith) (omega arith)
    ∙ ap (λ (l : List ℕ). l ++ (48 + r % 10) ∷ []) (decimal_step (q * 10000 + r % 100000 / 10) (q * 1000 + r % 100000 / 100) (r / 10 % 10) (omega arith) (omega arith) (omega arith)
    ∙ ap (λ (l : List ℕ). l ++ (48 + r / 10 % 10) ∷ []) (decimal_step (q * 1000 + r % 100000 / 100) (q * 100 + r % 100000 / 1000) (r / 100 % 10) (omega arith) (omega arith) (omega arith)
    ∙ ap (λ (l : List ℕ). l ++ (48 + r / 100 % 10) ∷ []) (decimal_step (q * 100 + r % 100000 / 1000) (q * 10 + r % 100000 / 10000) (r / 1000 % 10) (omega arith) (omega arith) (omega arith)
    ∙ ap (λ (l : List ℕ). l ++ (48 + r / 1000 % 10) ∷ []) (decimal_step (q * 10 + r % 100000 / 10000) q (r / 10000 % 10) (omega arith) (omega arith) (omega arith)))))
    ∙ simp append_assoc

-- a time's last five digits go round with the cycle's last three bits
pub time_five : (n : ℕ) → 2 ≤ n → decimal (62500 * n) ≡ decimal (n / 8 * 5 + n % 8 * 5 / 8) ++ five (n % 8 * 62500)
time_five n h =
    let e : 62500 * n ≡ (n / 8 * 5 + n % 8 * 5 / 8) * 100000 + n % 8 * 62500 % 100000 = omega arith in
    ap decimal e ∙ decimal-five (n / 8 * 5 + n % 8 * 5 / 8) (n % 8 * 62500) (omega arith)

pub time_five_length : (n : ℕ) → 2 ≤ n → length (decimal (62500 * n)) ≡ length (decimal (n / 8 * 5 + n % 8 * 5 / 8)) + 5
time_five_length n h = ap length (time_five n h) ∙ length-append (decimal (n / 8 * 5 + n % 8 * 5 / 8)) (five (n % 8 * 62500))
