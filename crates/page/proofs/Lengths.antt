-- How long an answer is: the lengths of its parts add up, and a choice is no longer than its longer side.
use Prim.Native.Nat.{ℕ, zero, suc, ◌+◌, ◌≤◌}
use Prim.Native.String.{String}
use native.Mathlib.Omega.{arith}
use mathlib.Core.Bool.{Bool, true, false, cond}
use mathlib.Core.List.{List, ◌++◌}
use mathlib.Core.Path.{◌≡◌, refl}
use lib.ListN.{length, length-append}
use Rattle.words.specs.declared.Unreadable.{Unreadable}
use Rattle.words.specs.declared.Unreadable.TheVariants as unreadable
use Rattle.figures.specs.Figures.{codes, number}
use Rattle.figures.proofs.Writing.{number_short}
use Rattle.page.specs.Page.{last_digits, pair, pattern, flag, reason_of, unreadable_of}

pub codes-length : (s : String) (n : ℕ) → length (codes s n) ≡ n
unfolding codes
codes-length s zero = refl
codes-length s (suc n) = simp (length-append, codes-length s n) (omega arith)

digits-length : (base k n : ℕ) → length (last_digits base k n) ≡ k
digits-length base zero n = refl
digits-length base (suc k) n = simp (length-append, digits-length base k) (omega arith)

pub pair-length : (b : ℕ) → length (pair b) ≡ 2
unfolding pair
pair-length b = digits-length 16 2 b

pub pattern-length : (n : ℕ) → length (pattern n) ≡ 16
unfolding pattern
pattern-length n = digits-length 16 16 n

pub flag-length : (b : Bool) → length (flag b) ≡ 1
unfolding flag
flag-length b = refl

-- ---- answers

-- so many bytes at most
abbrev pub Upto : ℕ → List ℕ → Type 0
Upto most bytes = length bytes ≤ most

-- a text
pub said : (s : String) {k most : ℕ} → k ≤ most → Upto most (codes s k)
said s {k} h = rw (codes-length s k) h

-- a text and a number
pub numbered : (s : String) (k n : ℕ) {most : ℕ} → k + 20 ≤ most → Upto most (codes s k ++ number n)
numbered s k n h = let l = number_short n in simp (length-append, codes-length) (omega arith)

-- either side of a choice
pub either : {A : Type 0} (Q : A → Type 0) (b : Bool) {x y : A} → Q x → Q y → Q (cond b x y)
either Q true h k = h
either Q false h k = k

reason-short : (why : Unreadable) → Upto 18 (reason_of why)
unfolding reason_of
reason-short unreadable.UnknownCommand = said _ (omega arith)
reason-short unreadable.UnknownKey = said _ (omega arith)
reason-short unreadable.UnknownName = said _ (omega arith)
reason-short unreadable.MissingWord = said _ (omega arith)
reason-short unreadable.ExtraWord = said _ (omega arith)
reason-short unreadable.Malformed = said _ (omega arith)
reason-short unreadable.TooLarge = said _ (omega arith)
reason-short unreadable.TooLong = said _ (omega arith)
reason-short unreadable.NotOpened = said _ (omega arith)

pub unreadable-short : (nth : ℕ) (why : Unreadable) → Upto 49 (unreadable_of nth why)
unfolding unreadable_of
unreadable-short nth why =
    let h = number_short nth in
    let k = reason-short why in
    simp (length-append, codes-length) (omega arith)
