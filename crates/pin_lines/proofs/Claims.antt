-- How long the answer of a pin's line may be.
use Rattle.std.proofs.Common.{ℕ, Bool, arith, Result, Ok, Err}
use lib.ListN.{length-append}
use Rattle.figures.proofs.Writing.{number_short}
use Rattle.page.proofs.Lengths.{Upto, numbered, codes-length, pattern-length, flag-length, unreadable-short}
use Rattle.words.specs.declared.Unreadable.{Unreadable}
use Rattle.pins.specs.declared.Refusal.{Refusal}
use Rattle.pins.specs.declared.Resolved.{Resolved}
use Rattle.pins.specs.Pins.{number_of}
use Rattle.pin_lines.specs.declared.Keys.{Keys}
use Rattle.pin_lines.specs.PinLines.{keys_of, outcome_of, resolved_line, answer_line, pin_of_line}
use Rattle.pin_lines.specs.Claims.{ShortPin}

resolved-short : (r : Resolved) (opposed : Bool) → Upto 75 (resolved_line r opposed)
unfolding resolved_line
resolved-short r opposed = let h = number_short r.pin.level in simp (length-append, codes-length, pattern-length, flag-length) (omega arith)

answer-short : (r : Result (Resolved × Bool) Refusal) → Upto 75 (answer_line r)
unfolding answer_line
answer-short (Ok r) = resolved-short r.0 r.1
answer-short (Err why) = numbered _ _ (number_of why) (omega arith)

line-short : (nth : ℕ) (k : Result Keys Unreadable) → Upto 75 (pin_of_line nth k)
unfolding pin_of_line
line-short nth (Ok k) = answer-short (outcome_of k)
line-short nth (Err why) = let h = unreadable-short nth why in omega arith

pub short-pin : ShortPin
short-pin nth line at = line-short nth (keys_of line at)
