-- A shift in numbers (02, 2.9).
use Rattle.std.specs.Prelude.{pos}
use Rattle.shift.specs.declared.Moved.{Moved}
use Rattle.shift.specs.declared.Moved.TheVariants as moved
use Rattle.replies.specs.declared.shifts.Shifted.{Shifted}

-- the refusal's number beside 0, or 0 beside the ticks
abbrev pub shifted_of : Moved → Shifted
shifted_of (moved.Refused n) = record { number = n; ticks = pos 0 }
shifted_of (moved.By z) = record { number = 0; ticks = z }
