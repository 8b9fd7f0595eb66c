-- The lines that show a timer (docs/SCRIPT.md, `state`, `distance`, `shift`).
use Rattle.std.specs.Prelude.{ℕ, ◌^◌, ◌-◌, Bool, cond, List, ◌++◌, pos, nat_abs, Option, Some, None, Result, Ok, Err}
use Rattle.std.specs.Int.Signed.{lt_z}
use Rattle.figures.specs.Figures.{text, number}
use Rattle.words.specs.Words.{exactly_of, and_then}
use Rattle.words.specs.Numbers.{next_of}
use Rattle.words.specs.declared.Unreadable.{Unreadable}
use Rattle.page.specs.Page.{unreadable_of}
use Rattle.counter.specs.declared.state.Timer.{Timer}
use Rattle.time.specs.declared.units.Cycle.{Cycle}
use Rattle.display.specs.States.{state_of, distance_text}
use Rattle.shift.specs.declared.Moved.{Moved}
use Rattle.shift.specs.declared.Moved.TheVariants as moved
use Rattle.shift.specs.Shift.{shift_of}

-- what a line that was read shows of the timer, unless there is none
unfoldable pub unless_none : {A : Type 0} → Option Timer → ℕ → Result A Unreadable → (Timer → A → List ℕ) → List ℕ
unless_none t nth (Err why) shown = unreadable_of nth why
unless_none None nth (Ok x) shown = text "no timer"
unless_none (Some t) nth (Ok x) shown = shown t x

-- "`state` shows the timer as it stands", `distance` how far its next event lies
abbrev pub state_line : Option Timer → ℕ → List ℕ → ℕ → Bool → List ℕ
state_line t nth line at far = unless_none t nth (exactly_of line at 0) (λ t _. cond far (distance_text t) (state_of t))

-- "ok shift=S": decimal, with `-` before it where the second comes first; or the refusal
unfoldable pub moved_of : Moved → List ℕ
moved_of (moved.Refused n) = text "refused " ++ number n
moved_of (moved.By by) = cond (lt_z by (pos 0)) (text "ok shift=-" ++ number (nat_abs by)) (text "ok shift=" ++ number (nat_abs by))

-- "shift FIRST SECOND"
unfoldable pub edges_of : List ℕ → ℕ → Result (Cycle × Cycle) Unreadable
edges_of line at =
    and_then (exactly_of line at 2) (λ _.
    and_then (next_of line at 10 (2 ^ 64 - 1)) (λ first.
    and_then (next_of line first.end 10 (2 ^ 64 - 1)) (λ second.
    Ok (record { 0 = first.value }, record { 0 = second.value }))))

abbrev pub shift_line : Option Timer → ℕ → List ℕ → ℕ → List ℕ
shift_line t nth line at = unless_none t nth (edges_of line at) (λ t e. moved_of (shift_of t e.0.0 e.1.0))
