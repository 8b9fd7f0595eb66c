-- How long the answer of a timer's line may be.
use Rattle.std.proofs.Common.{ℕ, ◌+◌, ◌*◌, ◌≤◌, Bool, true, false, cond, nat_lt, nat_eq, List, length, arith, pos, nat_abs, Option, Some, None, Result, Ok, Err, IfOk}
use lib.ListN.{length-replicate}
use lib.Signed.{lt_z}
use Rattle.words.specs.declared.Unreadable.{Unreadable}
use Rattle.words.specs.Words.{exactly_of}
use Rattle.words.proofs.Numerals.{next-most, and_then-ok}
use Rattle.page.proofs.Lengths.{Upto, said, numbered, either, unreadable-short}
use Rattle.room.specs.Room.{filled, changed_at}
use Rattle.config.specs.declared.Config.{Config}
use Rattle.counter.specs.Fresh.{started_of}
use Rattle.counter.specs.declared.state.Timer.{Timer}
use Rattle.timer.proofs.Areas.{answered-area}
use Rattle.answers.specs.declared.Outcome.{Outcome}
use Rattle.display.proofs.Claims.{short-answer, short-state, short-distance}
use Rattle.script.specs.Configs.{of_keys, of_preset}
use Rattle.shift.specs.declared.Moved.{Moved}
use Rattle.shift.specs.declared.Moved.TheVariants as moved
use Rattle.shift.specs.Shift.{shift_of}
use Rattle.timer_lines.specs.declared.asked.Asked.{Asked}
use Rattle.timer_lines.specs.declared.asked.Name.{Name}
use Rattle.timer_lines.specs.declared.named.Command.TheVariants as command
use Rattle.timer_lines.specs.Asked.{asked_of}
use Rattle.timer_lines.specs.Called.{Lined, told_of, outcome_of, answered_by, called_of, heard_of}
use Rattle.timer_lines.specs.Made.{Configured, made_of}
use Rattle.timer_lines.specs.Named.{timer_line}
use Rattle.timer_lines.specs.Shown.{unless_none, moved_of, edges_of, state_line}
use Rattle.timer_lines.specs.Claims.{Short, ShortConfig}

-- ---- calls

asked-size : (line : List ℕ) (at : ℕ) (n : Name) → IfOk (asked_of line at n) (λ q. q.size ≤ 4096)
unfolding asked_of
asked-size line at n =
    and_then-ok _ _ _ (λ _ _. and_then-ok _ _ _ (λ a _. and_then-ok _ _ _ (λ b _. and_then-ok _ _ _ (λ cycle _. and_then-ok _ _ _ (λ size e. rw e at (next-most line cycle.end 10 4096))))))

told-short : (o : Outcome) (area : List ℕ) → Upto (105 + 2 * length area) (told_of o area)
unfolding told_of
told-short o area = either (Upto (105 + 2 * length area)) (nat_lt (changed_at area o.written) (length area)) (numbered _ _ (changed_at area o.written) (omega arith)) (short-answer o area)

abbrev Brief : Lined → Type 0
Brief x = length x.bytes ≤ 105 + 2 * 4096

called-short : (t : Timer) (q : Asked) → q.size ≤ 4096 → Brief (called_of t q q.size)
unfolding filled
called-short t q h =
    let x = answered_by t q q.size in
    omega (arith, told-short (outcome_of x) x.area, answered-area t q.call q.cycle (filled q.size), length-replicate {A = ℕ} q.size 165)

heard-short : (t : Option Timer) (nth : ℕ) (r : Result Asked Unreadable) (area : List ℕ) → IfOk r (λ q. q.size ≤ 4096) → Brief (heard_of t nth r area)
unfolding heard_of
heard-short t nth (Err why) area h = omega (arith, unreadable-short nth why)
heard-short None nth (Ok q) area h = said _ (omega arith)
heard-short (Some t) nth (Ok q) area h = called-short t q h

-- ---- what is shown

shown-short : {A : Type 0} (t : Option Timer) (nth : ℕ) (r : Result A Unreadable) (shown : Timer → A → List ℕ) → ((t : Timer) (x : A) → Upto 597 (shown t x)) → Upto 597 (unless_none t nth r shown)
unfolding unless_none
shown-short t nth (Err why) shown h = omega (arith, unreadable-short nth why)
shown-short None nth (Ok x) shown h = said _ (omega arith)
shown-short (Some t) nth (Ok x) shown h = h t x

moved-short : (m : Moved) → Upto 597 (moved_of m)
unfolding moved_of
moved-short (moved.Refused n) = numbered _ _ n (omega arith)
moved-short (moved.By by) = either (Upto 597) (lt_z by (pos 0)) (numbered _ _ (nat_abs by) (omega arith)) (numbered _ _ (nat_abs by) (omega arith))

state-short : (t : Option Timer) (nth : ℕ) (line : List ℕ) (at : ℕ) (far : Bool) → Upto 597 (state_line t nth line at far)
state-short t nth line at far = shown-short t nth (exactly_of line at 0) _ (λ t x. either (Upto 597) far (omega (arith, short-distance t)) (short-state t))

pub short : Short
unfolding timer_line
short t nth line at (command.Call name) area = heard-short t nth (asked_of line at name) area (asked-size line at name)
short t nth line at command.State area = omega (arith, state-short t nth line at false)
short t nth line at command.Distance area = omega (arith, state-short t nth line at true)
short t nth line at command.Shift area = omega (arith, shown-short t nth (edges_of line at) _ (λ t e. moved-short (shift_of t e.0.0 e.1.0)))

-- ---- `config` and `preset`

abbrev Few : Configured → Type 0
Few x = length x.bytes ≤ 49

made-short : (t : Option Timer) (nth : ℕ) (given : Result Config Unreadable) → Few (made_of t nth given)
unfolding made_of
made-short t nth (Err why) = unreadable-short nth why
made-short t nth (Ok c) = either Few (nat_eq (started_of c).number 0) (said _ (omega arith)) (said _ (omega arith))

pub short-config : ShortConfig
short-config t nth line at preset = made-short t nth (cond preset (of_preset line at) (of_keys line at))
