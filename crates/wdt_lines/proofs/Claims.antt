-- The claims hold.
use Prim.Native.Nat.{ℕ, ◌+◌, ◌*◌, ◌≤◌}
use native.Mathlib.Omega.{arith}
use mathlib.Core.List.{List}
use lib.Dec.{eqb}
use lib.ListN.{length, length-replicate}
use Rattle.std.specs.Prelude.{Option, Some, None, Result, Ok, Err, IfOk}
use Rattle.figures.specs.Figures.{codes}
use Rattle.words.specs.Words.{skip_of, find_of, place_of, exactly_of}
use Rattle.words.specs.Numbers.{between, next_of}
use Rattle.words.specs.declared.Unreadable.{Unreadable}
use Rattle.words.proofs.Numerals.{next-most, and_then-ok}
use Rattle.tick.proofs.Choices.{cond-all}
use Rattle.page.proofs.Lengths.{unreadable-short}
use Rattle.room.specs.Room.{filled}
use Rattle.oscillator.specs.Oscillator.{ticks}
use Rattle.oscillator.specs.declared.state.Watchdog.{Watchdog}
use Rattle.watchdog.specs.Calls.{answered}
use Rattle.watchdog.specs.declared.calls.Call.{Call}
use Rattle.watchdog.specs.declared.calls.Call.TheVariants as call
use Rattle.wdt_lines.specs.declared.asked.Asked.{Asked}
use Rattle.wdt_lines.specs.declared.asked.Asked.TheVariants as asked
use Rattle.wdt_lines.specs.declared.asked.Command.{Command}
use Rattle.wdt_lines.specs.declared.asked.Command.TheVariants as command
use Rattle.wdt_lines.specs.Asked.{names, command_of, plain_of, advance_of, write_of, alone_of, asked_of, named_of, line_of, Sized}
use Rattle.wdt_lines.specs.Called.{Lined, called_of, heard_of, read_of}
use Rattle.wdt_lines.specs.Claims.{Short}
use Rattle.wdt_lines.proofs.Lengths.{answered-area, told-short, state-short}

-- ---- a line asks for 4,096 bytes at most

abbrev Fine : Result Asked Unreadable → Type 0
Fine r = IfOk r Sized

plain-sized : (line : List ℕ) (at : ℕ) (c : Call) → Fine (plain_of line at c)
unfolding plain_of
plain-sized line at c = and_then-ok Sized (exactly_of line at 1) _ (λ x e. and_then-ok Sized (next_of line at 10 _) _ (λ t f. omega arith))

asked-sized : (line : List ℕ) (at : ℕ) (c : Command) → Fine (asked_of line at c)
unfolding asked_of advance_of write_of alone_of
asked-sized line at command.Advance =
    and_then-ok Sized (exactly_of line at 2) _ (λ x e.
    and_then-ok Sized (next_of line at 10 _) _ (λ t f.
    and_then-ok Sized (next_of line t.end 10 4096) _ (λ s g. let m = next-most line t.end 10 4096 in rw g at m)))
asked-sized line at command.Write =
    and_then-ok Sized (exactly_of line at 2) _ (λ x e. and_then-ok Sized (next_of line at 16 255) _ (λ v f. and_then-ok Sized (next_of line v.end 10 _) _ (λ t g. omega arith)))
asked-sized line at command.Next = plain-sized line at call.Next
asked-sized line at command.Wdr = plain-sized line at call.Wdr
asked-sized line at command.Serve = plain-sized line at call.Serve
asked-sized line at command.Read = plain-sized line at call.Read
asked-sized line at command.New = and_then-ok Sized (exactly_of line at 0) _ (λ x e. tt)
asked-sized line at command.State = and_then-ok Sized (exactly_of line at 0) _ (λ x e. tt)

named-sized : (line : List ℕ) (end : ℕ) (n : Option ℕ) → Fine (named_of line end n)
unfolding named_of
named-sized line end (Some n) = asked-sized line end (command_of n)
named-sized line end None = tt

line-sized : (line : List ℕ) (at : ℕ) → Fine (line_of line at)
unfolding line_of
line-sized line at =
    let start = skip_of line at in
    let end = find_of line start 32 in
    cond-all Fine (eqb start (length line)) tt (named-sized line end (place_of names (between line start end)))

-- ---- and so its answer is short

abbrev Brief : Lined → Type 0
Brief x = length x.bytes ≤ 120 + 2 * 4096

called-brief : (w : Watchdog) (c : Call) (cycle size : ℕ) → size ≤ 4096 → Brief (called_of w c cycle size)
unfolding filled
called-brief w c cycle size h =
    let x = answered ticks w c cycle (filled size) in
    omega (arith, told-short x, answered-area w c cycle (filled size), length-replicate {A = ℕ} size 165)

heard-brief : (w : Option Watchdog) (q : Asked) (area : List ℕ) → Sized q → Brief (heard_of w q area)
unfolding codes heard_of
heard-brief w asked.New area h = omega arith
heard-brief None asked.State area h = omega arith
heard-brief None (asked.Call c cycle size) area h = omega arith
heard-brief (Some w) asked.State area h = omega (arith, state-short w)
heard-brief (Some w) (asked.Call c cycle size) area h = called-brief w c cycle size h

read-brief : (w : Option Watchdog) (nth : ℕ) (r : Result Asked Unreadable) (area : List ℕ) → Fine r → Brief (read_of w nth r area)
unfolding read_of
read-brief w nth (Ok q) area h = heard-brief w q area h
read-brief w nth (Err why) area h = omega (arith, unreadable-short nth why)

pub short : Short
short w nth line at area = read-brief w nth (line_of line at) area (line-sized line at)
