-- What a watchdog's line asks for (docs/SCRIPT.md, "The watchdog"): its command, and its words from left to right.
use Rattle.std.specs.Prelude.{ℕ, ◌%◌, ◌^◌, ◌-◌, ◌≤◌, cond, List, eqb, ltb, length, Option, Some, None, Result, Ok, Err, ⊤}
use Rattle.figures.specs.Figures.{text}
use Rattle.words.specs.Words.{skip_of, find_of, place_of, exactly_of, and_then}
use Rattle.words.specs.Numbers.{between, next_of}
use Rattle.words.specs.declared.Unreadable.{Unreadable}
use Rattle.words.specs.declared.Unreadable.TheVariants as unreadable
use Rattle.watchdog.specs.declared.calls.Call.{Call}
use Rattle.watchdog.specs.declared.calls.Call.TheVariants as call
use Rattle.wdt_lines.specs.declared.asked.Asked.{Asked}
use Rattle.wdt_lines.specs.declared.asked.Asked.TheVariants as asked
use Rattle.wdt_lines.specs.declared.asked.Command.{Command}
use Rattle.wdt_lines.specs.declared.asked.Command.TheVariants as command

-- the names of the commands: the calls, then `new` and `state`
abbrev pub names : List ℕ
names = text "advance write next wdr serve read new state"

-- the command of each, in their order
unfoldable pub command_of : ℕ → Command
command_of n =
    cond (eqb n 0) command.Advance
    (cond (eqb n 1) command.Write
    (cond (eqb n 2) command.Next
    (cond (eqb n 3) command.Wdr
    (cond (eqb n 4) command.Serve
    (cond (eqb n 5) command.Read
    (cond (eqb n 6) command.New command.State))))))

-- a call that has a cycle alone, 64 bits
unfoldable pub plain_of : List ℕ → ℕ → Call → Result Asked Unreadable
plain_of line at c = and_then (exactly_of line at 1) (λ _. and_then (next_of line at 10 (2 ^ 64 - 1)) (λ t. Ok (asked.Call c t.value 0)))

-- `advance CYCLE AREA`: "only the advance has an area", its size in bytes, to 4,096
unfoldable pub advance_of : List ℕ → ℕ → Result Asked Unreadable
advance_of line at =
    and_then (exactly_of line at 2) (λ _. and_then (next_of line at 10 (2 ^ 64 - 1)) (λ t. and_then (next_of line t.end 10 4096) (λ s. Ok (asked.Call call.Advance t.value s.value))))

-- `write VALUE CYCLE`: "the value is WDTCSR, hexadecimal"
unfoldable pub write_of : List ℕ → ℕ → Result Asked Unreadable
write_of line at =
    and_then (exactly_of line at 2) (λ _. and_then (next_of line at 16 255) (λ v. and_then (next_of line v.end 10 (2 ^ 64 - 1)) (λ t. Ok (asked.Call (call.Write (v.value % 256)) t.value 0))))

-- `new`, `state`: no words
unfoldable pub alone_of : List ℕ → ℕ → Asked → Result Asked Unreadable
alone_of line at q = and_then (exactly_of line at 0) (λ _. Ok q)

-- what follows each command
unfoldable pub asked_of : List ℕ → ℕ → Command → Result Asked Unreadable
asked_of line at command.Advance = advance_of line at
asked_of line at command.Write = write_of line at
asked_of line at command.Next = plain_of line at call.Next
asked_of line at command.Wdr = plain_of line at call.Wdr
asked_of line at command.Serve = plain_of line at call.Serve
asked_of line at command.Read = plain_of line at call.Read
asked_of line at command.New = alone_of line at asked.New
asked_of line at command.State = alone_of line at asked.State

-- by the place of the name among the commands; behind them no words, and WDTCSR is read at cycle 0
unfoldable pub placed_of : List ℕ → ℕ → ℕ → Result Asked Unreadable
placed_of line at place = cond (ltb place 8) (asked_of line at (command_of place)) (alone_of line at (asked.Call call.Read 0 0))

-- "unknown command"
unfoldable pub named_of : List ℕ → ℕ → Option ℕ → Result Asked Unreadable
named_of line end (Some n) = asked_of line end (command_of n)
named_of line end None = Err unreadable.UnknownCommand

-- from the place after `wdt`; "missing word"
unfoldable pub line_of : List ℕ → ℕ → Result Asked Unreadable
line_of line at =
    let start = skip_of line at in
    let end = find_of line start 32 in
    cond (eqb start (length line)) (Err unreadable.MissingWord) (named_of line end (place_of names (between line start end)))

-- an area's size is 4,096 at most
abbrev pub Sized : Asked → Type 0
Sized (asked.Call c cycle size) = size ≤ 4096
Sized asked.New = ⊤
Sized asked.State = ⊤
