-- Which of the timer's lines a line is, by its first word.
use Rattle.std.specs.Prelude.{ℕ, false, true, cond, eqb, ltb, List, Option, Some, None, option_map}
use Rattle.std.specs.Str.{bytes_eq}
use Rattle.figures.specs.Figures.{text}
use Rattle.counter.specs.declared.state.Timer.{Timer}
use Rattle.timer_lines.specs.declared.asked.Name.{Name}
use Rattle.timer_lines.specs.declared.asked.Name.TheVariants as name
use Rattle.timer_lines.specs.declared.named.Command.{Command}
use Rattle.timer_lines.specs.declared.named.Command.TheVariants as command
use Rattle.timer_lines.specs.Asked.{name_at}
use Rattle.timer_lines.specs.Called.{Lined, saying, call_line}
use Rattle.timer_lines.specs.Shown.{state_line, shift_line}

-- the command of each place among the names: the calls, then `state`, `distance` and `shift`; behind them `state`
unfoldable pub command_at : ℕ → Command
command_at place =
    cond (ltb place 18) (command.Call (name_at place))
    (cond (eqb place 19) command.Distance
    (cond (eqb place 20) command.Shift command.State))

-- the calls
unfoldable pub call_named : List ℕ → Option Name
call_named word =
    cond (bytes_eq word (text "advance")) (Some name.Advance)
    (cond (bytes_eq word (text "next")) (Some name.Next)
    (cond (bytes_eq word (text "reset")) (Some name.Reset)
    (cond (bytes_eq word (text "wake")) (Some name.Wake)
    (cond (bytes_eq word (text "tifr")) (Some name.Tifr)
    (cond (bytes_eq word (text "timsk")) (Some name.Timsk)
    (cond (bytes_eq word (text "read")) (Some name.Read)
    (cond (bytes_eq word (text "peek")) (Some name.Peek)
    (cond (bytes_eq word (text "prr")) (Some name.Prr)
    (cond (bytes_eq word (text "wtifr")) (Some name.Wtifr)
    (cond (bytes_eq word (text "wtimsk")) (Some name.Wtimsk)
    (cond (bytes_eq word (text "presc")) (Some name.Presc)
    (cond (bytes_eq word (text "route")) (Some name.Route)
    (cond (bytes_eq word (text "acout")) (Some name.Acout)
    (cond (bytes_eq word (text "sleep")) (Some name.Sleep)
    (cond (bytes_eq word (text "tsm")) (Some name.Tsm)
    (cond (bytes_eq word (text "write")) (Some name.Write)
    (cond (bytes_eq word (text "edge")) (Some name.Edge) None)))))))))))))))))

-- the commands: `state`, `distance` and `shift`, and the calls
unfoldable pub named_of : List ℕ → Option Command
named_of word =
    cond (bytes_eq word (text "state")) (Some command.State)
    (cond (bytes_eq word (text "distance")) (Some command.Distance)
    (cond (bytes_eq word (text "shift")) (Some command.Shift) (option_map command.Call (call_named word))))

-- the line of a command, from the place after its name
unfoldable pub timer_line : Option Timer → ℕ → List ℕ → ℕ → Command → List ℕ → Lined
timer_line t nth line at (command.Call name) area = call_line t nth line at name area
timer_line t nth line at command.State area = saying t area (state_line t nth line at false)
timer_line t nth line at command.Distance area = saying t area (state_line t nth line at true)
timer_line t nth line at command.Shift area = saying t area (shift_line t nth line at)
