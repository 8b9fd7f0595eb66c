-- What is proved of the timer's lines beside the functions.
use Rattle.std.specs.Prelude.{ℕ, ◌+◌, ◌*◌, ◌≤◌, ◌≡◌, Bool, List, length, Option, Some}
use Rattle.counter.specs.declared.state.Timer.{Timer}
use Rattle.timer_lines.specs.declared.asked.Name.TheVariants as name
use Rattle.timer_lines.specs.declared.named.Command.{Command}
use Rattle.timer_lines.specs.declared.named.Command.TheVariants as command
use Rattle.timer_lines.specs.Made.{config_line}
use Rattle.timer_lines.specs.Named.{named_of, timer_line}

-- no answer is longer, for any timer, line and area: a call has 4,096 bytes at most, two digits each
abbrev pub Short : Type 0
Short = (t : Option Timer) (nth : ℕ) (line : List ℕ) (at : ℕ) (command : Command) (area : List ℕ) → length (timer_line t nth line at command area).bytes ≤ 105 + 2 * 4096

-- nor one of `config` and `preset`
abbrev pub ShortConfig : Type 0
ShortConfig = (t : Option Timer) (nth : ℕ) (line : List ℕ) (at : ℕ) (preset : Bool) → length (config_line t nth line at preset).bytes ≤ 49

-- a line's first word never names the call beyond the names
abbrev pub NamedAlone : Type 0
NamedAlone = (word : List ℕ) → named_of word ≡ Some (command.Call name.Beyond) → ⊥
