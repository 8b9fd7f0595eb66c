-- What a line asks of the board (docs/SCRIPT.md, "The board"): its words from left to right, as its name asks for them.
use Rattle.std.specs.Prelude.{ℕ, ◌+◌, ◌%◌, ◌^◌, ◌-◌, cond, List, ◌==◌, length, Option, Some, None, is_some, ok_or, Result, Ok, Err}
use Rattle.std.specs.Str.{bytes_eq}
use Rattle.figures.specs.Figures.{text}
use Rattle.words.specs.Words.{exactly_of, skip_of, find_of, and_then}
use Rattle.words.specs.Numbers.{between, next_of}
use Rattle.words.specs.declared.Taken.{Taken}
use Rattle.words.specs.declared.Unreadable.{Unreadable}
use Rattle.words.specs.declared.Unreadable.TheVariants as unreadable
use Rattle.m328p.specs.declared.Id.{Id}
use Rattle.m328p.specs.declared.Id.TheVariants as id
use Rattle.aims.specs.declared.Order.{Order}
use Rattle.aims.specs.declared.Order.TheVariants as order
use Rattle.board_lines.specs.declared.asked.Asked.{Asked}
use Rattle.board_lines.specs.declared.asked.Asked.TheVariants as asked
use Rattle.board_lines.specs.declared.asked.Name.{Name}
use Rattle.board_lines.specs.declared.asked.Name.TheVariants as name
use Rattle.board_lines.specs.declared.asked.Kind.{Kind}
use Rattle.board_lines.specs.declared.asked.Kind.TheVariants as kind

-- the order of a name
unfoldable pub named_of : List ℕ → Option Name
named_of word =
    cond (bytes_eq word (text "advance")) (Some name.Advance)
    (cond (bytes_eq word (text "next")) (Some name.Next)
    (cond (bytes_eq word (text "reset")) (Some name.Reset)
    (cond (bytes_eq word (text "tifr")) (Some name.Tifr)
    (cond (bytes_eq word (text "timsk")) (Some name.Timsk)
    (cond (bytes_eq word (text "edge")) (Some name.Edge)
    (cond (bytes_eq word (text "route")) (Some name.Route)
    (cond (bytes_eq word (text "acout")) (Some name.Acout)
    (cond (bytes_eq word (text "wtifr")) (Some name.Wtifr)
    (cond (bytes_eq word (text "wtimsk")) (Some name.Wtimsk)
    (cond (bytes_eq word (text "write")) (Some name.Write)
    (cond (bytes_eq word (text "read")) (Some name.Read)
    (cond (bytes_eq word (text "peek")) (Some name.Peek)
    (cond (bytes_eq word (text "sleep")) (Some name.Sleep)
    (cond (bytes_eq word (text "prr")) (Some name.Prr)
    (cond (bytes_eq word (text "wake")) (Some name.Wake) None)))))))))))))))

-- the words that follow a name, before the cycle and the size: "T is a timer's id", a level, a pin or a mode, decimal; a value, and PRR, "the sheet's byte", hexadecimal; an address
unfoldable pub kinds_of : Name → Option Kind × Option Kind × Option Kind
kinds_of name.Advance = (Some kind.Timer, None, None)
kinds_of name.Next = (Some kind.Timer, None, None)
kinds_of name.Reset = (Some kind.Timer, None, None)
kinds_of name.Tifr = (Some kind.Timer, None, None)
kinds_of name.Timsk = (Some kind.Timer, None, None)
kinds_of name.Edge = (Some kind.Timer, Some kind.Decimal, Some kind.Decimal)
kinds_of name.Route = (Some kind.Timer, Some kind.Decimal, None)
kinds_of name.Acout = (Some kind.Timer, Some kind.Decimal, None)
kinds_of name.Wtifr = (Some kind.Timer, Some kind.Hexadecimal, None)
kinds_of name.Wtimsk = (Some kind.Timer, Some kind.Hexadecimal, None)
kinds_of name.Write = (Some kind.Address, Some kind.Hexadecimal, None)
kinds_of name.Read = (Some kind.Address, None, None)
kinds_of name.Peek = (Some kind.Address, None, None)
kinds_of name.Sleep = (Some kind.Decimal, None, None)
kinds_of name.Prr = (Some kind.Hexadecimal, None, None)
kinds_of name.Wake = (None, None, None)

-- the next word, of a kind: a timer's id is "0 to 2"; where there is none it is a 0 that takes no word
unfoldable pub word_of : List ℕ → ℕ → Option Kind → Result Taken Unreadable
word_of line at (Some kind.Timer) = next_of line at 10 2
word_of line at (Some kind.Decimal) = next_of line at 10 255
word_of line at (Some kind.Hexadecimal) = next_of line at 16 255
word_of line at (Some kind.Address) = next_of line at 16 65535
word_of line at None = Ok (record { value = 0; end = at })

-- the id of a number
unfoldable pub id_of : ℕ → Id
id_of n = cond (n == 0) id.Zero (cond (n == 1) id.One id.Two)

-- the order of each name with its words
unfoldable pub order_of : Name → ℕ → ℕ → ℕ → Order
order_of name.Advance a b c = order.Advance (id_of a)
order_of name.Next a b c = order.Next (id_of a)
order_of name.Reset a b c = order.Reset (id_of a)
order_of name.Tifr a b c = order.Tifr (id_of a)
order_of name.Timsk a b c = order.Timsk (id_of a)
order_of name.Edge a b c = order.Edge (id_of a) (b % 256) (c % 256)
order_of name.Route a b c = order.Route (id_of a) (b % 256)
order_of name.Acout a b c = order.Output (id_of a) (b % 256)
order_of name.Wtifr a b c = order.WriteTifr (id_of a) (b % 256)
order_of name.Wtimsk a b c = order.WriteTimsk (id_of a) (b % 256)
order_of name.Write a b c = order.Write (a % 65536) (b % 256)
order_of name.Read a b c = order.Read (a % 65536)
order_of name.Peek a b c = order.Peek (a % 65536)
order_of name.Sleep a b c = order.Sleep (a % 256)
order_of name.Prr a b c = order.Reduce (a % 256)
order_of name.Wake a b c = order.Wake

-- one where there is a word
abbrev pub words_in : Option Kind → ℕ
words_in kind = cond (is_some kind) 1 0

-- the words of an order, counted first, with its cycle, and the size of each area
unfoldable pub call_of : List ℕ → ℕ → Name → Result Asked Unreadable
call_of line at name =
    let kinds = kinds_of name in
    and_then (exactly_of line at (words_in kinds.0 + words_in kinds.1 + words_in kinds.2 + 2)) (λ _.
    and_then (word_of line at kinds.0) (λ a.
    and_then (word_of line a.end kinds.1) (λ b.
    and_then (word_of line b.end kinds.2) (λ c.
    and_then (next_of line c.end 10 (2 ^ 64 - 1)) (λ cycle.
    and_then (next_of line cycle.end 10 4096) (λ size.
    Ok (asked.Call (order_of name a.value b.value c.value) cycle.value size.value)))))))

-- `new` and `state` have no words
abbrev pub alone : List ℕ → ℕ → Asked → Result Asked Unreadable
alone line at q = and_then (exactly_of line at 0) (λ _. Ok q)

-- by the name: "missing word" where there is none, "unknown command" of any other
unfoldable pub asked_of : List ℕ → ℕ → Result Asked Unreadable
asked_of line at =
    let start = skip_of line at in
    let end = find_of line start 32 in
    let name = between line start end in
    cond (start == length line) (Err unreadable.MissingWord)
    (cond (bytes_eq name (text "new")) (alone line end asked.New)
    (cond (bytes_eq name (text "state")) (alone line end asked.State)
    (and_then (ok_or (named_of name) unreadable.UnknownCommand) (call_of line end))))

-- the size of each area, of an order
abbrev pub size_of : Asked → ℕ
size_of asked.New = 0
size_of asked.State = 0
size_of (asked.Call order cycle size) = size
