-- What a call's line asks for (docs/SCRIPT.md, "Calls"): its words from left to right, as its name asks for them.
use Rattle.std.specs.Prelude.{ℕ, ◌+◌, ◌%◌, ◌^◌, ◌-◌, cond, eqb, List, Option, Some, None, is_some, Result, Ok}
use Rattle.words.specs.Words.{exactly_of, and_then}
use Rattle.words.specs.Numbers.{next_of}
use Rattle.words.specs.declared.Taken.{Taken}
use Rattle.words.specs.declared.Unreadable.{Unreadable}
use Rattle.timer.specs.declared.calls.Call.{Call}
use Rattle.timer.specs.declared.calls.Call.TheVariants as call
use Rattle.timer_lines.specs.declared.asked.Asked.{Asked}
use Rattle.timer_lines.specs.declared.asked.Name.{Name}
use Rattle.timer_lines.specs.declared.asked.Name.TheVariants as name
use Rattle.timer_lines.specs.declared.asked.Kind.{Kind}
use Rattle.timer_lines.specs.declared.asked.Kind.TheVariants as kind

-- the call of each place among the names, in the order of the commands; behind them an edge without its level
unfoldable pub name_at : ℕ → Name
name_at place =
    cond (eqb place 0) name.Advance
    (cond (eqb place 1) name.Next
    (cond (eqb place 2) name.Reset
    (cond (eqb place 3) name.Wake
    (cond (eqb place 4) name.Tifr
    (cond (eqb place 5) name.Timsk
    (cond (eqb place 6) name.Read
    (cond (eqb place 7) name.Peek
    (cond (eqb place 8) name.Prr
    (cond (eqb place 9) name.Wtifr
    (cond (eqb place 10) name.Wtimsk
    (cond (eqb place 11) name.Presc
    (cond (eqb place 12) name.Route
    (cond (eqb place 13) name.Acout
    (cond (eqb place 14) name.Sleep
    (cond (eqb place 15) name.Tsm
    (cond (eqb place 16) name.Write
    (cond (eqb place 17) name.Edge name.Beyond)))))))))))))))))

-- the words that follow a name, before the cycle and the size: the address of read and peek and the mask of prr to 16 bits, the value of wtifr and wtimsk and the mask of presc to 8;
-- a level, a mode or a pin, decimal; a write's address and value; an edge's pin and level, which is counted, but not read, beyond the names
unfoldable pub kinds_of : Name → Option Kind × Option Kind
kinds_of name.Advance = (None, None)
kinds_of name.Next = (None, None)
kinds_of name.Reset = (None, None)
kinds_of name.Wake = (None, None)
kinds_of name.Tifr = (None, None)
kinds_of name.Timsk = (None, None)
kinds_of name.Read = (Some kind.Sixteen, None)
kinds_of name.Peek = (Some kind.Sixteen, None)
kinds_of name.Prr = (Some kind.Sixteen, None)
kinds_of name.Wtifr = (Some kind.Hexadecimal, None)
kinds_of name.Wtimsk = (Some kind.Hexadecimal, None)
kinds_of name.Presc = (Some kind.Hexadecimal, None)
kinds_of name.Route = (Some kind.Decimal, None)
kinds_of name.Acout = (Some kind.Decimal, None)
kinds_of name.Sleep = (Some kind.Decimal, None)
kinds_of name.Tsm = (Some kind.Decimal, None)
kinds_of name.Write = (Some kind.Sixteen, Some kind.Hexadecimal)
kinds_of name.Edge = (Some kind.Decimal, Some kind.Decimal)
kinds_of name.Beyond = (Some kind.Decimal, Some kind.Unread)

-- the next word, of a kind; where there is none, or it is not read, it is a 0 that takes no word
unfoldable pub word_of : List ℕ → ℕ → Option Kind → Result Taken Unreadable
word_of line at (Some kind.Decimal) = next_of line at 10 255
word_of line at (Some kind.Hexadecimal) = next_of line at 16 255
word_of line at (Some kind.Sixteen) = next_of line at 16 65535
word_of line at (Some kind.Unread) = Ok (record { value = 0; end = at })
word_of line at None = Ok (record { value = 0; end = at })

-- the call of each name with its words
unfoldable pub call_of : Name → ℕ → ℕ → Call
call_of name.Advance a b = call.Advance
call_of name.Next a b = call.Next
call_of name.Reset a b = call.Reset
call_of name.Wake a b = call.Wake
call_of name.Tifr a b = call.Tifr
call_of name.Timsk a b = call.Timsk
call_of name.Read a b = call.Read (a % 65536)
call_of name.Peek a b = call.Peek (a % 65536)
call_of name.Prr a b = call.Reduce (a % 65536)
call_of name.Wtifr a b = call.WriteTifr (a % 256)
call_of name.Wtimsk a b = call.WriteTimsk (a % 256)
call_of name.Presc a b = call.Prescale (a % 256)
call_of name.Route a b = call.Route (a % 256)
call_of name.Acout a b = call.Output (a % 256)
call_of name.Sleep a b = call.Sleep (a % 256)
call_of name.Tsm a b = call.Tsm (a % 256)
call_of name.Write a b = call.Write (a % 65536) (b % 256)
call_of name.Edge a b = call.Edge (a % 256) (b % 256)
call_of name.Beyond a b = call.Edge (a % 256) (b % 256)

-- one where there is a word
abbrev pub words_in : Option Kind → ℕ
words_in kind = cond (is_some kind) 1 0

-- the words from a place on, counted first. "Each ends with its cycle and the area's size in bytes": 64 bits for cycles, sizes to 4,096
unfoldable pub asked_of : List ℕ → ℕ → Name → Result Asked Unreadable
asked_of line at name =
    let kinds = kinds_of name in
    and_then (exactly_of line at (words_in kinds.0 + words_in kinds.1 + 2)) (λ _.
    and_then (word_of line at kinds.0) (λ a.
    and_then (word_of line a.end kinds.1) (λ b.
    and_then (next_of line b.end 10 (2 ^ 64 - 1)) (λ cycle.
    and_then (next_of line cycle.end 10 4096) (λ size.
    Ok (record { call = call_of name a.value b.value; cycle = cycle.value; size = size.value }))))))
