-- What a log's line asks for (docs/SCRIPT.md, "The door and the log"): `log add HEX`, `log release N`, `log read K`. The words are counted first.
use Rattle.std.specs.Prelude.{ℕ, ◌-◌, ◌^◌, ◌<◌, cond, List, ◌==◌, length, ⊤, Result, Ok, Err}
use Rattle.std.specs.Str.{bytes_eq}
use Rattle.figures.specs.Figures.{text}
use Rattle.words.specs.Words.{exactly_of, skip_of, find_of, and_then}
use Rattle.words.specs.Numbers.{between, next_of}
use Rattle.words.specs.declared.Unreadable.{Unreadable}
use Rattle.words.specs.declared.Unreadable.TheVariants as unreadable
use Rattle.digits.specs.Spelling.{bytes_of}
use Rattle.log_lines.specs.declared.asked.Asked.{Asked}
use Rattle.log_lines.specs.declared.asked.Asked.TheVariants as asked

-- "A record is twenty digits: fewer are a malformed number, more a number too large"
unfoldable pub add_of : List ℕ → ℕ → Result Asked Unreadable
add_of line at =
    and_then (exactly_of line at 1) (λ _.
    and_then (bytes_of line at 10) (λ bytes.
    cond (length bytes == 10) (Ok (asked.Add bytes)) (Err unreadable.Malformed)))

-- how many records are released
unfoldable pub release_of : List ℕ → ℕ → Result Asked Unreadable
release_of line at =
    and_then (exactly_of line at 1) (λ _.
    and_then (next_of line at 10 (2 ^ 64 - 1)) (λ count.
    Ok (asked.Release count.value)))

-- "and so is a place over 5,999"
unfoldable pub read_of : List ℕ → ℕ → Result Asked Unreadable
read_of line at =
    and_then (exactly_of line at 1) (λ _.
    and_then (next_of line at 10 5999) (λ place.
    Ok (asked.Read place.value)))

-- by the name: "missing word" where there is none, "unknown command" of any other
unfoldable pub asked_of : List ℕ → ℕ → Result Asked Unreadable
asked_of line at =
    let start = skip_of line at in
    let end = find_of line start 32 in
    let name = between line start end in
    cond (start == length line) (Err unreadable.MissingWord)
    (cond (bytes_eq name (text "add")) (add_of line end)
    (cond (bytes_eq name (text "release")) (release_of line end)
    (cond (bytes_eq name (text "read")) (read_of line end) (Err unreadable.UnknownCommand))))

-- a place that is read is one of the log
abbrev pub Placed : Asked → Type 0
Placed (asked.Add bytes) = ⊤
Placed (asked.Release count) = ⊤
Placed (asked.Read place) = place < 6000
