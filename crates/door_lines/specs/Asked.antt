-- What a door's line asks for (docs/SCRIPT.md, "The door and the log"): `door one HOLD`, `door two HOLD QUIET CAP`, `door edge CYCLE`. The words are counted first.
use Rattle.std.specs.Prelude.{ℕ, ◌-◌, ◌^◌, cond, List, eqb, ◌==◌, length, Result, Ok, Err}
use Rattle.std.specs.Str.{bytes_eq}
use Rattle.figures.specs.Figures.{text}
use Rattle.words.specs.Words.{exactly_of, skip_of, find_of, and_then}
use Rattle.words.specs.Numbers.{between, next_of}
use Rattle.words.specs.declared.Taken.{Taken}
use Rattle.words.specs.declared.Unreadable.{Unreadable}
use Rattle.words.specs.declared.Unreadable.TheVariants as unreadable
use Rattle.door.specs.declared.Rule.{Rule}
use Rattle.door.specs.declared.Rule.TheVariants as rule
use Rattle.door_lines.specs.declared.asked.Asked.{Asked}
use Rattle.door_lines.specs.declared.asked.Asked.TheVariants as asked

-- the next word, a number of cycles: "64 bits for cycles"
abbrev pub cycles_of : List ℕ → ℕ → Result Taken Unreadable
cycles_of line at = next_of line at 10 (2 ^ 64 - 1)

-- "one HOLD"
unfoldable pub one_of : List ℕ → ℕ → Result Asked Unreadable
one_of line at =
    and_then (exactly_of line at 1) (λ _.
    and_then (cycles_of line at) (λ hold.
    Ok (asked.Rule (rule.One hold.value))))

-- "two HOLD QUIET CAP"
unfoldable pub two_of : List ℕ → ℕ → Result Asked Unreadable
two_of line at =
    and_then (exactly_of line at 3) (λ _.
    and_then (cycles_of line at) (λ hold.
    and_then (cycles_of line hold.end) (λ quiet.
    and_then (cycles_of line quiet.end) (λ cap.
    Ok (asked.Rule (rule.Two hold.value quiet.value cap.value))))))

-- "edge CYCLE"
unfoldable pub edge_of : List ℕ → ℕ → Result Asked Unreadable
edge_of line at =
    and_then (exactly_of line at 1) (λ _.
    and_then (cycles_of line at) (λ cycle.
    Ok (asked.Edge (record { 0 = cycle.value }))))

-- behind the names: one word, the hold of rule two without a quiet time or a cap
unfoldable pub behind_of : List ℕ → ℕ → Result Asked Unreadable
behind_of line at =
    and_then (exactly_of line at 1) (λ _.
    and_then (cycles_of line at) (λ hold.
    Ok (asked.Rule (rule.Two hold.value 0 0))))

-- by the place among the names `one`, `two` and `edge`
unfoldable pub placed_of : List ℕ → ℕ → ℕ → Result Asked Unreadable
placed_of line at place = cond (eqb place 0) (one_of line at) (cond (eqb place 1) (two_of line at) (cond (eqb place 2) (edge_of line at) (behind_of line at)))

-- by the name: "missing word" where there is none, "unknown command" of any other
unfoldable pub asked_of : List ℕ → ℕ → Result Asked Unreadable
asked_of line at =
    let start = skip_of line at in
    let end = find_of line start 32 in
    let name = between line start end in
    cond (start == length line) (Err unreadable.MissingWord)
    (cond (bytes_eq name (text "one")) (one_of line end)
    (cond (bytes_eq name (text "two")) (two_of line end)
    (cond (bytes_eq name (text "edge")) (edge_of line end) (Err unreadable.UnknownCommand))))

-- the rule that a line sets; of an edge, rule two with its cycle as the hold
unfoldable pub rule_of : Asked → Rule
rule_of (asked.Rule r) = r
rule_of (asked.Edge cycle) = rule.Two cycle.0 0 0
