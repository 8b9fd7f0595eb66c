-- The scheduler's lines (docs/SCRIPT.md, "Pins and the scheduler"): what is asked, the scheduler after it and the answer's bytes.
use Rattle.std.specs.Prelude.{ℕ, ◌-◌, ◌%◌, ◌^◌, ◌≡◌, ◌==◌, cond, List, [], ◌++◌, length, nat_lt, Option, Some, None, Result, Ok, Err}
use Rattle.std.specs.Str.{bytes_eq}
use Rattle.events.specs.Events.{earliest}
use Rattle.events.specs.declared.Event.{Event}
use Rattle.events.specs.declared.EventKey.{EventKey}
use Rattle.figures.specs.Figures.{text, number}
use Rattle.page.specs.Page.{Puts, unreadable_of}
use Rattle.scheduler.specs.declared.Full.{Full}
use Rattle.scheduler.specs.declared.Popping.{Popping}
use Rattle.scheduler.specs.declared.Scheduler.{Scheduler}
use Rattle.scheduler.specs.Scheduler.{scheduled, removed, cycle_of, popped}
use Rattle.words.specs.declared.Unreadable.{Unreadable}
use Rattle.words.specs.declared.Unreadable.TheVariants as unreadable
use Rattle.words.specs.Words.{find_of, skip_of, exactly_of, and_then}
use Rattle.words.specs.Numbers.{between, next_of}
use Rattle.sched_lines.specs.declared.Asked.{Asked}
use Rattle.sched_lines.specs.declared.Asked.TheVariants as asked

-- ---- what is asked

-- the two words of a key, and where they end
unfoldable pub key_of : List ℕ → ℕ → Result (EventKey × ℕ) Unreadable
key_of line at =
    and_then (next_of line at 10 255) (λ owner.
    and_then (next_of line owner.end 10 255) (λ tag. Ok (record { owner = owner.value % 256; tag = tag.value % 256 }, tag.end)))

-- a cycle
abbrev pub when_of : List ℕ → ℕ → (ℕ → Asked) → Result Asked Unreadable
when_of line at call = and_then (next_of line at 10 (2 ^ 64 - 1)) (λ cycle. Ok (call cycle.value))

-- so many words, which are counted first
abbrev pub counted_of : List ℕ → ℕ → ℕ → Result Asked Unreadable → Result Asked Unreadable
counted_of line at wanted read = and_then (exactly_of line at wanted) (λ _. read)

-- "at OWNER TAG CYCLE", "cancel OWNER TAG", "is OWNER TAG", "pop CYCLE", "clear": what follows the name, "read from left to right"; "unknown command" of any other
unfoldable pub words_of : List ℕ → List ℕ → ℕ → Result Asked Unreadable
words_of name line at =
    cond (bytes_eq name (text "at")) (counted_of line at 3 (and_then (key_of line at) (λ k. when_of line k.1 (asked.At k.0))))
    (cond (bytes_eq name (text "cancel")) (counted_of line at 2 (and_then (key_of line at) (λ k. Ok (asked.Cancel k.0))))
    (cond (bytes_eq name (text "is")) (counted_of line at 2 (and_then (key_of line at) (λ k. Ok (asked.Is k.0))))
    (cond (bytes_eq name (text "pop")) (counted_of line at 1 (when_of line at asked.Pop))
    (cond (bytes_eq name (text "clear")) (counted_of line at 0 (Ok asked.Clear)) (Err unreadable.UnknownCommand)))))

-- from the place after the line's name: "missing word" where there is none
unfoldable pub asked_of : List ℕ → ℕ → Result Asked Unreadable
asked_of line at =
    let start = skip_of line at in
    let end = find_of line start 32 in
    cond (start == length line) (Err unreadable.MissingWord) (words_of (between line start end) line end)

-- ---- answers

-- a label and a cycle; none where it is the largest
unfoldable pub until_of : List ℕ → ℕ → List ℕ
until_of label n = cond (nat_lt n (2 ^ 64 - 1)) (label ++ number n) (label ++ text "none")

-- "ok next=N"
abbrev pub next_line : Scheduler → List ℕ
next_line s = until_of (text "ok next=") (earliest s)

-- "ok at=N", "ok at=none"
unfoldable pub at_line : Option ℕ → List ℕ
at_line (Some cycle) = text "ok at=" ++ number cycle
at_line None = text "ok at=none"

-- "ok owner=O tag=T at=N next=M"
unfoldable pub event_line : Event → ℕ → List ℕ
event_line e next =
    (text "ok owner=" ++ number e.key.owner) ++ (text " tag=" ++ number e.key.tag) ++ (text " at=" ++ number e.cycle) ++ until_of (text " next=") next

-- "ok none where nothing is due"
unfoldable pub pop_line : Option Event → ℕ → List ℕ
pop_line (Some e) next = event_line e next
pop_line None next = text "ok none"

-- ---- the scheduler after a line, and the line's answer

-- after `at`: "refused 11", or the next cycle
unfoldable pub set_of : Scheduler → Result Scheduler Full → Scheduler × List ℕ
set_of s (Ok after) = (after, next_line after)
set_of s (Err why) = (s, text "refused " ++ number 11)

-- after `pop`, and after the calls that answer the next cycle
abbrev pub popped_of : Popping → Scheduler × List ℕ
popped_of p = (p.scheduler, pop_line p.due (earliest p.scheduler))

abbrev pub fewer_of : Scheduler → Scheduler × List ℕ
fewer_of s = (s, next_line s)

-- a call
unfoldable pub called_of : Asked → Scheduler → Scheduler × List ℕ
called_of (asked.At key cycle) s = set_of s (scheduled key cycle s)
called_of (asked.Cancel key) s = fewer_of (removed key s)
called_of (asked.Is key) s = (s, at_line (cycle_of key s))
called_of (asked.Pop now) s = popped_of (popped now s)
called_of asked.Clear s = fewer_of []

-- a line that cannot be read changes nothing
unfoldable pub heard_of : Scheduler → ℕ → Result Asked Unreadable → Scheduler × List ℕ
heard_of s nth (Ok q) = called_of q s
heard_of s nth (Err why) = (s, unreadable_of nth why)

-- the nth line, from the place after its name
abbrev pub sched_of : Scheduler → ℕ → List ℕ → ℕ → Scheduler × List ℕ
sched_of s nth line at = heard_of s nth (asked_of line at)

-- what a line leaves: a scheduler, valid as its model says, and its answer on the page
pub record Leaves (old new : List ℕ) (left : Scheduler) (answer : Scheduler × List ℕ) : Type 0 where
  pub after : left ≡ answer.0
  pub bytes : Puts old new answer.1
