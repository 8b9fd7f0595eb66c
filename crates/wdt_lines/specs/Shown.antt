-- What is shown of a watchdog (docs/SCRIPT.md, "The watchdog"): a call's answer, and the watchdog as it stands.
use Rattle.std.specs.Prelude.{ℕ, List, [], ◌++◌, Option, Some, None}
use Rattle.figures.specs.Figures.{text, number}
use Rattle.page.specs.Page.{pair, flag}
use Rattle.display.specs.Answers.{records_of}
use Rattle.wdtcsr.specs.Wdtcsr.{is_open}
use Rattle.time.specs.declared.units.Cycle.{Cycle}
use Rattle.oscillator.specs.declared.state.Watchdog.{Watchdog}
use Rattle.oscillator.specs.Oscillator.{next_of}
use Rattle.watchdog.specs.Outcome.{Told, Values, refused, none, byte, event, paused}

-- "next=N": "the next time-out, or none"
unfoldable pub event_of : Option Cycle → List ℕ
event_of (Some cycle) = text " next=" ++ number cycle.0
event_of None = text " next=none"

-- what a call leaves: its watchdog's next event, and the bytes written
unfoldable pub left_by : Told → List ℕ
left_by x = event_of (next_of x.watchdog) ++ records_of x.area x.written

-- "refused N", "ok value=VV", "paused cycle=N"
unfoldable pub said_of : ℕ → Values → List ℕ
said_of n refused = text "refused " ++ number n
said_of n none = text "ok value=-"
said_of n (byte value) = text "ok value=" ++ pair value
said_of n (event e) = text "ok value=-"
said_of n (paused cycle) = text "paused cycle=" ++ number cycle

-- what follows it: nothing after a refusal
unfoldable pub unless_refused : Values → List ℕ → List ℕ
unless_refused refused left = []
unless_refused none left = left
unless_refused (byte value) left = left
unless_refused (event e) left = left
unless_refused (paused cycle) left = left

-- the answer of a call
abbrev pub answer_of : Told → List ℕ
answer_of x = said_of x.number x.values ++ unless_refused x.values (left_by x)

-- "`wdce` is shown as a read at the latest cycle would show it"
unfoldable pub bits_of : Watchdog → List ℕ
bits_of w =
    (text " wdif=" ++ flag w.moving.control.wdif)
    ++ (text " wdie=" ++ flag w.moving.control.wdie)
    ++ (text " wdce=" ++ flag (is_open w.moving.window w.latest.0))
    ++ (text " wde=" ++ flag w.moving.control.wde)
    ++ (text " p=" ++ number w.moving.control.wdp)

-- the line of `wdt state`
unfoldable pub state_of : Watchdog → List ℕ
state_of w = (text "wdt count=" ++ number w.moving.count) ++ bits_of w ++ (text " sync=" ++ number w.sync.0) ++ (text " latest=" ++ number w.latest.0)
