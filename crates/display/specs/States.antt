-- A timer's state as bytes (docs/SCRIPT.md, the lines `state` and `distance`).
use Rattle.std.specs.Prelude.{ℕ, cond, not, List, ◌++◌, eqb, get_or}
use Rattle.std.specs.Int.Bits.{bit_and}
use Rattle.figures.specs.Figures.{text, number}
use Rattle.page.specs.Page.{pair, flag}
use Rattle.config.specs.declared.Compare.{Compare}
use Rattle.config.specs.declared.Config.{Config}
use Rattle.wave.specs.Count.{negative}
use Rattle.tick.specs.declared.distance.Distance.{Distance}
use Rattle.tick.specs.Distance.{distance_of}
use Rattle.counter.specs.Setting.{setting_of, moving_of}
use Rattle.counter.specs.declared.state.Timer.{Timer}

-- a label and a compare's value, "`-` for an absent compare"
unfoldable pub compared_of : List ℕ → Compare → ℕ → List ℕ
compared_of label c value = cond c.present (label ++ number value) (label ++ text "-")

-- the values of the compares A, B and C
unfoldable pub three_of : List ℕ → Config → List ℕ → List ℕ
three_of label config values = compared_of label config.a (get_or values 0 0) ++ compared_of (text ",") config.b (get_or values 1 0) ++ compared_of (text ",") config.c (get_or values 2 0)

-- "a drive as enable and value", `-` for "a channel without a pin"
unfoldable pub driven_of : List ℕ → Compare → ℕ → ℕ → List ℕ
driven_of label c enable value = cond c.wire.present (label ++ number enable ++ number value) (label ++ text "-")

unfoldable pub drives_of : Timer → List ℕ
drives_of t =
    driven_of (text " drive=") t.config.a (get_or t.drives.enables 0 0) (get_or t.drives.values 0 0)
    ++ driven_of (text ",") t.config.b (get_or t.drives.enables 1 0) (get_or t.drives.values 1 0)
    ++ driven_of (text ",") t.config.c (get_or t.drives.enables 2 0) (get_or t.drives.values 2 0)

-- "oc always shows three levels"
unfoldable pub levels_of : List ℕ → List ℕ
levels_of oc = (text " oc=" ++ number (get_or oc 0 0)) ++ (text "," ++ number (get_or oc 1 0)) ++ (text "," ++ number (get_or oc 2 0))

-- "`dir` 1 or -1"
unfoldable pub count_of : Timer → List ℕ
count_of t = (text "state count=" ++ number t.counter.count) ++ cond (negative t.counter.direction) (text " dir=-1") (text " dir=1")

unfoldable pub counts_of : Timer → List ℕ
counts_of t =
    count_of t
    ++ three_of (text " ocr=") t.config t.ocr
    ++ three_of (text " buf=") t.config t.buffer
    ++ (text " icr=" ++ number t.registers.icr)
    ++ (text " temp=" ++ pair t.registers.temp)

unfoldable pub outputs_of : Timer → List ℕ
outputs_of t =
    levels_of t.oc
    ++ drives_of t
    ++ (text " block=" ++ flag t.counter.blocked)
    ++ (text " tccra=" ++ pair t.registers.tccra)
    ++ (text " tccrb=" ++ pair t.registers.tccrb)

-- a label, and whether flags share a bit with a mask
abbrev pub line_of : List ℕ → ℕ → ℕ → List ℕ
line_of label flags mask = label ++ flag (not (eqb (bit_and flags mask) 0))

-- "lines as five bits (overflow, A, B, capture, C)"
unfoldable pub lines_of : Config → ℕ → List ℕ
lines_of config active =
    line_of (text " lines=") active config.tov
    ++ line_of (text "") active config.a.flag
    ++ line_of (text "") active config.b.flag
    ++ line_of (text "") active config.icr.flag
    ++ line_of (text "") active config.c.flag

unfoldable pub flags_of : Timer → List ℕ
flags_of t =
    (text " tifr=" ++ pair t.flags.tifr)
    ++ (text " timsk=" ++ pair t.flags.timsk)
    ++ lines_of t.config (bit_and t.flags.tifr t.flags.timsk)

unfoldable pub halts_of : Timer → List ℕ
halts_of t =
    (text " asleep=" ++ flag t.halts.asleep)
    ++ (text " prr=" ++ flag t.halts.reduced)
    ++ (text " tsm=" ++ flag t.halts.tsm)
    ++ (text " route=" ++ flag t.halts.routed)

unfoldable pub clock_of : Timer → List ℕ
clock_of t =
    (text " sync=" ++ number t.clock.sync.0)
    ++ (text " origin=" ++ number t.clock.origin.0)
    ++ halts_of t
    ++ (text " latest=" ++ number t.clock.latest.0)

-- the line of `state`
unfoldable pub state_of : Timer → List ℕ
state_of t = counts_of t ++ outputs_of t ++ flags_of t ++ clock_of t ++ (text " odometer=" ++ number t.counter.odometer)

-- "distance ticks=N flags=FF looked=K"
unfoldable pub distance_line : Distance → List ℕ
distance_line d = (text "distance ticks=" ++ number d.ticks) ++ (text " flags=" ++ pair d.flags) ++ (text " looked=" ++ number d.looked)

-- the line of `distance`
abbrev pub distance_text : Timer → List ℕ
distance_text t = distance_line (distance_of (setting_of t) (moving_of t))
