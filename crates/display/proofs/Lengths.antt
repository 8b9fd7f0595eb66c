-- How long a timer's answers may be, part by part.
use Prim.Native.Nat.{ℕ, ◌+◌, ◌*◌, ◌≤◌}
use Prim.Native.String.{String, len}
use native.Mathlib.Omega.{arith}
use mathlib.Core.Bool.{cond}
use mathlib.Core.List.{List, [], ◌∷◌}
use mathlib.Core.Path.{◌≡◌}
use lib.Dec.{eqb}
use lib.ListN.{length, take, get_or, length-append, length-take}
use Rattle.figures.specs.Figures.{text}
use Rattle.figures.proofs.Writing.{number_short}
use Rattle.page.proofs.Lengths.{Upto, said, numbered, either, codes-length, pair-length, flag-length}
use Rattle.config.specs.declared.Compare.{Compare}
use Rattle.config.specs.declared.Config.{Config}
use Rattle.wave.specs.Count.{negative}
use Rattle.tick.specs.declared.distance.Distance.{Distance}
use Rattle.counter.specs.Next.{next_of}
use Rattle.counter.specs.declared.next.Next.{Next}
use Rattle.counter.specs.declared.next.Next.TheVariants as next
use Rattle.counter.specs.declared.state.Timer.{Timer}
use Rattle.answers.specs.declared.Answer.{Answer}
use Rattle.answers.specs.declared.Answer.TheVariants as answer
use Rattle.answers.specs.declared.Outcome.{Outcome}
use Rattle.display.specs.Answers.{hexes, bytes_of, records_of, cycle_of, flags_of as eventFlags, left_by, said_of, unless_refused, answer_of}
use Rattle.display.specs.States.{compared_of, three_of, driven_of, drives_of, levels_of, count_of, counts_of, outputs_of, lines_of, flags_of, halts_of, clock_of, state_of, distance_line}

-- ---- the line of a call

hexes-length : (bytes : List ℕ) → length (hexes bytes) ≡ 2 * length bytes
unfolding hexes
hexes-length [] = omega arith
hexes-length (b ∷ bs) = let h = hexes-length bs in simp (length-append, pair-length) (omega arith)

pub bytes-short : (label : String) (area : List ℕ) (written : ℕ) → length (bytes_of (text label) area written) ≤ len label + (1 + 2 * length area)
unfolding bytes_of
bytes-short label area written =
    let shown : Upto (1 + 2 * length area) (hexes (take written area)) = simp (hexes-length, length-take) (omega arith) in
    let h : Upto (1 + 2 * length area) (cond (eqb written 0) (text "-") (hexes (take written area))) = either (Upto (1 + 2 * length area)) (eqb written 0) (said _ (omega arith)) shown in
    simp (length-append, codes-length) (omega arith)

pub records-short : (area : List ℕ) (written : ℕ) → length (records_of area written) ≤ 37 + 2 * length area
unfolding records_of
records-short area written =
    let h = number_short written in
    let k = bytes-short " records=" area written in
    simp (length-append, codes-length) (omega arith)

pub cycle-short : (label : String) (n : Next) → length (cycle_of (text label) n) ≤ len label + 20
unfolding cycle_of
cycle-short label (next.At cycle flags) = numbered label _ cycle.0 (omega arith)
cycle-short label next.Never = simp (length-append, codes-length) (omega arith)

pub event-flags-short : (label : String) (n : Next) → length (eventFlags (text label) n) ≤ len label + 2
unfolding eventFlags
event-flags-short label (next.At cycle flags) = simp (length-append, codes-length, pair-length) (omega arith)
event-flags-short label next.Never = simp (length-append, codes-length) (omega arith)

left-short : (o : Outcome) (area : List ℕ) → length (left_by o area) ≤ 72 + 2 * length area
unfolding left_by
left-short o area =
    let h = cycle-short " next=" (next_of o.timer) in
    let l = event-flags-short " flags=" (next_of o.timer) in
    let k = records-short area o.written in
    simp length-append (omega arith)

pub said-short : (a : Answer) → length (said_of a) ≤ 33
unfolding said_of
said-short (answer.Refused n) = numbered _ _ n (omega arith)
said-short answer.Done = said _ (omega arith)
said-short (answer.Value v) = simp (length-append, codes-length, pair-length) (omega arith)
said-short (answer.Next e) = said _ (omega arith)
said-short (answer.Reached f) = said _ (omega arith)
said-short (answer.Paused cycle f) = numbered _ _ cycle.0 (omega arith)

pub unless-short : (a : Answer) (left : List ℕ) → length (unless_refused a left) ≤ length left
unfolding unless_refused
unless-short (answer.Refused n) left = omega arith
unless-short answer.Done left = omega arith
unless-short (answer.Value v) left = omega arith
unless-short (answer.Next e) left = omega arith
unless-short (answer.Reached f) left = omega arith
unless-short (answer.Paused cycle f) left = omega arith

pub answer-short : (o : Outcome) (area : List ℕ) → length (answer_of o area) ≤ 105 + 2 * length area
answer-short o area =
    let h = said-short o.answer in
    let k = unless-short o.answer (left_by o area) in
    let l = left-short o area in
    simp length-append (omega arith)

-- ---- the line of `state`

compared-short : (label : String) (c : Compare) (value : ℕ) → length (compared_of (text label) c value) ≤ len label + 20
unfolding compared_of
compared-short label c value =
    either (Upto (len label + 20)) c.present (numbered label _ value (omega arith)) (simp (length-append, codes-length) (omega arith))

three-short : (label : String) (config : Config) (values : List ℕ) → length (three_of (text label) config values) ≤ len label + 62
unfolding three_of
three-short label config values =
    let a = compared-short label config.a (get_or values 0 0) in
    let b = compared-short "," config.b (get_or values 1 0) in
    let c = compared-short "," config.c (get_or values 2 0) in
    simp length-append (omega arith)

driven-short : (label : String) (c : Compare) (enable value : ℕ) → length (driven_of (text label) c enable value) ≤ len label + 40
unfolding driven_of
driven-short label c enable value =
    let h = number_short enable in
    let k = number_short value in
    either (Upto (len label + 40)) c.wire.present (simp (length-append, codes-length) (omega arith)) (simp (length-append, codes-length) (omega arith))

drives-short : (t : Timer) → length (drives_of t) ≤ 129
unfolding drives_of
drives-short t =
    let a = driven-short " drive=" t.config.a (get_or t.drives.enables 0 0) (get_or t.drives.values 0 0) in
    let b = driven-short "," t.config.b (get_or t.drives.enables 1 0) (get_or t.drives.values 1 0) in
    let c = driven-short "," t.config.c (get_or t.drives.enables 2 0) (get_or t.drives.values 2 0) in
    simp length-append (omega arith)

levels-short : (oc : List ℕ) → length (levels_of oc) ≤ 66
unfolding levels_of
levels-short oc =
    let a = number_short (get_or oc 0 0) in
    let b = number_short (get_or oc 1 0) in
    let c = number_short (get_or oc 2 0) in
    simp (length-append, codes-length) (omega arith)

count-short : (t : Timer) → length (count_of t) ≤ 39
unfolding count_of
count-short t =
    let h = number_short t.counter.count in
    let k : Upto 7 (cond (negative t.counter.direction) (text " dir=-1") (text " dir=1")) = either (Upto 7) (negative t.counter.direction) (said _ (omega arith)) (said _ (omega arith)) in
    simp (length-append, codes-length) (omega arith)

counts-short : (t : Timer) → length (counts_of t) ≤ 206
unfolding counts_of
counts-short t =
    let a = count-short t in
    let b = three-short " ocr=" t.config t.ocr in
    let c = three-short " buf=" t.config t.buffer in
    let d = number_short t.registers.icr in
    simp (length-append, codes-length, pair-length) (omega arith)

outputs-short : (t : Timer) → length (outputs_of t) ≤ 221
unfolding outputs_of
outputs-short t =
    let a = levels-short t.oc in
    let b = drives-short t in
    simp (length-append, codes-length, pair-length, flag-length) (omega arith)

lines-length : (config : Config) (active : ℕ) → length (lines_of config active) ≡ 12
unfolding lines_of
lines-length config active = simp (length-append, codes-length, flag-length)

flags-length : (t : Timer) → length (flags_of t) ≡ 29
unfolding flags_of
flags-length t = simp (length-append, codes-length, pair-length, lines-length)

halts-length : (t : Timer) → length (halts_of t) ≡ 29
unfolding halts_of
halts-length t = simp (length-append, codes-length, flag-length)

clock-short : (t : Timer) → length (clock_of t) ≤ 111
unfolding clock_of
clock-short t =
    let a = number_short t.clock.sync.0 in
    let b = number_short t.clock.origin.0 in
    let c = number_short t.clock.latest.0 in
    simp (length-append, codes-length, halts-length) (omega arith)

pub state-short : (t : Timer) → length (state_of t) ≤ 597
unfolding state_of
state-short t =
    let a = counts-short t in
    let b = outputs-short t in
    let c = clock-short t in
    let d = number_short t.counter.odometer in
    simp (length-append, codes-length, flags-length) (omega arith)

-- ---- the line of `distance`

pub distance-short : (d : Distance) → length (distance_line d) ≤ 72
unfolding distance_line
distance-short d =
    let a = number_short d.ticks in
    let b = number_short d.looked in
    simp (length-append, codes-length, pair-length) (omega arith)
