-- How long the answer of a line may be.
use Rattle.std.proofs.Common.{ℕ, ◌+◌, ◌*◌, ◌≤◌, true, false, eqb, ltb, List, [], ◌∷◌, ◌++◌, length, take, arith, length-append, Option, Some, None, Result, Ok, Err, IfOk}
use Rattle.words.specs.Words.{skip_of, find_of}
use Rattle.words.specs.Numbers.{between}
use Rattle.words.specs.declared.Unreadable.{Unreadable}
use Rattle.words.specs.declared.Unreadable.TheVariants as unreadable
use Rattle.page.specs.Page.{unreadable_of}
use Rattle.page.proofs.Lengths.{said, either, unreadable-short}
use Rattle.board.specs.Calls.{Areas, areas_of}
use Rattle.board_lines.specs.Asked.{asked_of, size_of}
use Rattle.board_lines.specs.declared.asked.Asked.{Asked}
use Rattle.board_lines.proofs.Claims.{sized, short as board-short}
use Rattle.door_lines.proofs.Claims.{short as door-short}
use Rattle.list_lines.proofs.Claims.{short as list-short, short-item}
use Rattle.log_lines.proofs.Claims.{short as log-short}
use Rattle.pin_lines.proofs.Claims.{short-pin}
use Rattle.sched_lines.proofs.Claims.{short-sched}
use Rattle.timer_lines.proofs.Claims.{short as timer-short, short-config}
use Rattle.wdt_lines.proofs.Claims.{short as wdt-short}
use Rattle.bench_lines.specs.declared.desk.Bench.{Bench}
use Rattle.bench_lines.specs.declared.desk.Shelf.{Shelf}
use Rattle.bench_lines.specs.declared.desk.Whose.{Whose}
use Rattle.bench_lines.specs.declared.named.Command.{Command}
use Rattle.bench_lines.specs.declared.named.Command.TheVariants as command
use Rattle.bench_lines.specs.declared.named.Device.{Device}
use Rattle.bench_lines.specs.declared.named.Device.TheVariants as device
use Rattle.bench_lines.specs.declared.named.Later.{Later}
use Rattle.bench_lines.specs.Lines.{whose_of, recorded_of}
use Rattle.bench_lines.specs.Named.{Lent, Lined, Asking, command_of, named_of, commanded_of, worded_of}
use Rattle.bench_lines.specs.Shelved.{Worked, ordered_of, answered_of}
use Rattle.bench_lines.specs.Steps.{State, counted, ended_by, heard_of, first_of, plain, then_by, step_of}
use Rattle.bench_lines.specs.Claims.{longest, Longest}

-- a bound below another
up : {n k : ℕ} (m : ℕ) → n ≤ k → k ≤ m → n ≤ m
up m h e = omega arith

-- ---- the bench's lines

abbrev Brief : Lined → Type 0
Brief x = length x.told.bytes ≤ 120 + 2 * 4096

recorded-short : (b : Bench) (w : Result Whose Unreadable) → length (recorded_of b w).bytes ≤ 120 + 2 * 4096
unfolding recorded_of
recorded-short b (Ok w) = said _ (omega arith)
recorded-short b (Err why) = up (120 + 2 * 4096) (unreadable-short b.line why) (omega arith)

named-short : (b : Bench) (line : List ℕ) (at : ℕ) (c : Command) (l : Lent) → Brief (named_of b line at c l)
unfolding named_of
named-short b line at (command.Timer name) l = up (120 + 2 * 4096) (timer-short b.timer b.line line at name l.room) (omega arith)
named-short b line at command.Config l = up (120 + 2 * 4096) (short-config b.timer b.line line at false) (omega arith)
named-short b line at command.Preset l = up (120 + 2 * 4096) (short-config b.timer b.line line at true) (omega arith)
named-short b line at command.Pin l = up (120 + 2 * 4096) (short-pin b.line line at) (omega arith)
named-short b line at command.Wdt l = wdt-short b.watchdog b.line line at l.room
named-short b line at command.Writes l = up (120 + 2 * 4096) (list-short b.timer b.line line at l.items l.room) (omega arith)
named-short b line at command.Item l = up (120 + 2 * 4096) (short-item b.line line at l.items) (omega arith)
named-short b line at command.Door l = up (120 + 2 * 4096) (door-short b.door b.line line at) (omega arith)
named-short b line at command.Log l = up (120 + 2 * 4096) (log-short b.ring b.line line at l.area) (omega arith)
named-short b line at command.Record l = recorded-short b (whose_of line at)
named-short b line at (command.Shelf d) l = omega arith

-- ---- a line

abbrev Upto : ℕ → Asking → Type 0
Upto n x = length x.lined.told.bytes ≤ n + 2 * 4096

commanded-short : (b : Bench) (line : List ℕ) (at : ℕ) (c : Option Command) (l : Lent) → Upto 120 (commanded_of b line at c l)
unfolding commanded_of
commanded-short b line at (Some c) l = named-short b line at c l
commanded-short b line at None l = up (120 + 2 * 4096) (unreadable-short b.line unreadable.UnknownCommand) (omega arith)

ended-short : (x : Asking) (later : Option Later) → Upto 120 x → Upto 121 (ended_by x later)
unfolding ended_by
ended-short x None h = let a = length-append x.lined.told.bytes (10 ∷ []) in omega arith
ended-short x (Some q) h = omega arith

first_short : (b : Bench) (line : List ℕ) (l : Lent) → Upto 121 (first_of b line l)
unfolding first_of heard_of
first_short b line l =
    let c = counted b in
    let p = plain line in
    let x = worded_of c p (skip_of p 0) l in
    let at = find_of p (skip_of p 0) 32 in
    let a = length-append (unreadable_of c.line unreadable.TooLong) (10 ∷ []) in
    let u = unreadable-short c.line unreadable.TooLong in
    either (Upto 121) (ltb 500 (length line)) (omega arith)
    (either (Upto 121) (eqb (skip_of p 0) (length p)) (omega arith) (ended-short x x.later (commanded-short c p at (command_of (between p (skip_of p 0) at)) l)))

-- ---- and on the shelf

abbrev Within : Worked → Type 0
Within x = length x.bytes ≤ 200 + 6 * 4096

ordered-short : (b : Bench) (s : Shelf) (areas : Areas) (r : Result Asked Unreadable) → IfOk r (λ q. size_of q ≤ 4096) → Within (ordered_of b s areas r)
unfolding ordered_of
ordered-short b s areas (Ok q) h = board-short s.board q areas h
ordered-short b s areas (Err why) h = up (200 + 6 * 4096) (unreadable-short b.line why) (omega arith)

answered-short : (b : Bench) (s : Shelf) (areas : Areas) (line : List ℕ) (d : Device) (at : ℕ) → Within (answered_of b s areas line d at)
unfolding answered_of
answered-short b s areas line device.Scheduler at = up (200 + 6 * 4096) (short-sched s.scheduler b.line line at) (omega arith)
answered-short b s areas line device.Board at = ordered-short b s areas (asked_of line at) (sized line at)

-- ---- with the answers before it

then-short : (s : State) (line : List ℕ) (x : Asking) (asked : Option Later) → Upto 121 x → length (then_by s line x asked).answers ≤ length s.answers + longest
unfolding then_by
then-short s line x None h = let a = length-append s.answers x.lined.told.bytes in omega arith
then-short s line x (Some q) h =
    let areas = areas_of x.lined.lent.room s.one s.two in
    let w = answered_of x.lined.told.bench s.shelf areas (take q.end line) q.device q.at in
    let k = answered-short x.lined.told.bench s.shelf areas (take q.end line) q.device q.at in
    let b = length-append w.bytes (10 ∷ []) in
    let c = length-append s.answers (w.bytes ++ 10 ∷ []) in
    omega arith

pub longest-holds : Longest
unfolding step_of
longest-holds = (λ s line. then-short s line (first_of s.bench line s.lent) (first_of s.bench line s.lent).later (first_short s.bench line s.lent), omega arith)
