-- What was read of the piece fed the script on, with what the file answered.
use Prim.Native.Nat.{ℕ, ◌-◌, ◌≤◌, ◌<◌}
use mathlib.Core.Bool.{false}
use mathlib.Core.List.{List}
use mathlib.Core.Path.{◌≡◌}
use lib.ListN.{length}
use Rattle.words.specs.Numbers.{between}
use Rattle.linewise.specs.Texts.{going}
use Rattle.bench_lines.specs.Desk.{Sound, Stable}
use Rattle.bench_lines.specs.Named.{lent}
use Rattle.bench_lines.specs.Steps.{Held}
use Rattle.bench_lines.specs.Claims.{left}
use Rattle.session.specs.Runs.{Carries}
use Rattle.bench.proofs.piece.Given as goal

abbrev pub invariant-loop-next : goal.invariant-loop-next
invariant-loop-next g l =
    (Sound l.desk.bench) × (Stable l.desk.shelf) × (l.next ≤ length l.input) × ((answers bytes : List ℕ) → Held (going l.initial.line) bytes → Carries (left l.initial.desk.bench l.initial.desk.shelf (lent l.initial.room l.initial.area l.initial.items) l.initial.one l.initial.two answers) bytes (between l.input 0 l.next) l.desk.bench l.desk.shelf (lent l.room l.area l.items) l.one l.two (going l.line)) × (l.initial.line.ended ≡ false → l.line.ended ≡ false) × (0 < l.next → l.line.ended ≡ false)

abbrev pub decreases-loop-next : goal.decreases-loop-next
decreases-loop-next g l = length l.input - l.next
