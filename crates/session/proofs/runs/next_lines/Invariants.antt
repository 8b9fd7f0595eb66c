-- What was read of the piece fed the script on, and no line of it asked something of the file.
use Prim.Native.Nat.{ℕ, ◌-◌, ◌≤◌, ◌<◌}
use mathlib.Core.Bool.{false}
use mathlib.Core.List.{List}
use mathlib.Core.Logic.{◌⊎◌}
use mathlib.Core.Path.{◌≡◌}
use lib.ListN.{length}
use Rattle.words.specs.Numbers.{between}
use Rattle.linewise.specs.Texts.{going}
use Rattle.bench_lines.specs.Desk.{Sound, Stable}
use Rattle.bench_lines.specs.Named.{lent}
use Rattle.bench_lines.specs.Steps.{Held}
use Rattle.bench_lines.specs.Claims.{left}
use Rattle.session.specs.Runs.{Reads}
use Rattle.session.proofs.runs.next_lines.Given as goal

abbrev pub invariant-loop-next : goal.invariant-loop-next
invariant-loop-next l = (Sound l.b) × (Stable l.shelf) × (l.start ≤ l.next) × (l.next ≤ length l.input) × ((l.start < l.next) ⊎ ((l.next ≡ l.start) × (l.page ≡ l.initial.page))) × ((answers bytes : List ℕ) → Held (going l.initial.line) bytes → Reads (left l.initial.b l.initial.shelf (lent l.initial.room l.initial.area l.initial.items) l.initial.one l.initial.two answers) bytes (between l.input l.start l.next) l.initial.page (record { bench = l.b; shelf = l.shelf }) (lent l.room l.area l.items) l.one l.two (going l.line) l.page) × (l.initial.line.ended ≡ false → l.line.ended ≡ false) × (l.start < l.next → l.line.ended ≡ false)

abbrev pub decreases-loop-next : goal.decreases-loop-next
decreases-loop-next l = length l.input - l.next
