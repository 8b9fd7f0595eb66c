-- The bench is sound and the shelf stable.
use Rattle.bench_lines.specs.Desk.{Sound, Stable}
use Rattle.bench.proofs.main.Given as goal

abbrev pub invariant-loop : goal.invariant-loop
invariant-loop l = (Sound l.desk.bench) × (Stable l.desk.shelf)
