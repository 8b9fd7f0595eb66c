use Rattle.std.proofs.Common.{◌≡◌, ◌-◌, length}
use Prim.Native.Nat.{suc}
use Rattle.verdict.specs.Refusal.{longest}
use Rattle.soak.proofs.SecondPass.{WritesSoFar}
use Rattle.soak.proofs.second_pass.write_chunks.Given as goal

-- what was written is the lines of the chunks so far
abbrev pub invariant-loop-n : goal.invariant-loop-n
invariant-loop-n g l = record { area : length l.area ≡ 640; writes : WritesSoFar l.initial.out.output l.file.input l.writer l.out.output }

-- how many bytes the pass may still read, and one more
abbrev pub decreases-loop-n : goal.decreases-loop-n
decreases-loop-n g l = suc longest - l.file.input.bytes
