use Rattle.std.proofs.Common.{◌≡◌, ◌-◌, length}
use Prim.Native.Nat.{suc}
use Rattle.verdict.specs.Refusal.{longest}
use Rattle.soak.proofs.FirstPass.{ChecksSoFar}
use Rattle.soak.proofs.first_pass.check_chunks.Given as goal

-- the check is that of the chunks so far
abbrev pub invariant-loop-n : goal.invariant-loop-n
invariant-loop-n l = record { area : length l.area ≡ 640; checks : ChecksSoFar l.file.input l.check }

-- how many bytes the pass may still read, and one more
abbrev pub decreases-loop-n : goal.decreases-loop-n
decreases-loop-n l = suc longest - l.file.input.bytes
