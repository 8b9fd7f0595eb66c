use Rattle.std.proofs.Common.{refl, ◌∙◌}
use Rattle.soak.proofs.Chunks.{reads-chunk, reads-none}
use Rattle.soak.proofs.FirstPass.{checks-none, checks-more, checks-end}
use Rattle.soak.proofs.first_pass.check_chunks.Goals as goal

pub loop-n-init : goal.loop-n-init
loop-n-init c = record { area = refl; checks = checks-none _ _ (rw c.requires) c.new-check.ensures }

pub loop-n-preserved : goal.loop-n-preserved
loop-n-preserved c =
    let area = c.read.auto.area ∙ c.loop-n.invariant.area in
    record { area = area; checks = checks-more _ _ _ _ _ _ area (reads-chunk _ _ _ _ c.in-Some.ensures) c.piece.ensures c.loop-n.invariant.checks }

pub returns : goal.returns
returns c = checks-end _ _ _ (reads-none _ _ _ c.in_default.ensures) c.loop-n.invariant.checks
