use Rattle.std.proofs.Common.{refl, ◌∙◌}
use Rattle.soak.proofs.Chunks.{reads-chunk, reads-none}
use Rattle.soak.proofs.SecondPass.{writes-none, writes-more, writes-end}
use Rattle.soak.proofs.second_pass.write_chunks.Goals as goal

pub loop-n-init : goal.loop-n-init
loop-n-init g c = record { area = refl; writes = writes-none _ _ _ c.requires.opened c.new-writer.ensures }

pub loop-n-preserved : goal.loop-n-preserved
loop-n-preserved g c =
    let area = c.read.auto.area ∙ c.loop-n.invariant.area in
    let lines = c.write_lines.ensures in
    record { area = area; writes = writes-more _ _ _ _ _ _ _ _ _ area (reads-chunk _ _ _ _ c.in-Some.ensures) lines.writer lines.output lines.most c.loop-n.invariant.writes }

pub returns : goal.returns
returns g c = writes-end _ _ _ _ _ (reads-none _ _ _ c.in_default.ensures) c.loop-n.invariant.writes
