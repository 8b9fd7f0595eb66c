use Rattle.std.proofs.Common.{◌∙◌}
use Rattle.soak.proofs.Files.{dumps-refused, dumps-written}
use Rattle.soak.proofs.dump_file.Goals as goal
use Rattle.soak.proofs.dump_file.Goals.{then-is_none, else-is_none}

pub returns : goal.returns
returns g c =
    let err = c.output-2.ensures ∙ c.write_number.ensures in
    elim c.if-is_none.branch [
      | then-is_none w ↦
          dumps-written _ _ _ _ _ c.check_file-checked.ensures c.refusal-refusal.ensures c.new-out.ensures c.new-err.ensures _ _ _ _
          w.if-is_none.ensures (rw w.second-is (w.refusal-is ∙ w.cut_short-refusal.ensures)) (rw (w.second-is, c.output.ensures, w.out-is) w.write_file-second.ensures) err
      | else-is_none w ↦
          dumps-refused _ _ _ _ _ c.check_file-checked.ensures c.refusal-refusal.ensures c.new-out.ensures c.new-err.ensures _ _ _ _
          w.if-is_none.ensures w.refusal-is w.second-is (rw (c.output.ensures, w.out-is)) err
    ]
