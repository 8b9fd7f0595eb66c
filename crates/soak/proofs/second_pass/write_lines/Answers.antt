use Rattle.std.proofs.Common.{refl, arith}
use Rattle.soak.proofs.Prefixes.{counts, most, wrote-prefix}
use Rattle.soak.proofs.SecondPass.{lines-put, put_ok, put_prefix}
use Rattle.soak.proofs.second_pass.write_lines.Goals as goal

pub unwrap-n-requires : goal.unwrap-n-requires
unwrap-n-requires g c = put_ok (lines-put _ _ _ _ _ c.requires.chunk refl c.piece.auto.out c.piece.ensures.answers)

pub slice_bounds-lines-end : goal.slice_bounds-lines-end
slice_bounds-lines-end g c = (put_prefix (lines-put _ _ _ _ _ c.requires.chunk refl c.piece.auto.out c.piece.ensures.answers) c.unwrap-n.ensures).fits

pub slice_bounds-write-end : goal.slice_bounds-write-end
slice_bounds-write-end g c = counts (put_prefix (lines-put _ _ _ _ _ c.requires.chunk refl c.piece.auto.out c.piece.ensures.answers) c.unwrap-n.ensures)

pub returns-clause-output : goal.returns-clause-output
returns-clause-output g c = wrote-prefix (put_prefix (lines-put _ _ _ _ _ c.requires.chunk refl c.piece.auto.out c.piece.ensures.answers) c.unwrap-n.ensures) _ c.write.ensures

pub returns-clause-most : goal.returns-clause-most
returns-clause-most g c = omega (arith, most (put_prefix (lines-put _ _ _ _ _ c.requires.chunk refl c.piece.auto.out c.piece.ensures.answers) c.unwrap-n.ensures), c.piece.auto.out)
