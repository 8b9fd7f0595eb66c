use Rattle.std.proofs.Common.{refl}
use Rattle.soak.proofs.Prefixes.{counts, wrote-prefix}
use Rattle.soak.proofs.SecondPass.{header-put, put_ok, put_prefix}
use Rattle.soak.proofs.second_pass.write_header.Goals as goal

pub unwrap-n-requires : goal.unwrap-n-requires
unwrap-n-requires g c = put_ok (header-put _ _ _ _ refl c.header.auto.out c.header.ensures)

pub slice_bounds-lines-end : goal.slice_bounds-lines-end
slice_bounds-lines-end g c = (put_prefix (header-put _ _ _ _ refl c.header.auto.out c.header.ensures) c.unwrap-n.ensures).fits

pub slice_bounds-write-end : goal.slice_bounds-write-end
slice_bounds-write-end g c = counts (put_prefix (header-put _ _ _ _ refl c.header.auto.out c.header.ensures) c.unwrap-n.ensures)

pub returns-clause-output : goal.returns-clause-output
returns-clause-output g c = wrote-prefix (put_prefix (header-put _ _ _ _ refl c.header.auto.out c.header.ensures) c.unwrap-n.ensures) _ c.write.ensures
