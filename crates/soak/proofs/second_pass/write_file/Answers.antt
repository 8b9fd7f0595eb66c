use Rattle.soak.proofs.SecondPass.{not_opened}
use Rattle.soak.proofs.second_pass.write_file.Goals as goal

pub returns-in_default : goal.returns-in_default
returns-in_default g c = not_opened _ _ _ c.missing.ensures
