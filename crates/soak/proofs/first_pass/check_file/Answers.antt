use Rattle.soak.proofs.FirstPass.{checks-missing}
use Rattle.soak.proofs.first_pass.check_file.Goals as goal

pub returns-in_default : goal.returns-in_default
returns-in_default g c = checks-missing _ _ c.missing.ensures c.new.ensures
