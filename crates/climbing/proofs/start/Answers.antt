use Rattle.climbing.proofs.start.Goals as goal

pub overflow_shr-result : goal.overflow_shr-result
overflow_shr-result c = c.requires.0

pub overflow_cast-result-2 : goal.overflow_cast-result-2
overflow_cast-result-2 c = record { fits = c.requires.2 }
