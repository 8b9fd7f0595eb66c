-- No byte is passed at first.
use Rattle.std.proofs.Common.{refl}
use Rattle.words.specs.Numbers.{all_digits}
use Rattle.words.proofs.is_digits.Goals as goal

pub loop-b-init : goal.loop-b-init
unfolding all_digits
loop-b-init c = refl
