-- How many keys a pin's line has.
use Rattle.std.proofs.Common.{◌≡◌, length, refl}
use Rattle.figures.specs.Figures.{codes}
use Rattle.words.specs.Words.{words, begun, onto}
use Rattle.pin_lines.specs.PinLines.{pin_keys}

pub keys_many : length (words pin_keys.names) ≡ 13
unfolding words begun onto codes
keys_many = refl
