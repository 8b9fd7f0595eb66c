-- `config_keys::Keys::over` meets its contract. The loop's invariant: the values passed are filled from the other's.
use Rattle.std.proofs.Common.{◌≡◌}
use Rattle.config_keys.proofs.Reading.{fill}
use Rattle.config_keys.proofs.Keys.over.Given as goal

abbrev pub invariant-loop-key : goal.invariant-loop-key
invariant-loop-key l = l.self.values ≡ fill l.key l.initial.self.values l.other.values
