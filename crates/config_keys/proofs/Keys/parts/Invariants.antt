-- `config_keys::Keys::parts` meets its contract. The loop's invariant: the parts that are left make of the keys what all made of the first.
use Rattle.std.proofs.Common.{◌≡◌, ◌-◌, ◌≤◌, length}
use Rattle.config_keys.specs.Keys.{parts_from}
use Rattle.config_keys.proofs.Keys.parts.Given as goal

abbrev pub invariant-loop-key : goal.invariant-loop-key
invariant-loop-key l = (l.at ≤ length l.word) × (parts_from (29 - l.key) l.self l.word l.key l.at ≡ parts_from 4 l.initial.self l.word 25 0)
