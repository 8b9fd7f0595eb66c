-- What the presets give, computed.
use mathlib.Core.Path.{refl}
use Rattle.config.specs.Config.{accepted, choice_rule, width_rule, layout_rule, compare_rule, address_rule, controls, owned, flag_rule, flagged, one_bit, flags_of, pin_rule, pins_of}
use Rattle.few.specs.Few.{also, has, distinct, within}
use Rattle.figures.specs.Figures.{codes}
use Rattle.words.specs.Words.{and_then, before, first_from, onto, begun, words, split_at}
use Rattle.words.specs.Numbers.{digit_of, all_digits, extended, well_formed, limited, numeral_of}
use Rattle.pairs.specs.Pairs.{paired, stepped, in_turn}
use Rattle.config_keys.specs.Keys.{named_of, plain_of, optional_of, written_of, parts_from, compare_of, taken_of, saying_of}
use Rattle.script.specs.Presets.{preset_text, preset_keys}
use Rattle.script.specs.Configs.{third_of, config_of}
use Rattle.script.specs.Readings.{Ten}

pub ten : Ten
unfolding preset_keys preset_text codes saying_of third_of config_of and_then in_turn stepped paired taken_of written_of named_of plain_of optional_of compare_of parts_from words begun onto before first_from split_at numeral_of well_formed all_digits limited extended digit_of accepted choice_rule width_rule layout_rule compare_rule address_rule controls owned flag_rule flagged one_bit flags_of pin_rule pins_of also has distinct within
ten = record {
  first = record { gives = refl; kept = refl };
  second = record { gives = refl; kept = refl };
  third = record { gives = refl; kept = refl };
  fourth = record { gives = refl; kept = refl };
  fifth = record { gives = refl; kept = refl };
  sixth = record { gives = refl; kept = refl };
  seventh = record { gives = refl; kept = refl };
  eighth = record { gives = refl; kept = refl };
  ninth = record { gives = refl; kept = refl };
  tenth = record { gives = refl; kept = refl };
}
