-- The configuration that a line gives (docs/SCRIPT.md, "A timer"): by all its keys, or by a preset's name and the keys that differ.
use Rattle.std.specs.Prelude.{ℕ, ◌%◌, Bool, true, false, cond, List, length, ◌==◌, slice_index_or, Option, Some, None, is_some, unwrap_or, ok_or, Result, Ok, Err}
use Rattle.config.specs.declared.Capture.{Capture}
use Rattle.config.specs.declared.Compare.{Compare}
use Rattle.config.specs.declared.Config.{Config}
use Rattle.config.specs.declared.Wire.{Wire}
use Rattle.words.specs.declared.Unreadable.{Unreadable}
use Rattle.words.specs.declared.Unreadable.TheVariants as unreadable
use Rattle.words.specs.Words.{find_of, skip_of, and_then}
use Rattle.words.specs.Numbers.{between}
use Rattle.config_keys.specs.declared.Keys.{Keys}
use Rattle.config_keys.specs.Keys.{Value, keys_of, whole_of, over_of, value_at, number_at}
use Rattle.script.specs.Presets.{preset_of, preset_keys}

-- a pin, or none
abbrev pub wire_of : Value → Wire
wire_of pin = record { present = is_some pin; pin = unwrap_or pin 0 % 256 }

-- a compare unit, absent with its address
abbrev pub compare_of : Value → ℕ → ℕ → Value → Compare
compare_of address flag force pin = record { present = is_some address; address = unwrap_or address 0 % 65536; flag = flag % 256; force = force % 256; wire = wire_of pin }

-- the capture unit, absent with its address
abbrev pub capture_of : Value → ℕ → Value → Capture
capture_of address flag pin = record { present = is_some address; address = unwrap_or address 0 % 65536; flag = flag % 256; wire = wire_of pin }

-- is a unit told to be absent
abbrev pub absent : Option Value → Bool
absent (Some None) = true
absent (Some (Some n)) = false
absent None = false

-- compare C, which is absent or given whole
unfoldable pub third_of : Keys → Compare
third_of k = cond (absent (slice_index_or k.values 18 None)) (compare_of None 0 0 None) (compare_of (value_at k 25) (number_at k 26) (number_at k 28) (value_at k 27))

-- the configuration that the keys say
unfoldable pub config_of : Keys → Config
config_of k =
    record {
      id = number_at k 0 % 256;
      wide = number_at k 1 == 1;
      layout = number_at k 2 % 256;
      tccra = number_at k 3 % 65536;
      tccrb = number_at k 4 % 65536;
      foc = number_at k 5 % 65536;
      tcnt = number_at k 8 % 65536;
      a = compare_of (value_at k 9) (number_at k 13) (number_at k 6) (value_at k 16);
      b = compare_of (value_at k 10) (number_at k 14) (number_at k 7) (value_at k 17);
      c = third_of k;
      icr = capture_of (value_at k 11) (number_at k 15) (value_at k 19);
      tov = number_at k 12 % 256;
      t = wire_of (value_at k 20);
      clocks = number_at k 21 % 256;
      group = number_at k 22 % 256;
      prr = number_at k 23 % 65536;
      sleeprun = number_at k 24 % 256;
    }

-- the line `config`, from a place on: "all keys, in any order"
abbrev pub of_keys : List ℕ → ℕ → Result Config Unreadable
of_keys line at = and_then (keys_of line at) (λ k. and_then (whole_of k) (λ w. Ok (config_of w)))

-- a preset's keys under those that follow its name
abbrev pub over_preset : List ℕ → ℕ → ℕ → Result Keys Unreadable
over_preset line end n = and_then (keys_of line end) (λ k. and_then (preset_keys n) (λ p. Ok (over_of k p)))

-- else "missing word", "unknown name"
unfoldable pub preset_line : List ℕ → ℕ → Result Keys Unreadable
preset_line line at =
    let start = skip_of line at in
    let end = find_of line start 32 in
    cond (start == length line) (Err unreadable.MissingWord)
    (and_then (ok_or (preset_of (between line start end)) unreadable.UnknownName) (over_preset line end))

-- the line `preset`, from a place on: "after a preset any keys that differ"
abbrev pub of_preset : List ℕ → ℕ → Result Config Unreadable
of_preset line at = and_then (preset_line line at) (λ k. Ok (config_of k))
