-- The pins' lines (docs/SCRIPT.md, "Pins and the scheduler"): the keys, the pin and the drive that they say, and the answer's bytes.
use Rattle.std.specs.Prelude.{ℕ, ◌-◌, ◌==◌, Bool, false, cond, List, ◌++◌, pos, set, replicate, slice_index_or, nat_le, Float, Option, Some, None, is_some, unwrap_or, Result, Ok, Err}
use Rattle.std.specs.Str.{bytes_eq}
use Rattle.std.specs.Float.{fin, binary64}
use Rattle.std.specs.Float.Ieee.{to_bits}
use Rattle.figures.specs.Figures.{text, number}
use Rattle.page.specs.Page.{pattern, flag, unreadable_of}
use Rattle.pins.specs.declared.Drive.{Drive}
use Rattle.pins.specs.declared.Drive.TheVariants as drive
use Rattle.pins.specs.declared.Pin.{Pin}
use Rattle.pins.specs.declared.Refusal.{Refusal}
use Rattle.pins.specs.declared.Resolved.{Resolved}
use Rattle.pins.specs.Pins.{number_of, contention, resolved}
use Rattle.words.specs.declared.Unreadable.{Unreadable}
use Rattle.words.specs.declared.Unreadable.TheVariants as unreadable
use Rattle.words.specs.Words.{and_then}
use Rattle.words.specs.Numbers.{numeral_of}
use Rattle.words.specs.Decimals.{nearest, volts_of}
use Rattle.pin_lines.specs.declared.Connection.{Connection}
use Rattle.pin_lines.specs.declared.Connection.TheVariants as connection
use Rattle.pin_lines.specs.declared.Keys.{Keys}
use Rattle.pairs.specs.Pairs.{Kept, gathered}

-- ---- keys

-- before any key
abbrev pub no_keys : Keys
no_keys = record { vcc = None; connection = None; volts = None; bits = replicate 10 None }

-- "ext=float|low|high|analog", else "unknown name"
unfoldable pub connection_of : List ℕ → Result Connection Unreadable
connection_of word =
    cond (bytes_eq word (text "float")) (Ok connection.Float)
    (cond (bytes_eq word (text "low")) (Ok connection.Low)
    (cond (bytes_eq word (text "high")) (Ok connection.High)
    (cond (bytes_eq word (text "analog")) (Ok connection.Analog) (Err unreadable.UnknownName))))

-- a key with its value; a bit is any decimal byte: the pin turns away what is none
unfoldable pub taken_of : Keys → ℕ → List ℕ → Result Keys Unreadable
taken_of k key word =
    cond (key == 0) (and_then (volts_of word) (λ v. Ok (record { vcc = Some v; connection = k.connection; volts = k.volts; bits = k.bits })))
    (cond (key == 1) (and_then (connection_of word) (λ c. Ok (record { vcc = k.vcc; connection = Some c; volts = k.volts; bits = k.bits })))
    (cond (key == 2) (and_then (volts_of word) (λ v. Ok (record { vcc = k.vcc; connection = k.connection; volts = Some v; bits = k.bits })))
    (and_then (numeral_of word 10 255) (λ n. Ok (record { vcc = k.vcc; connection = k.connection; volts = k.volts; bits = set k.bits (key - 3) (Some n) })))))

-- was a key given
unfoldable pub given_of : Keys → ℕ → Bool
given_of k key =
    cond (key == 0) (is_some k.vcc) (cond (key == 1) (is_some k.connection) (cond (key == 2) (is_some k.volts) (is_some (slice_index_or k.bits (key - 3) None))))

-- the keys in their order
abbrev pub pin_keys : Kept Keys
pin_keys = record {
  names = text "vcc ext volts dir out pullup pulldown ove ovv reserved ddoe ddov level";
  given = given_of;
  taken = taken_of;
}

-- the keys of a line from a place on
abbrev pub keys_of : List ℕ → ℕ → Result Keys Unreadable
keys_of line from = gathered pin_keys no_keys line from

-- ---- the pin and its drive: "missing keys are 0, `ext` float, `vcc` 5.0"

-- a bit by its place among the ten
abbrev pub bit_of : Keys → ℕ → ℕ
bit_of k place = unwrap_or (slice_index_or k.bits place None) 0

abbrev pub ground : Float
ground = fin false 0 (pos 0)

-- the supply
unfoldable pub vcc_of : Keys → Float
vcc_of k = unwrap_or k.vcc (nearest 5 1)

-- what the outside drives
unfoldable pub driven_by : Option Connection → Float → Drive
driven_by None volts = drive.Float
driven_by (Some connection.Float) volts = drive.Float
driven_by (Some connection.Low) volts = drive.Low
driven_by (Some connection.High) volts = drive.High
driven_by (Some connection.Analog) volts = drive.Analog volts

abbrev pub drive_of : Keys → Drive
drive_of k = driven_by k.connection (unwrap_or k.volts ground)

-- the pin; a `reserved` that is no bit goes in as the level, to be refused as any other
unfoldable pub pin_of : Keys → Pin
pin_of k =
    record {
      dir = bit_of k 0;
      out = bit_of k 1;
      pullup = bit_of k 2;
      pulldown = bit_of k 3;
      ovenable = bit_of k 4;
      ovvalue = bit_of k 5;
      reserved = bit_of k 6 == 1;
      ddoe = bit_of k 7;
      ddov = bit_of k 8;
      level = cond (nat_le (bit_of k 6) 1) (bit_of k 9) (bit_of k 6);
      volts = ground;
    }

-- ---- the answer

-- "ok level=1 volts=4008000000000000 changed=1 contention=0"
unfoldable pub resolved_line : Resolved → Bool → List ℕ
resolved_line r opposed =
    (text "ok level=" ++ number r.pin.level) ++ (text " volts=" ++ pattern (to_bits binary64 r.pin.volts)) ++ (text " changed=" ++ flag r.changed) ++ (text " contention=" ++ flag opposed)

-- what the pin resolves to and whether it is opposed, in the words of 01
unfoldable pub outcome_of : Keys → Result (Resolved × Bool) Refusal
outcome_of k =
    let p = pin_of k in
    let d = drive_of k in
    and_then (resolved p d (vcc_of k)) (λ r. and_then (contention p d) (λ c. Ok (r, c)))

-- "or refused 9, refused 10"
unfoldable pub answer_line : Result (Resolved × Bool) Refusal → List ℕ
answer_line (Ok r) = resolved_line r.0 r.1
answer_line (Err why) = text "refused " ++ number (number_of why)

-- the nth line, from the place after its name
unfoldable pub pin_of_line : ℕ → Result Keys Unreadable → List ℕ
pin_of_line nth (Ok k) = answer_line (outcome_of k)
pin_of_line nth (Err why) = unreadable_of nth why

abbrev pub pin_line : ℕ → List ℕ → ℕ → List ℕ
pin_line nth line at = pin_of_line nth (keys_of line at)
