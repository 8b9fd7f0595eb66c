-- A configuration's keys (docs/SCRIPT.md, "A timer"): what each word says of them, and why a line cannot be read.
use Rattle.std.specs.Prelude.{ℕ, zero, suc, ◌+◌, min, Bool, cond, ◌==◌, List, [], ◌∷◌, length, take, set, replicate, slice_index_or, count_by, Option, Some, None, is_some, is_none, unwrap_or, ok_or, Result, Ok, Err}
use Rattle.std.specs.List.{list_any}
use Rattle.std.specs.Option.{option_or, option_flatten}
use Rattle.std.specs.Str.{bytes_eq}
use Rattle.config.specs.declared.Config.{Config}
use Rattle.config.specs.declared.Wire.{Wire}
use Rattle.figures.specs.Figures.{text}
use Rattle.words.specs.declared.Unreadable.{Unreadable}
use Rattle.words.specs.declared.Unreadable.TheVariants as unreadable
use Rattle.words.specs.Words.{find_of, place_of, and_then}
use Rattle.words.specs.Numbers.{between, numeral_of}
use Rattle.config_keys.specs.declared.Keys.{Keys}
use Rattle.config_keys.specs.declared.Kind.{Kind}
use Rattle.config_keys.specs.declared.Kind.TheVariants as kind
use Rattle.pairs.specs.Pairs.{Kept, gathered}

-- ---- values

-- a key's value, none where its unit is told to be absent
abbrev pub Value : Type 0
Value = Option ℕ

-- a word that is one of so many names, as its place among them, else "unknown name"
unfoldable pub named_of : List ℕ → List ℕ → Result Value Unreadable
named_of names word = and_then (ok_or (place_of names word) unreadable.UnknownName) (λ n. Ok (Some n))

-- a number
unfoldable pub plain_of : List ℕ → ℕ → ℕ → Result Value Unreadable
plain_of word radix most = and_then (numeral_of word radix most) (λ n. Ok (Some n))

-- a number, or "`-` is an absent unit"
unfoldable pub optional_of : List ℕ → ℕ → ℕ → Result Value Unreadable
optional_of word radix most = cond (bytes_eq word (text "-")) (Ok None) (plain_of word radix most)

-- "addresses, register values and masks are hexadecimal", "ids, pins .. are decimal"
unfoldable pub written_of : Kind → List ℕ → Result Value Unreadable
written_of kind.Byte word = plain_of word 10 255
written_of kind.Bit word = plain_of word 10 1
written_of kind.Layout word = named_of (text "split single single0") word
written_of kind.Clock word = named_of (text "sync t2") word
written_of kind.Address word = plain_of word 16 65535
written_of kind.UnitAddress word = optional_of word 16 65535
written_of kind.Pin word = optional_of word 10 255
written_of kind.Mask word = plain_of word 16 255

-- the kinds of the keys in the order of their list, then of compare C's address, flag, pin and force mask
abbrev pub kinds : List Kind
kinds =
    kind.Byte ∷ kind.Bit ∷ kind.Layout ∷ kind.Address ∷ kind.Address ∷ kind.Address ∷ kind.Mask ∷ kind.Mask ∷ kind.Address ∷ kind.UnitAddress ∷ kind.UnitAddress
    ∷ kind.UnitAddress ∷ kind.Mask ∷ kind.Mask ∷ kind.Mask ∷ kind.Mask ∷ kind.Pin ∷ kind.Pin ∷ kind.Mask ∷ kind.Pin ∷ kind.Pin ∷ kind.Clock ∷ kind.Mask ∷ kind.Address ∷ kind.Mask
    ∷ kind.Address ∷ kind.Mask ∷ kind.Pin ∷ kind.Mask ∷ []

-- a key's value, by its place in the list
abbrev pub value_of : ℕ → List ℕ → Result Value Unreadable
value_of key word = written_of (slice_index_or kinds key kind.Byte) word

-- ---- keys

-- before any key
abbrev pub no_keys : Keys
no_keys = record { values = replicate 29 None }

-- one value more
abbrev pub set_of : Keys → ℕ → Value → Keys
set_of k key v = record { values = set k.values key (Some v) }

-- the place after another, at most the word's end
abbrev pub after_of : List ℕ → ℕ → ℕ
after_of word at = min (at + 1) (length word)

-- so many keys from one on, each with the part of a word up to the next colon
unfoldable pub parts_from : ℕ → Keys → List ℕ → ℕ → ℕ → Result Keys Unreadable
parts_from zero k word key at = Ok k
parts_from (suc n) k word key at =
    let end = find_of word at 58 in
    and_then (value_of key (between word at end)) (λ v. parts_from n (set_of k key v) word (key + 1) (after_of word end))

-- "`OCR:FLAG:PIN:FORCEMASK`"; the key of compare C itself says only that it is there
abbrev pub parts_of : Keys → List ℕ → Result Keys Unreadable
parts_of k word = parts_from 4 (set_of k 18 (Some 0)) word 25 0

-- "`c` is `-` or `OCR:FLAG:PIN:FORCEMASK`", else "malformed number"
unfoldable pub compare_of : Keys → List ℕ → Result Keys Unreadable
compare_of k word =
    cond (bytes_eq word (text "-")) (Ok (set_of k 18 None))
    (cond (count_by (λ b. b == 58) word == 3) (parts_of k word) (Err unreadable.Malformed))

-- a key with its value
unfoldable pub taken_of : Keys → ℕ → List ℕ → Result Keys Unreadable
taken_of k key word = cond (key == 18) (compare_of k word) (and_then (value_of key word) (λ v. Ok (set_of k key v)))

-- was a key given
abbrev pub given_of : Keys → ℕ → Bool
given_of k key = is_some (slice_index_or k.values key None)

-- the keys in their order
abbrev pub config_keys : Kept Keys
config_keys = record {
  names = text "id wide layout tccra tccrb foc foca focb tcnt ocra ocrb icr tov ocfa ocfb icf pina pinb c icp t clock group prr sleeprun";
  given = given_of;
  taken = taken_of;
}

-- the keys of a text from a place on
abbrev pub keys_of : List ℕ → ℕ → Result Keys Unreadable
keys_of line from = gathered config_keys no_keys line from

-- "missing keys last": none of the 25 is missing
unfoldable pub whole_of : Keys → Result Keys Unreadable
whole_of k = cond (list_any is_none (take 25 k.values)) (Err unreadable.MissingWord) (Ok k)

-- values, with others where they have none
unfoldable pub filled : List (Option Value) → List (Option Value) → List (Option Value)
filled [] others = []
filled (v ∷ vs) [] = v ∷ vs
filled (v ∷ vs) (w ∷ ws) = option_or v w ∷ filled vs ws

-- "after a preset any keys that differ": the keys, with another's where they have none
abbrev pub over_of : Keys → Keys → Keys
over_of k other = record { values = filled k.values other.values }

-- a key's value, none too where it was not given, and its number, 0 where it has none
abbrev pub value_at : Keys → ℕ → Value
value_at k key = option_flatten (slice_index_or k.values key None)

abbrev pub number_at : Keys → ℕ → ℕ
number_at k key = unwrap_or (value_at k key) 0

-- ---- the keys that say a configuration

abbrev pub flag_value : Bool → ℕ
flag_value b = cond b 1 0

abbrev pub given : ℕ → Option Value
given n = Some (Some n)

abbrev pub unit_value : Bool → ℕ → Option Value
unit_value present n = Some (cond present (Some n) None)

abbrev pub pin_value : Wire → Option Value
pin_value w = unit_value w.present w.pin

-- in the order of their list
unfoldable pub saying_of : Config → Keys
saying_of c =
    record {
      values =
          given c.id ∷ given (flag_value c.wide) ∷ given c.layout ∷ given c.tccra ∷ given c.tccrb ∷ given c.foc ∷ given c.a.force ∷ given c.b.force ∷ given c.tcnt
          ∷ unit_value c.a.present c.a.address ∷ unit_value c.b.present c.b.address ∷ unit_value c.icr.present c.icr.address
          ∷ given c.tov ∷ given c.a.flag ∷ given c.b.flag ∷ given c.icr.flag ∷ pin_value c.a.wire ∷ pin_value c.b.wire ∷ unit_value c.c.present 0
          ∷ pin_value c.icr.wire ∷ pin_value c.t ∷ given c.clocks ∷ given c.group ∷ given c.prr ∷ given c.sleeprun
          ∷ given c.c.address ∷ given c.c.flag ∷ pin_value c.c.wire ∷ given c.c.force ∷ [];
    }
