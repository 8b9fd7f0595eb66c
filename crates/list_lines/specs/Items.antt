-- The list that `item` lines make up (docs/SCRIPT.md, "Lists of register writes").
use Rattle.std.specs.Prelude.{ℕ, ◌+◌, ◌*◌, ◌/◌, ◌-◌, ◌^◌, ◌≤◌, cond, List, ◌++◌, ◌≡◌, length, nat_le, Result, Ok, Err}
use Rattle.figures.specs.Figures.{text, number}
use Rattle.words.specs.Words.{exactly_of, and_then}
use Rattle.words.specs.Numbers.{next_of}
use Rattle.words.specs.declared.Unreadable.{Unreadable}
use Rattle.words.specs.declared.Unreadable.TheVariants as unreadable
use Rattle.page.specs.Page.{Puts, unreadable_of}
use Rattle.records.specs.Records.{bytes_of}
use Rattle.items.specs.declared.Item.{Item}

-- what an item's line leaves: the list's bytes, ten an item, and the answer's
pub record Added : Type 0 where
  pub list : List ℕ
  pub bytes : List ℕ

-- a line that leaves the list as it was
abbrev pub saying : List ℕ → List ℕ → Added
saying list bytes = record { list = list; bytes = bytes }

-- what an item has room for: 10 bits of address, 8 of value and 62 of cycle
pub record IsItem (i : Item) : Type 0 where
  pub address : i.address ≤ 0x3ff
  pub value : i.value ≤ 0xff
  pub cycle : i.cycle.0 ≤ 0x3fffffffffffffff

-- "ten an item (address 10 bits, value 8, cycle 62, the most significant first)"
unfoldable pub item_of : ℕ → ℕ → ℕ → List ℕ
item_of address value cycle = bytes_of 10 (address * 2 ^ 70 + value * 2 ^ 62 + cycle)

-- "ok items=K: how many the list holds"; "the 401st item an extra word"
unfoldable pub added_of : ℕ → List ℕ → List ℕ → Added
added_of nth list item =
    cond (nat_le 4000 (length list)) (saying list (unreadable_of nth unreadable.ExtraWord))
    (saying (list ++ item) (text "ok items=" ++ number (length (list ++ item) / 10)))

-- `item ADDR VALUE CYCLE`, from the place after its name: "an address over 3FF or a cycle over 2^62 − 1 is a number too large"
unfoldable pub asked_of : List ℕ → ℕ → Result Item Unreadable
asked_of line at =
    and_then (exactly_of line at 3) (λ _.
    and_then (next_of line at 16 1023) (λ address.
    and_then (next_of line address.end 16 255) (λ value.
    and_then (next_of line value.end 10 (2 ^ 62 - 1)) (λ cycle.
    Ok (record { address = address.value; value = value.value; cycle = record { 0 = cycle.value } })))))

-- an item whose words were read
unfoldable pub item_read : ℕ → List ℕ → Result Item Unreadable → Added
item_read nth list (Ok item) = added_of nth list (item_of item.address item.value item.cycle.0)
item_read nth list (Err why) = saying list (unreadable_of nth why)

-- the line
abbrev pub item_line : ℕ → List ℕ → ℕ → List ℕ → Added
item_line nth line at list = item_read nth list (asked_of line at)

-- what the code leaves is what the line's definition says
pub record Adds (x : Added) (old new after : List ℕ) : Type 0 where
  pub list : after ≡ x.list
  pub puts : Puts old new x.bytes
