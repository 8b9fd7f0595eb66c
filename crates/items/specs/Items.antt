-- The items of a lent list of writes (02, 2.1).
use Rattle.std.specs.Prelude.{ℕ, zero, suc, ◌/◌, ◌%◌, ◌^◌, List, [], ◌∷◌, take, drop}
use Rattle.records.specs.Records.{number_of}
use Rattle.items.specs.declared.Item.{Item}

-- 80 bits, most significant first: address (10), value (8), cycle (62) (02, 2.1)
unfoldable pub item_in : List ℕ → Item
item_in bytes =
    record { address = number_of bytes / 2 ^ 70; value = number_of bytes / 2 ^ 62 % 2 ^ 8; cycle = record { 0 = number_of bytes % 2 ^ 62 } }

-- the first n items of a list, ten bytes each (02, 2.1)
unfoldable pub items_in : ℕ → List ℕ → List Item
items_in zero list = []
items_in (suc n) list = item_in (take 10 list) ∷ items_in n (drop 10 list)
