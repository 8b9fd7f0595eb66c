-- The 64 places that hold a list of events.
use Rattle.std.specs.Prelude.{◌-◌, ◌≤◌, ◌≡◌, List, ◌++◌, length, take, replicate}
use Rattle.events.specs.declared.Event.{Event}
use Rattle.events.specs.declared.Events.TheInside.{Inside}
use Rattle.events.specs.Events.{blank}

-- the places that hold a list: its events, then blanks
abbrev pub listed : List Event → Inside
listed l = record { places = l ++ replicate (64 - length l) blank; count = length l }

-- the list that the places hold
abbrev pub list_in : Inside → List Event
list_in v = take v.count v.places

-- at most 64 events from place 0 on, and blanks after them
pub record Packed (v : Inside) : Type 0 where
  pub room : v.count ≤ 64
  pub whole : v ≡ listed (list_in v)
