-- A list of events in the order of the Rust's vector (scheduler.rs, `events`), and what the Rust does with it.
use Rattle.std.specs.Prelude.{ℕ, ◌-◌, ◌<◌, ◌^◌, min, ◌≡◌, Bool, ◌&&◌, List, eqb, length, get_or, map, swap_remove, unwrap_or}
use Rattle.std.specs.List.{position_or_len, reduce}
use Rattle.events.specs.declared.EventKey.{EventKey}
use Rattle.events.specs.declared.Event.{Event}

-- what stands in a place that holds no event
abbrev pub blank : Event
blank = record { key = record { owner = 0; tag = 0 }; cycle = 0 }

-- `==` of two keys
abbrev pub same : EventKey → EventKey → Bool
same a b = eqb a.owner b.owner && eqb a.tag b.tag

-- `position(|e| e.0 == key)`: the place of the first event with the key, or the length
abbrev pub place_of : EventKey → List Event → ℕ
place_of key l = position_or_len (λ e. same e.key key) l

-- `recompute`: `iter().map(|e| e.1).min().unwrap_or(u64::MAX)`
unfoldable pub earliest : List Event → ℕ
earliest l = unwrap_or (reduce min (map (λ e. e.cycle) l)) (2 ^ 64 - 1)

-- `min_by_key(|(_, e)| e.1)`: the place of the first event with the earliest cycle
abbrev pub foremost : List Event → ℕ
foremost l = position_or_len (λ e. eqb e.cycle (earliest l)) l

-- the place of an event of the list with the cycle
pub record Met (l : List Event) (c : ℕ) : Type 0 where
  pub place : ℕ
  pub within : place < length l
  pub cycle : (get_or l place blank).cycle ≡ c

-- `swap_remove(i)`: the last event takes place i
unfoldable pub swap_removed : ℕ → List Event → List Event
swap_removed i l = swap_remove l i blank
