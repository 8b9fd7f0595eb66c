-- The board's scheduler (02, 2.6): the owner of an event is a timer's id.
use Rattle.std.specs.Prelude.{ℕ, ◌+◌, ◌<◌, false, List, ◌≡◌, eqb, length, get_or}
use Rattle.std.specs.Result.{result_unwrap_or}
use Rattle.time.specs.declared.units.Cycle.{Cycle}
use Rattle.counter.specs.declared.next.Next.{Next}
use Rattle.counter.specs.declared.next.Next.TheVariants as next
use Rattle.events.specs.declared.EventKey.{EventKey}
use Rattle.events.specs.declared.Event.{Event}
use Rattle.events.specs.Events.{blank}
use Rattle.scheduler.specs.declared.Scheduler.{Scheduler}
use Rattle.scheduler.specs.Scheduler.{scheduled, removed}
use Rattle.scheduler.specs.Runs.{Sound}
use Rattle.m328p.specs.declared.Id.{Id}
use Rattle.m328p.specs.declared.Id.TheVariants as id

-- a timer's key
abbrev pub key_of : Id → EventKey
key_of id.Zero = record { owner = 0; tag = 0 }
key_of id.One = record { owner = 1; tag = 0 }
key_of id.Two = record { owner = 2; tag = 0 }

-- the scheduler with a timer's next event, or without one
unfoldable pub planned_of : Scheduler → Id → Next → Scheduler
planned_of s i (next.At cycle flags) = result_unwrap_or (scheduled (key_of i) cycle.0 s) s
planned_of s i next.Never = removed (key_of i) s

-- ---- exactly the next events that the timers have

-- a timer's next event as the scheduler holds it
abbrev pub event_of : Id → Cycle → Event
event_of i c = record { key = key_of i; cycle = c.0 }

-- an event that is the next one of a timer
pub record From (n : Id → Next) (e : Event) : Type 0 where
  pub owner : Id
  pub cycle : Cycle
  pub flags : ℕ
  pub next : n owner ≡ next.At cycle flags
  pub event : e ≡ event_of owner cycle

-- the place of an event
pub record Kept (l : List Event) (e : Event) : Type 0 where
  pub place : ℕ
  pub within : place < length l
  pub event : get_or l place blank ≡ e

-- how many events a timer has: one, or none where it does not run
abbrev pub many : Next → ℕ
many (next.At c f) = 1
many next.Never = 0

-- what is held are next events of timers, each timer's is held, and there are no more than those
pub record Exact (n : Id → Next) (l : List Event) : Type 0 where
  pub sound : (p : ℕ) → p < length l → From n (get_or l p blank)
  pub whole : (i : Id) (c : Cycle) (f : ℕ) → n i ≡ next.At c f → Kept l (event_of i c)
  pub size : length l ≡ many (n id.Zero) + (many (n id.One) + many (n id.Two))

-- two ids are not one
abbrev pub Apart : Id → Id → Type 0
Apart j i = eqb (key_of j).owner (key_of i).owner ≡ false

-- Planned: where one timer's next event changes and is planned, the scheduler holds exactly the next events again; and it stays sound, with no key held twice
abbrev pub Planned : Type 0
Planned = (s : Scheduler) (n m : Id → Next) (i : Id) → Sound s → Exact n s → ((j : Id) → Apart j i → m j ≡ n j)
    → (Sound (planned_of s i (m i))) × Exact m (planned_of s i (m i))
