-- What the calls of a busy bench make of the parts that they need.
use Rattle.std.specs.Prelude.{ℕ, ◌+◌, ◌-◌, ◌/◌, ◌%◌, ◌≤◌, ◌<◌, ◌^◌, Bool, true, cond, not, ◌&&◌, eqb, leb}
use Rattle.time.specs.declared.clock.Clock.{Clock}
use Rattle.time.specs.Clock.{clock_at}
use Rattle.time.specs.Units.{late_at}
use Rattle.wave.specs.declared.count.Counter.{Counter}
use Rattle.wave.specs.Count.{counted, Turns}
use Rattle.wave.specs.Distance.{moved}
use Rattle.counter.specs.Halts.{latest_to}
use Rattle.held.specs.declared.state.Held.{Held}
use Rattle.held.specs.declared.quick.Answered.{Answered}
use Rattle.held.specs.declared.quick.Stilled.{Stilled}
use Rattle.held.specs.declared.quick.Counted.{Counted}
use Rattle.held.specs.Held.{never}
use Rattle.held.specs.Reply.{replied}

-- 2 and 3 for the cycle, 6 where the call may not pass the next event; 0 for none
unfoldable pub refusing : Bool → ℕ → ℕ → ℕ → ℕ
refusing tested latest next cycle = cond (not (eqb (late_at latest cycle) 0)) (late_at latest cycle) (cond (tested && leb next cycle) 6 0)

-- a held timer after a cycle is accepted, which becomes the latest, or refused, which changes nothing
unfoldable pub accepted_in : Bool → ℕ → Held → Held
accepted_in tested cycle h =
    cond (eqb (refusing tested h.timer.clock.latest.0 h.next cycle) 0)
    (record { timer = latest_to h.timer cycle; scene = h.scene; next = h.next; top = h.top; flags = h.flags; shift = h.shift; down = h.down })
    h

-- a call that yields a value and changes the latest cycle alone
unfoldable pub answering : Bool → ℕ → ℕ → ℕ → ℕ → ℕ → ℕ → Answered
answering tested what value next flags latest cycle =
    cond (eqb (refusing tested latest next cycle) 0)
    (record { latest = cycle; reply = replied 0 what value 0 next flags })
    (record { latest = latest; reply = replied (refusing tested latest next cycle) 5 0 0 0 0 })

-- the next event
unfoldable pub nexting : ℕ → ℕ → ℕ → ℕ → Answered
nexting next flags latest cycle = cond (eqb next never) (answering true 3 0 next flags latest cycle) (answering true 2 next next flags latest cycle)

-- the ticks from the sync cycle to another
unfoldable pub ticks_to : Clock → ℕ → ℕ → ℕ
ticks_to k shift cycle = (cycle - k.origin.0) / 2 ^ shift - (k.sync.0 - k.origin.0) / 2 ^ shift

-- time that passes below the next event
unfoldable pub stilled : Counter → Clock → ℕ → Bool → ℕ → Stilled
stilled c k shift down cycle = record {
  counter = record {
    count = moved down c.count (ticks_to k shift cycle);
    direction = c.direction;
    blocked = c.blocked && eqb (ticks_to k shift cycle) 0;
    odometer = counted c.odometer (ticks_to k shift cycle);
  };
  clock = clock_at cycle k.origin.0 cycle;
}

-- what that asks of its numbers
pub record Passing (c : Counter) (k : Clock) (shift : ℕ) (down : Bool) (cycle : ℕ) : Type 0 where
  pub small : shift < 64
  pub began : k.origin.0 ≤ k.sync.0
  pub later : k.sync.0 ≤ cycle
  pub room : cond down (ticks_to k shift cycle ≤ c.count) (c.count + ticks_to k shift cycle < 65536)
  pub low : c.count < 65536
  pub turns : Turns c.direction

-- the low byte of TCNTn, with what reading it leaves
unfoldable pub counting : Counter → Clock → Bool → ℕ → ℕ → Bool → ℕ → Counted
counting c k wide temp shift down cycle = record {
  counter = (stilled c k shift down cycle).counter;
  clock = (stilled c k shift down cycle).clock;
  temp = cond wide ((stilled c k shift down cycle).counter.count / 256 % 256) temp;
  byte = (stilled c k shift down cycle).counter.count % 256;
}
