-- A clock of its own: the ticks that a history of calls makes, told from cycles, clock writes, prescaler resets, halts and T edges alone (02, 2.11).
use Rattle.std.specs.Prelude.{ℕ, ◌+◌, ◌-◌, ◌%◌, Bool, cond, not, ◌&&◌, ◌||◌, List, [], ◌∷◌, eqb, ltb, get_or}
use Rattle.std.specs.Bool.{beq}
use Rattle.std.specs.Int.Bits.{bit_and}
use Rattle.config.specs.declared.Config.{Config}
use Rattle.config.specs.Config.{split, place_of}
use Rattle.time.specs.declared.halts.Halts.{Halts}
use Rattle.time.specs.declared.units.Prescaler.{Prescaler}
use Rattle.time.specs.Halts.{holding, sleep_from, wakened, reduce_to, hold_to}
use Rattle.time.specs.Units.{ticks_at}
use Rattle.counter.specs.Modes.{divisor_at, chosen}
use Rattle.timer.specs.declared.calls.Call.{Call}
use Rattle.timer.specs.declared.calls.Call.TheVariants as call
use Rattle.timer.specs.Calls.{is_pin}
use Rattle.timer.specs.Claims.{Request}

-- how the clock stands, and the ticks made up to a cycle
pub record Watch : Type 0 where
  pub sync : ℕ
  pub made : ℕ
  pub origin : ℕ
  pub select : ℕ
  pub halts : Halts

-- its prescaler
abbrev pub prescaler : Config → Watch → Prescaler
prescaler c w = record { origin = record { 0 = w.origin }; divisor = divisor_at c.clocks w.select }

-- a divisor is selected, and neither sleep nor power reduction nor TSM holds
abbrev pub runs : Config → Watch → Bool
runs c w = ltb 0 (divisor_at c.clocks w.select) && not (holding w.halts)

-- the ticks made up to a later cycle, where nothing is heard before it
unfoldable pub made_at : Config → Watch → ℕ → ℕ
made_at c w cycle = w.made + cond (runs c w) (ticks_at (prescaler c w) cycle - ticks_at (prescaler c w) w.sync) 0

-- ticks made up to a cycle, and from there on another origin, clock select and halts
abbrev pub goes_on : ℕ → ℕ → ℕ → ℕ → Halts → Watch
goes_on cycle made origin select halts = record { sync = cycle; made = made; origin = origin; select = select; halts = halts }

-- a mask names a bit of the timer's own
abbrev pub names : ℕ → ℕ → Bool
names mask own = not (eqb (bit_and mask own) 0)

-- the register that has the clock select: TCCRnB, or TCCRn of a single layout
abbrev pub selects : Config → ℕ → Bool
selects c place = eqb place 11 || eqb place 10 && not (split c.layout)

-- a sleep that halts the timer
abbrev pub halts : Config → ℕ → Bool
halts c mode = not (eqb mode 0) && eqb (bit_and c.sleeprun (get_or (1 ∷ 2 ∷ 4 ∷ 8 ∷ 16 ∷ 32 ∷ 64 ∷ 128 ∷ []) mode 0)) 0

-- an edge of the T pin that the clock select chooses, while nothing holds
abbrev pub strikes : Config → Watch → ℕ → ℕ → Bool
strikes c w pin level = is_pin c.t pin && (chosen c.clocks w.select level && not (holding w.halts))

-- the clock after an accepted call at a cycle
unfoldable pub hears : Config → Watch → Call → ℕ → Watch
hears c w (call.Write address value) cycle = cond (selects c (place_of c address)) (goes_on cycle (made_at c w cycle) w.origin (value % 8) w.halts) w
hears c w (call.Edge pin level) cycle = cond (strikes c w pin level) (goes_on cycle (made_at c w cycle + 1) w.origin w.select w.halts) w
hears c w (call.Sleep mode) cycle = cond (halts c mode) (goes_on cycle (made_at c w cycle) w.origin w.select (sleep_from w.halts cycle)) w
hears c w call.Wake cycle = cond w.halts.asleep (goes_on cycle w.made (w.origin + (cycle - w.halts.since.0)) w.select (wakened w.halts)) w
hears c w (call.Reduce mask) cycle = cond (not (beq (names mask c.prr) w.halts.reduced)) (goes_on cycle (made_at c w cycle) w.origin w.select (reduce_to w.halts (names mask c.prr))) w
hears c w (call.Tsm level) cycle = cond (not (beq (eqb level 1) w.halts.tsm)) (goes_on cycle (made_at c w cycle) (cond (eqb level 1) w.origin cycle) w.select (hold_to w.halts (eqb level 1))) w
hears c w (call.Prescale mask) cycle = cond (names mask c.group) (goes_on cycle (made_at c w cycle) cycle w.select w.halts) w
hears c w call.Advance cycle = w
hears c w call.Next cycle = w
hears c w (call.Read address) cycle = w
hears c w (call.Peek address) cycle = w
hears c w call.Tifr cycle = w
hears c w call.Timsk cycle = w
hears c w (call.WriteTifr ones) cycle = w
hears c w (call.WriteTimsk mask) cycle = w
hears c w (call.Output level) cycle = w
hears c w (call.Route level) cycle = w
hears c w call.Reset cycle = w

-- the clock after a list of them
unfoldable pub follows : Config → Watch → List Request → Watch
follows c w [] = w
follows c w (q ∷ qs) = follows c (hears c w q.call q.cycle) qs
