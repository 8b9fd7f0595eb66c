-- What each call does: refusals first, then the time that passes, then its own work (01, "The record area", and its sections on the calls).
-- The sheet: TIFR and TIMSK of "Register Description"; each call's work is in counter.
use Rattle.std.specs.Prelude.{ℕ, ◌-◌, ◌%◌, Bool, true, false, cond, not, ◌&&◌, ◌||◌, List, [], ◌++◌, eqb, leb, ltb, length}
use Rattle.std.specs.Bool.{beq}
use Rattle.std.specs.Int.Bits.{bit_and}
use Rattle.records.specs.Records.{records_of}
use Rattle.config.specs.declared.Wire.{Wire}
use Rattle.config.specs.Config.{place_of}
use Rattle.counter.specs.declared.state.Timer.{Timer}
use Rattle.counter.specs.Parts.{flags_to}
use Rattle.counter.specs.Capture.{captures, captured, ticks_on}
use Rattle.counter.specs.Next.{next_flags, next_of}
use Rattle.counter.specs.Halts.{latest_to, halting, asleep_at, awake_at, reduced_to, prescaled_at, tsm_to, routed_to, reset_at}
use Rattle.counter.specs.Logs.{Noted, silent, struck}
use Rattle.passage.specs.Passage.{Passage}
use Rattle.counter.specs.Passage.{Passed, synced, advanced, sync_to}
use Rattle.counter.specs.Registers.{is_high, immediate, peeked, read_value, read_timer, written}
use Rattle.timer.specs.declared.calls.Call.{Call}
use Rattle.timer.specs.declared.calls.Call.TheVariants as call
use Rattle.answers.specs.Answers.{Values, none, byte, event, reached, paused, Told, turned, given, fitted}
use Rattle.answers.specs.Refusals.{refusal}

-- ---- which timer a call concerns

-- the register at the call's address
abbrev pub placed : Timer → ℕ → ℕ
placed t address = place_of t.config address

-- a pin is the one wired
abbrev pub is_pin : Wire → ℕ → Bool
is_pin w pin = w.present && eqb w.pin pin

-- an edge of the capture pin captures while the comparator is not routed here
unfoldable pub edge_captures : Timer → ℕ → ℕ → Bool
edge_captures t pin level = is_pin t.config.icr.wire pin && not t.halts.routed && captures t level

-- a chosen edge of the T pin ticks
unfoldable pub edge_ticks : Timer → ℕ → ℕ → Bool
edge_ticks t pin level = is_pin t.config.t pin && ticks_on t level

-- the comparator's output captures while it is routed here
unfoldable pub output_captures : Timer → ℕ → Bool
output_captures t level = t.halts.routed && captures t level

-- the timer's own bit of the power reduction register
abbrev pub reduces : Timer → ℕ → Bool
reduces t mask = not (eqb (bit_and mask t.config.prr) 0)

-- a level that changes TSM
abbrev pub changes : Timer → ℕ → Bool
changes t level = not (beq (eqb level 1) t.halts.tsm)

-- a mask that names the own prescaler's group
abbrev pub prescales : Timer → ℕ → Bool
prescales t mask = not (eqb (bit_and mask t.config.group) 0)

-- ---- the calls, one a line

-- what a call is tested for, and how it takes time
pub record Asks : Type 0 where
  -- its address is no register's
  pub absent : Bool
  -- its level is not 0 or 1, or its sleep mode over 7
  pub wrong : Bool
  -- it may not pass the next event
  pub tested : Bool
  -- the timer is halted asleep, and cannot take it
  pub halted : Bool
  -- the timer's time passes up to its cycle before its own work, where the Rust syncs
  pub syncs : Bool
  -- it is the advance
  pub advances : Bool

-- a call that is not the advance
abbrev pub asking : Bool → Bool → Bool → Bool → Bool → Asks
asking absent wrong tested halted syncs = record { absent = absent; wrong = wrong; tested = tested; halted = halted; syncs = syncs; advances = false }

-- for each call: address absent, level wrong, event tested, halted asleep; does time pass first
unfoldable pub asks : Timer → Call → Asks
asks t call.Advance = record { absent = false; wrong = false; tested = false; halted = false; syncs = false; advances = true }
asks t call.Next = asking false false true false false
asks t (call.Read address) = asking (leb 13 (placed t address)) false (not (is_high (placed t address))) false (not (is_high (placed t address)))
asks t (call.Peek address) = asking (leb 13 (placed t address)) false true false true
asks t (call.Write address value) =
    asking (leb 13 (placed t address)) false (not (is_high (placed t address))) false
    (not (is_high (placed t address) || eqb (placed t address) 12 && not (immediate t)))
asks t call.Tifr = asking false false true false false
asks t call.Timsk = asking false false true false false
asks t (call.WriteTifr ones) = asking false false true false false
asks t (call.WriteTimsk mask) = asking false false true false false
asks t (call.Edge pin level) = asking false (ltb 1 level) true false (edge_captures t pin level)
asks t (call.Output level) = asking false (ltb 1 level) true false (output_captures t level)
asks t (call.Route level) = asking false (ltb 1 level) true false false
asks t (call.Sleep mode) = asking false (ltb 7 mode) true (t.halts.asleep && halting t mode) (halting t mode)
asks t call.Wake = asking false false true false false
asks t (call.Reduce mask) = asking false false true false (not (beq (reduces t mask) t.halts.reduced))
asks t (call.Tsm level) = asking false (ltb 1 level) true (t.halts.asleep && changes t level) (changes t level)
asks t (call.Prescale mask) = asking false false true (t.halts.asleep && prescales t mask) (prescales t mask)
asks t call.Reset = asking false false false false false

-- the call's own work on the timer, whose time has passed
unfoldable pub works : Timer → Call → ℕ → Noted
works t call.Advance cycle = silent t
works t call.Next cycle = silent t
works t (call.Read address) cycle = silent (read_timer t (placed t address))
works t (call.Peek address) cycle = silent t
works t (call.Write address value) cycle = written t (placed t address) (value % 256)
works t call.Tifr cycle = silent t
works t call.Timsk cycle = silent t
works t (call.WriteTifr ones) cycle = silent (flags_to t (bit_and t.flags.tifr (255 - ones)) t.flags.timsk)
works t (call.WriteTimsk mask) cycle = silent (flags_to t t.flags.tifr mask)
works t (call.Edge pin level) cycle = cond (edge_captures t pin level) (captured t) (cond (edge_ticks t pin level) (struck (sync_to t cycle)) (silent t))
works t (call.Output level) cycle = cond (output_captures t level) (captured t) (silent t)
works t (call.Route level) cycle = silent (cond t.config.icr.present (routed_to t (eqb level 1)) t)
works t (call.Sleep mode) cycle = silent (cond (halting t mode) (asleep_at t cycle) t)
works t call.Wake cycle = silent (cond t.halts.asleep (awake_at t cycle) t)
works t (call.Reduce mask) cycle = silent (reduced_to t (reduces t mask))
works t (call.Tsm level) cycle = silent (cond (changes t level) (tsm_to t (eqb level 1) cycle) t)
works t (call.Prescale mask) cycle = silent (cond (prescales t mask) (prescaled_at t cycle) t)
works t call.Reset cycle = reset_at t cycle

-- the values that a call answers, of the timer whose time has passed
unfoldable pub says : Timer → Call → Values
says t call.Advance = none
says t call.Next = event (next_of t)
says t (call.Read address) = byte (read_value t (placed t address))
says t (call.Peek address) = byte (peeked t (placed t address))
says t (call.Write address value) = none
says t call.Tifr = byte t.flags.tifr
says t call.Timsk = byte t.flags.timsk
says t (call.WriteTifr ones) = none
says t (call.WriteTimsk mask) = none
says t (call.Edge pin level) = none
says t (call.Output level) = none
says t (call.Route level) = none
says t (call.Sleep mode) = none
says t call.Wake = none
says t (call.Reduce mask) = none
says t (call.Tsm level) = none
says t (call.Prescale mask) = none
says t call.Reset = none

-- ---- answers

-- the timer whose time has passed where the call lets it, and the bytes of that time's records
unfoldable pub before : Passage → Timer → Bool → ℕ → Passed
before p t syncs cycle = cond syncs (synced p t cycle) (record { timer = t; bytes = []; paused = false })

-- a call's own work after that, with the latest cycle; 8 where the records exceed the area
unfoldable pub worked : Passed → Timer → Call → ℕ → List ℕ → Told
worked x was c cycle area =
    fitted was (latest_to (works x.timer c cycle).timer cycle) (says x.timer c) (x.bytes ++ records_of cycle (works x.timer c cycle).log) area

-- an advance stops before the first tick whose records do not fit, and then answers its sync cycle; done or paused it answers the flags of the then next event (02, 2.2)
unfoldable pub moved : Passed → List ℕ → Told
moved x area = given x.timer (cond x.paused (paused x.timer.clock.sync.0 (next_flags x.timer)) (reached (next_flags x.timer))) x.bytes area

-- the advance, or any other call
unfoldable pub performed : Passage → Timer → Call → ℕ → List ℕ → Told
performed p t c cycle area =
    cond (asks t c).advances (moved (advanced p t cycle (length area)) area) (worked (before p t (asks t c).syncs cycle) t c cycle area)

-- the number of the call's refusal, 0 for none
unfoldable pub refusal_of : Timer → Call → ℕ → ℕ
refusal_of t c cycle = refusal t cycle (asks t c).absent (asks t c).wrong (asks t c).tested (asks t c).halted

-- a call answered: turned away with its number, or performed
unfoldable pub answered : Passage → Timer → Call → ℕ → List ℕ → Told
answered p t c cycle area =
    cond (eqb (refusal_of t c cycle) 0) (performed p t c cycle area) (turned (refusal_of t c cycle) t area)
