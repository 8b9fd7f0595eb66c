-- What an order to the board aims at (02, 2.6).
use Rattle.std.specs.Prelude.{ℕ, ◌/◌, cond, eqb, ltb}
use Rattle.std.specs.Int.Bits.{bit_and}
use Rattle.m328p.specs.declared.Place.{Place}
use Rattle.m328p.specs.declared.Place.TheVariants as place
use Rattle.m328p.specs.Places.{place_at}
use Rattle.timer.specs.declared.calls.Call.{Call}
use Rattle.timer.specs.declared.calls.Call.TheVariants as call
use Rattle.aims.specs.declared.Order.{Order}
use Rattle.aims.specs.declared.Order.TheVariants as order
use Rattle.aims.specs.declared.Cast.{Cast}
use Rattle.aims.specs.declared.Cast.TheVariants as cast
use Rattle.aims.specs.declared.Aim.{Aim}
use Rattle.aims.specs.declared.Aim.TheVariants as aim

-- ---- GTCCR (the sheet's chapter 17, GTCCR – General Timer/Counter Control Register)

-- bit 7: TSM
abbrev pub tsm_in : ℕ → ℕ
tsm_in value = value / 0x80

-- with TSM written 1 the reset bits are kept; with TSM 0 all bits read 0
unfoldable pub stored_of : ℕ → ℕ
stored_of value = cond (ltb value 0x80) 0 (bit_and value 0x83)

-- TSM for all three, left alone where the bit stays; then bit 1 resets Timer2's prescaler, bit 0 the one that Timer0 and Timer1 share
unfoldable pub cast_of : ℕ → ℕ → Cast
cast_of gtccr value =
    cond (eqb (tsm_in value) (tsm_in gtccr)) (cast.Prescale (bit_and value 3)) (cast.Synchronise (tsm_in value) (bit_and value 3))

-- ---- by address

-- GTCCR's own aim, or a timer's call on TIFRn, TIMSKn or the register that stands there
abbrev pub aim_at : Place → Aim → Call → Call → Call → Aim
aim_at place.Gtccr gtccr flags masks register = gtccr
aim_at (place.Tifr i) gtccr flags masks register = aim.Own i flags
aim_at (place.Timsk i) gtccr flags masks register = aim.Own i masks
aim_at (place.Register i) gtccr flags masks register = aim.Own i register
aim_at place.Nowhere gtccr flags masks register = aim.Nowhere

-- a read or a peek: of GTCCR it reaches no timer
abbrev pub looked_at : Place → Call → Aim
looked_at x c = aim_at x aim.Shown call.Tifr call.Timsk c

-- a write: of GTCCR it reaches all three
abbrev pub written_at : Place → ℕ → ℕ → ℕ → Aim
written_at x address value gtccr = aim_at x (aim.All (cast_of gtccr value) (stored_of value)) (call.WriteTifr value) (call.WriteTimsk value) (call.Write address value)

-- ---- the orders, one a line

-- by id, by address, or all three: sleep, wake and the sheet's PRR byte; TIFR and TIMSK by address and by id (02: "by their sheet addresses too")
unfoldable pub aim_of : Order → ℕ → Aim
aim_of (order.Advance i) gtccr = aim.Own i call.Advance
aim_of (order.Next i) gtccr = aim.Own i call.Next
aim_of (order.Reset i) gtccr = aim.Own i call.Reset
aim_of (order.Edge i pin level) gtccr = aim.Own i (call.Edge pin level)
aim_of (order.Route i level) gtccr = aim.Own i (call.Route level)
aim_of (order.Output i level) gtccr = aim.Own i (call.Output level)
aim_of (order.Read address) gtccr = looked_at (place_at address) (call.Read address)
aim_of (order.Peek address) gtccr = looked_at (place_at address) (call.Peek address)
aim_of (order.Write address value) gtccr = written_at (place_at address) address value gtccr
aim_of (order.Sleep mode) gtccr = aim.All (cast.Sleep mode) gtccr
aim_of order.Wake gtccr = aim.All cast.Wake gtccr
aim_of (order.Reduce value) gtccr = aim.All (cast.Reduce value) gtccr
aim_of (order.Tifr i) gtccr = aim.Own i call.Tifr
aim_of (order.Timsk i) gtccr = aim.Own i call.Timsk
aim_of (order.WriteTifr i ones) gtccr = aim.Own i (call.WriteTifr ones)
aim_of (order.WriteTimsk i mask) gtccr = aim.Own i (call.WriteTimsk mask)
