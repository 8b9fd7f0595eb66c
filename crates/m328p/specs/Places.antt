-- What stands at a data address of the ATmega328P (the sheet's Register Summary; 02, 2.6).
use Rattle.std.specs.Prelude.{ℕ, Bool, true, cond, ◌≡◌, eqb, ltb}
use Rattle.config.specs.declared.Config.{Config}
use Rattle.config.specs.Config.{place_of, accepted}
use Rattle.m328p.specs.declared.Id.{Id}
use Rattle.m328p.specs.declared.Id.TheVariants as id
use Rattle.m328p.specs.declared.Place.{Place}
use Rattle.m328p.specs.declared.Place.TheVariants as place
use Rattle.m328p.specs.Timers.{timer0, timer1, timer2, config_of}

-- an address that is one of a timer's registers (01, number 4)
unfoldable pub is_of : Config → ℕ → Bool
is_of c address = ltb (place_of c address) 13

-- the timer whose register it is
unfoldable pub register_at : ℕ → Place
register_at address =
    cond (is_of timer0 address) (place.Register id.Zero)
    (cond (is_of timer1 address) (place.Register id.One)
    (cond (is_of timer2 address) (place.Register id.Two) place.Nowhere))

-- TIFR0 to TIFR2 at 35 to 37, GTCCR at 43, TIMSK0 to TIMSK2 at 6E to 70
unfoldable pub place_at : ℕ → Place
place_at address =
    cond (eqb address 0x35) (place.Tifr id.Zero)
    (cond (eqb address 0x36) (place.Tifr id.One)
    (cond (eqb address 0x37) (place.Tifr id.Two)
    (cond (eqb address 0x43) place.Gtccr
    (cond (eqb address 0x6E) (place.Timsk id.Zero)
    (cond (eqb address 0x6F) (place.Timsk id.One)
    (cond (eqb address 0x70) (place.Timsk id.Two) (register_at address)))))))

-- Accepted: each of the three keeps the configuration rules (01)
abbrev pub Accepted : Type 0
Accepted = (i : Id) → accepted (config_of i) ≡ true

-- Own: where a timer's register stands, the timer has it, so that no call by address is turned away with 4
abbrev pub Own : Type 0
Own = (address : ℕ) (i : Id) → place_at address ≡ place.Register i → is_of (config_of i) address ≡ true
