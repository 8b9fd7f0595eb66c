-- The claims of specs/Places.antt.
use Prim.Native.Nat.{ℕ}
use native.Mathlib.Omega.{arith}
use mathlib.Core.Bool.{Bool, true, false, cond}
use mathlib.Core.Path.{◌≡◌, refl}
use lib.Dec.{eqb}
use Rattle.config.specs.Config.{accepted, choice_rule, width_rule, layout_rule, compare_rule, address_rule, controls, owned, flag_rule, flagged, one_bit, flags_of, pin_rule, pins_of}
use Rattle.few.specs.Few.{also, has, distinct, within}
use Rattle.m328p.specs.declared.Id.{Id}
use Rattle.m328p.specs.declared.Id.TheVariants as id
use Rattle.m328p.specs.declared.Place.{Place}
use Rattle.m328p.specs.declared.Place.TheVariants as place
use Rattle.m328p.specs.Timers.{timer0, timer1, timer2}
use Rattle.m328p.specs.Places.{is_of, register_at, place_at, Accepted, Own}

pub all-accepted : Accepted
unfolding accepted choice_rule width_rule layout_rule compare_rule address_rule controls owned flag_rule flagged one_bit flags_of pin_rule pins_of also has distinct within
all-accepted id.Zero = refl
all-accepted id.One = refl
all-accepted id.Two = refl

-- a place told by a test is that place, or the test was not met
told : (b : Bool) (x y : Place) (i : Id) → (x ≡ place.Register i → ⊥) → cond b x y ≡ place.Register i → y ≡ place.Register i
told true x y i h e = absurd (h e)
told false x y i h e = e

-- which of three tests chose a timer
chosen : (a b c : Bool) → Id → Bool
chosen a b c id.Zero = a
chosen a b c id.One = b
chosen a b c id.Two = c

owner : (a b c : Bool) (i : Id) → cond a (place.Register id.Zero) (cond b (place.Register id.One) (cond c (place.Register id.Two) place.Nowhere)) ≡ place.Register i
    → chosen a b c i ≡ true
unfolding chosen
owner true b c id.Zero e = refl
owner true b c id.One e = cc
owner true b c id.Two e = cc
owner false true c id.Zero e = cc
owner false true c id.One e = refl
owner false true c id.Two e = cc
owner false false true id.Zero e = cc
owner false false true id.One e = cc
owner false false true id.Two e = refl
owner false false false id.Zero e = cc
owner false false false id.One e = cc
owner false false false id.Two e = cc

no-tifr : (j i : Id) → place.Tifr j ≡ place.Register i → ⊥
no-tifr j i e = let z : ◌≡◌ {A = ℕ} 0 1 = cc in omega arith

no-timsk : (j i : Id) → place.Timsk j ≡ place.Register i → ⊥
no-timsk j i e = let z : ◌≡◌ {A = ℕ} 0 1 = cc in omega arith

no-gtccr : (i : Id) → place.Gtccr ≡ place.Register i → ⊥
no-gtccr i e = let z : ◌≡◌ {A = ℕ} 0 1 = cc in omega arith

registered : (address : ℕ) (i : Id) → place_at address ≡ place.Register i → register_at address ≡ place.Register i
unfolding place_at
registered address i e =
    told (eqb address 0x70) _ _ i (no-timsk id.Two i)
    (told (eqb address 0x6F) _ _ i (no-timsk id.One i)
    (told (eqb address 0x6E) _ _ i (no-timsk id.Zero i)
    (told (eqb address 0x43) _ _ i (no-gtccr i)
    (told (eqb address 0x37) _ _ i (no-tifr id.Two i)
    (told (eqb address 0x36) _ _ i (no-tifr id.One i)
    (told (eqb address 0x35) _ _ i (no-tifr id.Zero i) e))))))

pub own : Own
unfolding register_at chosen
own address id.Zero e = owner (is_of timer0 address) (is_of timer1 address) (is_of timer2 address) id.Zero (registered address id.Zero e)
own address id.One e = owner (is_of timer0 address) (is_of timer1 address) (is_of timer2 address) id.One (registered address id.One e)
own address id.Two e = owner (is_of timer0 address) (is_of timer1 address) (is_of timer2 address) id.Two (registered address id.Two e)
