-- The configuration rules (01, "Calls turned away").
-- The sheet: "Register Description": which registers, flags and pins a timer has.
use Rattle.std.specs.Prelude.{ℕ, ◌+◌, Bool, true, false, cond, not, ◌&&◌, ◌||◌, ◌≡◌, refl, List, [], eqb, leb}
use Rattle.config.specs.declared.Capture.{Capture}
use Rattle.config.specs.declared.Compare.{Compare}
use Rattle.config.specs.declared.Config.{Config}
use Rattle.config.specs.declared.Wire.{Wire}
use Rattle.few.specs.Few.{also, register, has, distinct, within}

-- layout 0: two control registers, TCCRnA and TCCRnB; layout 1 is the single one
abbrev pub split : ℕ → Bool
split layout = eqb layout 0

-- layout 2: single without WGM
abbrev pub bare : ℕ → Bool
bare layout = eqb layout 2

-- one of the three layouts, and one of the two clock tables: 0 is `CS_SYNC`, 1 `CS_TIMER2`
unfoldable pub choice_rule : Config → Bool
choice_rule c = leb c.layout 2 && leb c.clocks 1

-- ICR and channel C only when wide
unfoldable pub width_rule : Config → Bool
width_rule c = c.wide || not c.c.present && not c.icr.present

-- split has two control addresses; the single layout is narrow, with one control and force address
unfoldable pub layout_rule : Config → Bool
layout_rule c = cond (split c.layout) (not (eqb c.tccra c.tccrb)) (not c.wide && eqb c.tccra c.tccrb && eqb c.tccra c.foc)

-- OCRA present except single without WGM, which has no compare
unfoldable pub compare_rule : Config → Bool
compare_rule c = cond (bare c.layout) (not c.a.present && not c.b.present && not c.c.present) c.a.present

-- the control addresses, and a force address that is none of them
unfoldable pub controls : Config → List ℕ
controls c =
    also (not (eqb c.foc c.tccra) && not (eqb c.foc c.tccrb)) c.foc
    (also (split c.layout) c.tccrb
    (also true c.tccra []))

-- the addresses owned: those, TCNTn, the compares and ICRn
unfoldable pub owned : Config → List ℕ
owned c =
    register c.icr.present c.wide c.icr.address
    (register c.c.present c.wide c.c.address
    (register c.b.present c.wide c.b.address
    (register c.a.present c.wide c.a.address
    (register true c.wide c.tcnt (controls c)))))

-- owned addresses distinct (force may equal a control) and at most 511
unfoldable pub address_rule : Config → Bool
address_rule c = distinct (owned c) && within 511 (owned c)

-- a mask of a single bit
unfoldable pub one_bit : ℕ → Bool
one_bit m = eqb m 1 || eqb m 2 || eqb m 4 || eqb m 8 || eqb m 16 || eqb m 32 || eqb m 64 || eqb m 128

-- one bit exactly with its unit
unfoldable pub flagged : Bool → ℕ → Bool
flagged present flag = cond present (one_bit flag) (eqb flag 0)

-- the flags of the units that the timer has
unfoldable pub flags_of : Config → List ℕ
flags_of c =
    also c.icr.present c.icr.flag
    (also c.c.present c.c.flag
    (also c.b.present c.b.flag
    (also c.a.present c.a.flag
    (also true c.tov []))))

-- TOV one bit, other flags one bit exactly with their unit (ICF with ICR), all distinct
unfoldable pub flag_rule : Config → Bool
flag_rule c =
    one_bit c.tov && flagged c.a.present c.a.flag && flagged c.b.present c.b.flag && flagged c.c.present c.c.flag
    && flagged c.icr.present c.icr.flag && distinct (flags_of c)

-- a pin more, where there is one
abbrev pub pinned : Wire → List ℕ → List ℕ
pinned w l = also w.present w.pin l

-- the pins that the timer has
unfoldable pub pins_of : Config → List ℕ
pins_of c = pinned c.t (pinned c.icr.wire (pinned c.c.wire (pinned c.b.wire (pinned c.a.wire []))))

-- pins at most 247, distinct, a compare pin only with its compare, a capture pin only with ICR
unfoldable pub pin_rule : Config → Bool
pin_rule c =
    (c.a.present || not c.a.wire.present) && (c.b.present || not c.b.wire.present) && (c.c.present || not c.c.wire.present)
    && (c.icr.present || not c.icr.wire.present) && distinct (pins_of c) && within 247 (pins_of c)

-- every rule is kept
unfoldable pub accepted : Config → Bool
accepted c = choice_rule c && width_rule c && layout_rule c && compare_rule c && address_rule c && flag_rule c && pin_rule c

-- no pin
abbrev pub no_wire : Wire
no_wire = record { present = false; pin = 0 }

-- an absent compare unit
abbrev pub no_compare : Compare
no_compare = record { present = false; address = 0; flag = 0; force = 0; wire = no_wire }

-- an absent capture unit
abbrev pub no_capture : Capture
no_capture = record { present = false; address = 0; flag = 0; wire = no_wire }

-- the least that is accepted: one control address, TCNTn and TOVn
abbrev pub least : Config
least = record { id = 0; wide = false; layout = 2; tccra = 0; tccrb = 0; foc = 0; tcnt = 1; a = no_compare; b = no_compare; c = no_compare; icr = no_capture; tov = 1; t = no_wire; clocks = 0; group = 0; prr = 0; sleeprun = 0 }

pub least-accepted : accepted least ≡ true
unfolding accepted choice_rule width_rule layout_rule compare_rule address_rule controls owned flag_rule flagged one_bit flags_of pin_rule pins_of also has distinct within
least-accepted = refl

-- the place of a register of two bytes, low or high, if the address is one of them, else another place
unfoldable pub pair_at : Config → Bool → ℕ → ℕ → ℕ → ℕ → ℕ
pair_at c present low address place other = cond (present && eqb address low) place (cond (present && c.wide && eqb address (low + 1)) (place + 1) other)

-- the place of a control or force register; 13 where there is none
unfoldable pub control_at : Config → ℕ → ℕ
control_at c address = cond (eqb address c.tccra) 10 (cond (eqb address c.tccrb) 11 (cond (eqb address c.foc) 12 13))

-- the register at an address: TCNTn 0 and 1 (low and high byte), OCRnA 2 and 3, OCRnB 4 and 5, OCRnC 6 and 7, ICRn 8 and 9, TCCRnA or TCCRn 10, TCCRnB 11, a force register of its own 12; 13 where there is none (01, number 4)
unfoldable pub place_of : Config → ℕ → ℕ
place_of c address =
    pair_at c true c.tcnt address 0
    (pair_at c c.a.present c.a.address address 2
    (pair_at c c.b.present c.b.address address 4
    (pair_at c c.c.present c.c.address address 6
    (pair_at c c.icr.present c.icr.address address 8 (control_at c address)))))
