-- A tick has at most eleven records: six of pins, one of flags, four triggers.
use Prim.Native.Nat.{ℕ, ◌+◌, ◌≤◌}
use native.Mathlib.Omega.{arith}
use mathlib.Core.Bool.{Bool, true, false, ◌&&◌}
use lib.ListN.{length, get_or, length-append}
use lib.Dec.{eqb, leb}
use lib.Bits.{bit_or}
use Rattle.records.specs.declared.Entry.{Entry}
use Rattle.records.specs.Records.{only, records_of}
use Rattle.records.proofs.Records.{records-length}
use Rattle.config.specs.declared.Wire.{Wire}
use Rattle.tick.specs.declared.happenings.Events.{Events}
use Rattle.tick.specs.declared.setting.Channel.{Channel}
use Rattle.tick.specs.declared.setting.Moving.{Moving}
use Rattle.tick.specs.declared.setting.Setting.{Setting}
use Rattle.tick.specs.Outputs.{Outs, recorded, on_pin, acted, matched, bottomed, matches_of, bottoms_of, matches, bottoms, outputs, outs_of}
use Rattle.tick.specs.Tick.{raised, raises, flag_entry, trigger_entry, flag_log_of, flag_log, tick_by, tick, events_of}
use Rattle.tick.proofs.Choices.{cond-all}

-- ---- each channel's match, and its output at BOTTOM, makes at most one record
recorded-one : (pin ch enable value : ℕ) (o : Outs) → length (recorded pin ch enable value o).log ≤ length o.log + 1
unfolding recorded
recorded-one pin ch enable value o =
    cond-all (λ (p : Outs). length p.log ≤ length o.log + 1) (eqb (get_or o.drives.enables ch 0) enable && eqb (get_or o.drives.values ch 0) value)
    (omega arith) (simp length-append (omega arith))

on-pin-one : (w : Wire) (ch enable : ℕ) (o : Outs) → length (on_pin w ch enable o).log ≤ length o.log + 1
unfolding on_pin
on-pin-one w ch enable o = cond-all (λ (p : Outs). length p.log ≤ length o.log + 1) w.present (recorded-one w.pin ch enable (get_or o.oc ch 0) o) (omega arith)

module _ (c : Channel) (ch : ℕ) (o : Outs) where
  acted-one : (level : ℕ) → length (acted c ch level o).log ≤ length o.log + 1
  unfolding acted
  acted-one level = on-pin-one c.wire ch _ _

  matched-one : (kind : ℕ) (hit rises : Bool) → length (matched kind c ch hit rises o).log ≤ length o.log + 1
  unfolding matched
  matched-one kind hit rises = cond-all (λ (p : Outs). length p.log ≤ length o.log + 1) (hit && c.enabled) (acted-one _) (omega arith)

  bottomed-one : length (bottomed c ch o).log ≤ length o.log + 1
  unfolding bottomed
  bottomed-one = cond-all (λ (p : Outs). length p.log ≤ length o.log + 1) (leb 2 c.comx) (acted-one _) (omega arith)

more : (c m n : ℕ) {a b : ℕ} → a ≤ b + m → b ≤ c + n → a ≤ c + (n + m)
more c m n h k = omega arith

matches-three : (s : Setting) (e : Events) (o : Outs) → length (matches s e o).log ≤ length o.log + 3
unfolding matches_of
matches-three s e o = more _ 1 2 (matched-one s.c 2 _ _ _ _) (more _ 1 1 (matched-one s.b 1 _ _ _ _) (matched-one s.a 0 o _ _ _))

bottoms-three : (s : Setting) (o : Outs) → length (bottoms s o).log ≤ length o.log + 3
unfolding bottoms_of
bottoms-three s o = more _ 1 2 (bottomed-one s.c 2 _) (more _ 1 1 (bottomed-one s.b 1 _) (bottomed-one s.a 0 o))

outputs-six : (s : Setting) (e : Events) (o : Outs) → length (outputs s e o).log ≤ length o.log + 6
unfolding outputs
outputs-six s e o =
    let m = matches-three s e o in
    cond-all (λ (p : Outs). length p.log ≤ length o.log + 6) e.bottom (more _ 3 3 (bottoms-three s _) m) (omega arith)

only_one : (wanted : Bool) (e : Entry) → length (only wanted e) ≤ 1
only_one true e = omega arith
only_one false e = omega arith

flags-five : (s : Setting) (e : Events) (up tifr : ℕ) → length (flag_log s e up tifr) ≤ 5
unfolding flag_log_of
flags-five s e up tifr =
    let f = only_one (raises e) (flag_entry s up tifr) in
    let a = only_one e.a (trigger_entry 1 s.id) in
    let b = only_one e.b (trigger_entry 2 s.id) in
    let o = only_one e.overflow (trigger_entry 3 s.id) in
    let c = only_one e.capture (trigger_entry 4 s.id) in
    simp length-append (omega arith)

pub tick-eleven : (s : Setting) (m : Moving) → length (tick s m).log ≤ 11
unfolding tick_by
tick-eleven s m =
    let o = outputs-six s (events_of s m) (outs_of m) in
    let f = flags-five s (events_of s m) (raised s (events_of s m)) (bit_or m.tifr (raised s (events_of s m))) in
    simp length-append (omega arith)

pub tick-bytes : (s : Setting) (m : Moving) (cycle : ℕ) → length (records_of cycle (tick s m).log) ≤ 110
tick-bytes s m cycle = let n = tick-eleven s m in rw records-length (omega arith)
