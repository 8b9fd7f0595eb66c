-- The log of a call that works no tick: a write, a capture, a reset.
use Prim.Native.Nat.{ℕ, ◌≤◌}
use native.Mathlib.Omega.{arith}
use mathlib.Core.Path.{◌≡◌, ◌∙◌}
use mathlib.Core.Bool.{Bool, cond}
use mathlib.Core.List.{List, []}
use lib.Bits.{bit_or}
use lib.ListN.{length}
use Rattle.records.specs.declared.Log.{Log}
use Rattle.records.specs.Records.{records_of}
use Rattle.tick.specs.declared.happenings.Events.{Events}
use Rattle.tick.specs.declared.outputs.Outputs.{Outputs}
use Rattle.tick.specs.declared.setting.Setting.{Setting}
use Rattle.tick.specs.Outputs.{outs_of, Wrote, reapplied, strobed}
use Rattle.tick.specs.Tick.{raised, flag_entry, flag_log}
use Rattle.tick.proofs.Writes.{Put, put-logs}
use Rattle.tick.proofs.Ticks.{Flagged}
use Rattle.counter.specs.declared.state.Timer.{Timer}
use Rattle.counter.specs.Setting.{setting_of, moving_of}
use Rattle.counter.specs.Logs.{Logs, silent}
use Rattle.counter.specs.Parts.{outs_to, flags_to}
use Rattle.counter.specs.Registers.{icr_to, forced_by, driven_by, driven}
use Rattle.counter.specs.Capture.{capture, captured}

-- no record
pub logs-none : {t r : Timer} {log : Log} (cycle : ℕ) → r ≡ t → log.len ≡ 0 → Logs (silent t) cycle (record { timer = r; log = log })
unfolding records_of
logs-none cycle e h = record { timer = e; bytes = rw h; size = rw h; len = omega arith }

-- the drives reapplied where asked, then a force strobe
pub logs-driven : (t : Timer) (again : Bool) (forces cycle : ℕ) {s : Setting} {e : Events} {before after : List ℕ} {r : Outputs}
    → s ≡ setting_of t
    → e ≡ forced_by t.config forces
    → length before ≡ 110
    → (Wrote (strobed s e (cond again (reapplied s (outs_of (moving_of t))) (outs_of (moving_of t)))) cycle 0 before r after) × (r.to ≤ 60)
    → Logs (driven t again forces) cycle (record { timer = outs_to t (record { oc = r.oc; drives = r.drives; log = [] }); log = record { bytes = after; len = r.to } })
unfolding driven driven_by
logs-driven t again forces cycle {s} {e} {before} {after} {r} es ee n w =
    let l : r.to ≤ 110 = omega (arith, w.1) in
    let p : Put (strobed s e (cond again (reapplied s (outs_of (moving_of t))) (outs_of (moving_of t)))).log cycle 0 before r.to after
    = record { next = w.0.to; area = w.0.area } in
    let k = put-logs n p l in
    record {
      timer = rw (w.0.oc, w.0.drives, es, ee);
      bytes = k.0 ∙ rw (es, ee);
      size = k.1;
      len = l;
    }

-- a capture
pub logs-captured : (t : Timer) (cycle : ℕ) (before : List ℕ) {s : Setting} {e : Events} {up to : ℕ} {after : List ℕ} {i : Timer}
    → s ≡ setting_of t
    → e ≡ capture
    → up ≡ raised s e
    → i ≡ icr_to t t.counter.count
    → length before ≡ 110
    → Flagged (flag_entry s up (bit_or t.flags.tifr up)) s.id e cycle 0 before to after
    → Logs (captured t) cycle (record { timer = flags_to i (bit_or t.flags.tifr up) t.flags.timsk; log = record { bytes = after; len = to } })
unfolding captured
logs-captured t cycle before {s} {e} {up} {to} {after} es ee eu ei n f =
    let l : to ≤ 110 = omega (arith, f.2) in
    let p : Put (flag_log s e up (bit_or t.flags.tifr up)) cycle 0 before to after = record { next = f.0; area = f.1 } in
    let k = put-logs n p l in
    record {
      timer = rw (ei, eu, ee, es);
      bytes = k.0 ∙ rw (eu, ee, es);
      size = k.1;
      len = l;
    }
