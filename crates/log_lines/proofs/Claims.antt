-- How long the answer of a log's line may be.
use Rattle.std.proofs.Common.{ℕ, ◌*◌, List, drop, length-append, length-take, arith, Result, Ok, Err}
use Rattle.words.specs.declared.Unreadable.{Unreadable}
use Rattle.page.proofs.Lengths.{Upto, numbered, unreadable-short}
use Rattle.records.specs.Records.{record_at}
use Rattle.display.proofs.Lengths.{bytes-short}
use Rattle.record_ring.specs.Log.{added, released}
use Rattle.record_ring.specs.declared.Refusal.{Refusal}
use Rattle.record_ring.specs.declared.Ring.{Ring}
use Rattle.log_lines.specs.declared.asked.Asked.{Asked}
use Rattle.log_lines.specs.declared.asked.Asked.TheVariants as asked
use Rattle.log_lines.specs.Asked.{asked_of}
use Rattle.log_lines.specs.Logged.{held_of, placed_of, shown_of, heard_of}
use Rattle.log_lines.specs.Claims.{Short}

held-short : (called : Result Ring Refusal) → Upto 28 (held_of called)
unfolding held_of
held-short (Ok after) = numbered _ _ after.held (omega arith)
held-short (Err refusal) = numbered _ _ _ (omega arith)

placed-short : (ring : Ring) (called : Result Ring Refusal) → Upto 27 (placed_of ring called)
unfolding placed_of
placed-short ring (Ok after) = numbered _ _ ring.next (omega arith)
placed-short ring (Err refusal) = omega arith

shown-short : (area : List ℕ) (place : ℕ) → Upto 55 (shown_of area place)
unfolding record_at
shown-short area place = omega (arith, bytes-short "ok record=" (record_at area place) 10, length-take 10 (drop (10 * place) area))

heard-short : (ring : Ring) (nth : ℕ) (area : List ℕ) (q : Result Asked Unreadable) → Upto 55 (heard_of ring nth area q).bytes
unfolding heard_of
heard-short ring nth area (Err why) = omega (arith, unreadable-short nth why)
heard-short ring nth area (Ok (asked.Add bytes)) =
    let x = added ring area bytes in
    let h = held-short x.0 in
    let k = placed-short ring x.0 in
    simp length-append (omega arith)
heard-short ring nth area (Ok (asked.Release count)) = omega (arith, held-short (released ring area count).0)
heard-short ring nth area (Ok (asked.Read place)) = shown-short area place

pub short : Short
short ring nth line at area = heard-short ring nth area (asked_of line at)
