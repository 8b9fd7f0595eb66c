-- Were the records written: over plain values.
use Prim.Native.Nat.{ℕ, ◌+◌, ◌≤◌}
use native.Mathlib.Omega.{arith}
use native.Mathlib.Nat.{zero-add}
use mathlib.Core.Path.{◌≡◌, sym, ◌∙◌}
use mathlib.Core.Bool.{Bool, true, false, cond}
use mathlib.Core.List.{List}
use lib.Dec.{leb}
use lib.ListN.{length, take}
use lib.Seq.{sets, sets-eq, length-take-le}
use borrow.Author.Tests.{leb-true}
use Rattle.counter.specs.declared.advance.Logged.{Logged}
use Rattle.counter.specs.declared.state.Timer.{Timer}
use Rattle.counter.specs.Halts.{latest_to}
use Rattle.answers.specs.declared.Answer.TheVariants as answer
use Rattle.answers.specs.declared.Outcome.{Outcome}
use Rattle.answers.specs.Answers.{Filed}

-- ---- a log written
module _ (was : Timer) (l : Logged) (cycle : ℕ) (area : List ℕ) {wrote : Bool} {after : List ℕ} (long : length l.log.bytes ≡ 110) (most : l.log.len ≤ 110)
    (w : (wrote ≡ leb (0 + l.log.len) (length area)) × (after ≡ cond wrote (sets area 0 (take l.log.len l.log.bytes)) area)) where
  fit : leb l.log.len (length area) ≡ wrote
  fit = rw (zero-add l.log.len) at (sym w.0)

  pub wrote-all : {u : Timer} → wrote ≡ true → u ≡ latest_to l.timer cycle → Filed was l cycle area (record { answer = answer.Done; timer = u; written = l.log.len }) after
  wrote-all d e =
      let n : length (take l.log.len l.log.bytes) ≡ l.log.len = length-take-le _ _ (omega arith) in
      let f : l.log.len ≤ length area = leb-true _ _ (fit ∙ d) in
      let s = sets-eq (take l.log.len l.log.bytes) area 0 (omega arith) in
      record { outcome = rw (fit, d, e); area = rw (fit, d) (rw d at w.1 ∙ s ∙ rw (n, zero-add l.log.len)) }

  pub wrote_none : {r : Outcome} → wrote ≡ false → r ≡ record { answer = answer.Refused 8; timer = was; written = 0 } → Filed was l cycle area r after
  wrote_none d e = record { outcome = rw (fit, d, e); area = rw (fit, d) (rw d at w.1) }
