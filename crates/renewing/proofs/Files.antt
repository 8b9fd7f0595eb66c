-- An edge or the comparator's output that is left to others: the call that it is, its work, and its log written where it fits.
use Prim.Native.Nat.{ℕ, ◌+◌, ◌≤◌}
use native.Mathlib.Omega.{arith}
use native.Mathlib.Nat.{zero-add}
use mathlib.Core.Bool.{Bool, true, false, cond}
use mathlib.Core.List.{List}
use mathlib.Core.Path.{◌≡◌, refl, sym, subst, ◌∙◌}
use lib.Dec.{leb}
use lib.ListN.{length, take}
use lib.Seq.{sets, sets-eq}
use borrow.Author.Tests.{leb-true}
use Rattle.passage.specs.Passage.{ticks}
use Rattle.counter.specs.declared.advance.Logged.{Logged}
use Rattle.counter.specs.declared.state.Timer.{Timer}
use Rattle.counter.specs.Halts.{latest_to}
use Rattle.counter.specs.Logs.{Noted, Logs}
use Rattle.answers.specs.declared.Answer.TheVariants as answer
use Rattle.answers.specs.declared.Outcome.{Outcome}
use Rattle.answers.specs.Answers.{none, Tells, Filed}
use Rattle.timer.specs.declared.calls.Call.{Call}
use Rattle.timer.specs.Calls.{answered, asks, works, says, refusal_of}
use Rattle.timer.proofs.Outcomes.{Ready, filed}
use Rattle.held.specs.declared.reply.Reply.{Reply}
use Rattle.held.specs.declared.state.Held.{Held}
use Rattle.held.specs.Held.{Kept}
use Rattle.held.specs.Reply.{replied, Serves}
use Rattle.held.proofs.Answers.{told-serves}
use Rattle.serving.specs.declared.asked.Asked.{Asked}
use Rattle.serving.specs.declared.asked.Wanted.TheVariants as wanted
use Rattle.serving.specs.Asked.{call_of, answered_to}
use Rattle.serving.specs.Asks.{asks_in}
use Rattle.serving.specs.Looking.{refused_by, passed_of}
use Rattle.serving.proofs.Laws.{refused-is, passed-ready}
use Rattle.serving.proofs.Replied.{known-serves}

-- the call, accepted, and what it makes of the timer whose time has passed where it lets it
pub record Making (h : Held) (q : Asked) (b : Bool) (made : Timer → Noted) : Type 0 where
  pub call : Call
  pub named : call_of q ≡ wanted.Known call
  pub accepted : refused_by (asks_in (asks h.timer call)) h.timer.clock.latest.0 h.next q.cycle ≡ 0
  pub advances : (asks h.timer call).advances ≡ false
  pub syncs : (asks h.timer call).syncs ≡ b
  pub does : works (passed_of h b q.cycle) call q.cycle ≡ made (passed_of h b q.cycle)
  pub yields : says (passed_of h b q.cycle) call ≡ none

module _ {h : Held} {q : Asked} {b : Bool} {made : Timer → Noted} (k : Kept h) (m : Making h q b made) where
  abbrev t : Timer
  t = h.timer

  abbrev cycle : ℕ
  cycle = q.cycle

  pub unrefused : refusal_of t m.call cycle ≡ 0
  unrefused = sym (refused-is h m.call cycle k) ∙ m.accepted

  pub ready : (area : List ℕ) → Ready t m.call cycle area (passed_of h b cycle)
  ready area = subst (λ (s : Bool). Ready t m.call cycle area (passed_of h s cycle)) m.syncs (passed-ready h m.call cycle k m.accepted area m.advances)

  -- its records
  module _ (area : List ℕ) {l : Logged} {wrote : Bool} {after : List ℕ} (g : Logs (made (passed_of h b cycle)) cycle l)
      (y : (wrote ≡ leb (0 + l.log.len) (length area)) × (after ≡ cond wrote (sets area 0 (take l.log.len l.log.bytes)) area)) where
    files : {r : Outcome} → Filed t l cycle area r after → Tells (answered ticks t m.call cycle area) r after
    files o = filed t m.call cycle area (ready area) (subst (λ (n : Noted). Logs n cycle l) (sym m.does) g) m.yields o

    fit : leb l.log.len (length area) ≡ wrote
    fit = rw (zero-add l.log.len) at (sym y.0)

    pub wrote-tells : wrote ≡ true → Tells (answered ticks t m.call cycle area) (record { answer = answer.Done; timer = latest_to l.timer cycle; written = l.log.len }) after
    wrote-tells d =
        let o : l.log.len ≤ length area = leb-true _ _ (fit ∙ d) in
        let n = g.size in
        let z = sets-eq (take l.log.len l.log.bytes) area 0 (omega arith) in
        files (record { outcome = rw (fit, d); area = rw (fit, d) (rw d at y.1 ∙ z ∙ rw (n, zero-add l.log.len)) })

    -- written, and so held
    pub wrote-serves : wrote ≡ true → {g : Held} {r : Reply} → g.timer ≡ latest_to l.timer cycle → Kept g → r ≡ replied 0 0 0 l.log.len g.next g.flags
        → Serves (answered_to t (call_of q) cycle area) g r after
    wrote-serves d e s p = known-serves t q m.call area m.named (told-serves (wrote-tells d) e s p)

    -- turned away with 8
    pub left-serves : wrote ≡ false → {r : Reply} → r ≡ replied 8 5 0 0 0 0 → Serves (answered_to t (call_of q) cycle area) h r after
    left-serves d {r} p = known-serves t q m.call area m.named
        (told-serves {r = record { answer = answer.Refused 8; timer = t; written = 0 }} (files (record { outcome = rw (fit, d); area = rw (fit, d) (rw d at y.1) })) refl k p)
