-- A history of the public functions is the run of its calls.
use Prim.Native.Nat.{ℕ}
use mathlib.Core.Path.{◌≡◌, refl, sym, ap, ◌∙◌}
use mathlib.Core.List.{List}
use Rattle.counter.specs.declared.state.Timer.{Timer}
use Rattle.passage.specs.Passage.{ticks}
use Rattle.answers.specs.declared.Outcome.{Outcome}
use Rattle.answers.specs.Answers.{Told, Tells}
use Rattle.timer.specs.declared.calls.Call.{Call}
use Rattle.timer.specs.Claims.{Request, told, outcomes, last}
use Rattle.timer.proofs.Alike.{alike}
use Rattle.serving.specs.declared.asked.Asked.{Asked}
use Rattle.held.specs.declared.reply.Reply.{Reply}
use Rattle.held.specs.declared.state.Held.{Held}
use Rattle.held.specs.Reply.{Serves}
use Rattle.serving.specs.declared.asked.Wanted.TheVariants as wanted
use Rattle.serving.specs.Asked.{call_of, answered_to}
use Rattle.shell.proofs.Said.{values-back}
use Rattle.shell.specs.Histories.{heard, replied, asking, History, nothing, called, lent, exported, unnamed, served, CodeIsRun}

heard-is : {x : Told} {r : Outcome} {after : List ℕ} → Tells x r after → heard r after ≡ x
heard-is k = rw (k.timer, k.number, k.values, k.written, k.area) refl

-- the same of an exported call: its numbers say the values that they were made from
replied-is : (t : Timer) (q : Request) {h : Held} {r : Reply} {after : List ℕ} → Serves (told ticks t q) h r after → replied h.timer r after ≡ told ticks t q
replied-is t q k = rw (k.timer, k.reply, k.area, values-back t q.call q.cycle q.area) refl

-- an exported call is the call that its number names
named : (t : Timer) (a : Asked) (c : Call) (area : List ℕ) {h : Held} {r : Reply} {after : List ℕ} → call_of a ≡ wanted.Known c → Serves (answered_to t (call_of a) a.cycle area) h r after
    → Serves (told ticks t (asking a c area)) h r after
named t a c area e k = rw e at k

stays : (t : Timer) (a : Asked) (area : List ℕ) {h : Held} {r : Reply} {after : List ℕ} → call_of a ≡ wanted.Unknown → Serves (answered_to t (call_of a) a.cycle area) h r after → h.timer ≡ t
stays t a area e k = rw e at k.timer

-- by ticks, from the promises alone
history-outcomes : {t : Timer} {qs : List Request} {xs : List Told} {u : Timer} → History t qs xs u → xs ≡ outcomes ticks t qs
unfolding outcomes
history-outcomes (nothing t) = refl
history-outcomes (called t q r after qs xs u k h) = rw (heard-is k, history-outcomes h, k.timer) refl
history-outcomes (lent t q s r after qs xs u k h) = rw (heard-is k, history-outcomes h, k.timer) refl
history-outcomes (exported t a c area s r after qs xs u e k h) = let n = named t a c area e k in rw (replied-is t (asking a c area) n, history-outcomes h, n.timer) refl
history-outcomes (served t q s r after qs xs u k h) = rw (replied-is t q k, history-outcomes h, k.timer) refl
history-outcomes (unnamed t a area s r after qs xs u e k h) = history-outcomes h ∙ ap (λ (z : Timer). outcomes ticks z qs) (stays t a area e k)

history-last : {t : Timer} {qs : List Request} {xs : List Told} {u : Timer} → History t qs xs u → u ≡ last ticks t qs
unfolding last
history-last (nothing t) = refl
history-last (called t q r after qs xs u k h) = history-last h ∙ rw k.timer refl
history-last (lent t q s r after qs xs u k h) = history-last h ∙ rw k.timer refl
history-last (exported t a c area s r after qs xs u e k h) = history-last h ∙ rw (named t a c area e k).timer refl
history-last (served t q s r after qs xs u k h) = history-last h ∙ rw k.timer refl
history-last (unnamed t a area s r after qs xs u e k h) = history-last h ∙ ap (λ (z : Timer). last ticks z qs) (stays t a area e k)

pub code-is-run : CodeIsRun
code-is-run c e qs xs u h =
    let a = alike c e qs in
    record { outcomes = history-outcomes h ∙ sym a.outcomes; last = history-last h ∙ sym a.last }
