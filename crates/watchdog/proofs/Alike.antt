-- Skipping and working each tick singly give the same outcomes and the same last watchdog; the code's histories are that run.
use Prim.Native.Nat.{ℕ}
use mathlib.Core.Path.{◌≡◌, refl, sym, ◌∙◌}
use mathlib.Core.Bool.{Bool, true}
use mathlib.Core.List.{List, [], ◌∷◌}
use lib.Dec.{leb, leb-zero}
use lib.ListN.{length}
use Rattle.oscillator.specs.declared.state.Watchdog.{Watchdog}
use Rattle.oscillator.specs.State.{fresh}
use Rattle.oscillator.specs.Oscillator.{ticks, timeouts, due, start, run_of, synced}
use Rattle.oscillator.proofs.Runs.{timeouts-are-ticks}
use Rattle.watchdog.specs.declared.calls.Call.{Call}
use Rattle.watchdog.specs.declared.calls.Call.TheVariants as call
use Rattle.watchdog.specs.Outcome.{Told}
use Rattle.watchdog.specs.Calls.{performed, answered}
use Rattle.watchdog.specs.Claims.{Request, told, outcomes, last, Same, Alike, History, nothing, called, CodeIsRun}

runs-alike : (w : Watchdog) (cycle : ℕ) (fits : ℕ → Bool) → fits 0 ≡ true → run_of timeouts w cycle fits ≡ run_of ticks w cycle fits
unfolding run_of start
runs-alike w cycle fits f = timeouts-are-ticks fits (due w cycle) (start w) f

syncs-alike : (w : Watchdog) (cycle : ℕ) → synced timeouts w cycle ≡ synced ticks w cycle
unfolding synced
syncs-alike w cycle = rw (runs-alike w cycle (λ k. true) refl)

performed-alike : (w : Watchdog) (c : Call) (cycle : ℕ) (area : List ℕ) → performed timeouts w c cycle area ≡ performed ticks w c cycle area
unfolding performed
performed-alike w call.Advance cycle area = rw (runs-alike w cycle (λ k. leb k (length area)) (leb-zero (length area)))
performed-alike w call.Next cycle area = refl
performed-alike w call.Wdr cycle area = rw (syncs-alike w cycle)
performed-alike w call.Serve cycle area = rw (syncs-alike w cycle)
performed-alike w call.Read cycle area = rw (syncs-alike w cycle)
performed-alike w (call.Write value) cycle area = rw (syncs-alike w cycle)

pub told-alike : (w : Watchdog) (q : Request) → told timeouts w q ≡ told ticks w q
unfolding answered
told-alike w q = rw (performed-alike w q.call q.cycle q.area)

same : (w : Watchdog) (qs : List Request) → Same w qs
unfolding outcomes last
same w [] = record { outcomes = refl; last = refl }
same w (q ∷ qs) =
    let e = told-alike w q in
    let g = same (told ticks w q).watchdog qs in
    record { outcomes = rw (e, g.outcomes); last = rw e g.last }

pub alike : Alike
alike qs = same fresh qs

-- ---- by ticks, from the promises alone
history-outcomes : {w : Watchdog} {qs : List Request} {xs : List Told} {u : Watchdog} → History w qs xs u → xs ≡ outcomes ticks w qs
unfolding outcomes
history-outcomes (nothing w) = refl
history-outcomes (called w q r after qs xs u k h) = rw (← k.told, history-outcomes h) refl

history-last : {w : Watchdog} {qs : List Request} {xs : List Told} {u : Watchdog} → History w qs xs u → u ≡ last ticks w qs
unfolding last
history-last (nothing w) = refl
history-last (called w q r after qs xs u k h) = rw (← k.told) (history-last h)

pub code-is-run : CodeIsRun
code-is-run qs xs u h =
    let a = alike qs in
    record { outcomes = history-outcomes h ∙ sym a.outcomes; last = history-last h ∙ sym a.last }
