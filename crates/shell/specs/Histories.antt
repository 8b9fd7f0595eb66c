-- Calls by value, on a lent timer and through the exports, one after the other (01, "The record area": demand 3).
use Rattle.std.specs.Prelude.{ℕ, true, cond, List, [], ◌∷◌, ◌≡◌, eqb}
use Rattle.config.specs.declared.Config.{Config}
use Rattle.config.specs.Config.{accepted}
use Rattle.counter.specs.declared.next.Next.TheVariants as next
use Rattle.counter.specs.declared.state.Timer.{Timer}
use Rattle.counter.specs.Fresh.{fresh_of}
use Rattle.passage.specs.Passage.{ticks, events}
use Rattle.answers.specs.declared.Outcome.{Outcome}
use Rattle.answers.specs.Answers.{Values, refused, none, byte, event, reached, paused, Told, Tells, number_of, values_of}
use Rattle.timer.specs.declared.calls.Call.{Call}
use Rattle.timer.specs.Claims.{Request, told, outcomes, last}
use Rattle.serving.specs.declared.asked.Asked.{Asked}
use Rattle.held.specs.declared.reply.Reply.{Reply}
use Rattle.held.specs.declared.state.Held.{Held}
use Rattle.held.specs.Reply.{Serves}
use Rattle.serving.specs.declared.asked.Wanted.TheVariants as wanted
use Rattle.lending.specs.declared.Told.{Told as Lent}
use Rattle.lending.specs.Lent.{Leaves}
use Rattle.serving.specs.Asked.{call_of, answered_to}

-- what the code's outcome and the area after it say, in 01's terms
abbrev pub heard : Outcome → List ℕ → Told
heard r after = record { timer = r.timer; number = number_of r.answer; values = values_of r.answer; written = r.written; area = after }

-- the values that a reply's numbers say
unfoldable pub values_in : ℕ → ℕ → ℕ → Values
values_in what flags value =
    cond (eqb what 0) none
    (cond (eqb what 1) (byte value)
    (cond (eqb what 2) (event (next.At (record { 0 = value }) flags))
    (cond (eqb what 3) (event next.Never) (cond (eqb what 4) (paused value flags) (cond (eqb what 6) (reached flags) refused)))))

-- what a reply says beside the timer that the call left
abbrev pub replied : Timer → Reply → List ℕ → Told
replied t r after = record { timer = t; number = r.number; values = values_in r.what r.flags r.value; written = r.written; area = after }

-- the request of an exported call
abbrev pub asking : Asked → Call → List ℕ → Request
asking a c area = record { call = c; cycle = a.cycle; area = area }

-- a history of the public functions, each on the timer as the one before gave it back or left it, each with its promise: by value, on a lent timer, or exported, by its number or by its name;
-- a number that names no call is no call of the run
pub data History : Timer → List Request → List Told → Timer → Type 0 where
  nothing : (t : Timer) → History t [] [] t
  called : (t : Timer) (q : Request) (r : Outcome) (after : List ℕ) (qs : List Request) (xs : List Told) (u : Timer) → Tells (told ticks t q) r after → History r.timer qs xs u → History t (q ∷ qs) (heard r after ∷ xs) u
  lent : (t : Timer) (q : Request) (s : Timer) (r : Lent) (after : List ℕ) (qs : List Request) (xs : List Told) (u : Timer) → Leaves (told ticks t q) s r after → History s qs xs u
      → History t (q ∷ qs) (heard (record { answer = r.answer; timer = s; written = r.written }) after ∷ xs) u
  exported : (t : Timer) (a : Asked) (c : Call) (area : List ℕ) (h : Held) (r : Reply) (after : List ℕ) (qs : List Request) (xs : List Told) (u : Timer) → call_of a ≡ wanted.Known c
      → Serves (answered_to t (call_of a) a.cycle area) h r after → History h.timer qs xs u → History t (asking a c area ∷ qs) (replied h.timer r after ∷ xs) u
  unnamed : (t : Timer) (a : Asked) (area : List ℕ) (h : Held) (r : Reply) (after : List ℕ) (qs : List Request) (xs : List Told) (u : Timer) → call_of a ≡ wanted.Unknown
      → Serves (answered_to t (call_of a) a.cycle area) h r after → History h.timer qs xs u → History t qs xs u
  served : (t : Timer) (q : Request) (h : Held) (r : Reply) (after : List ℕ) (qs : List Request) (xs : List Told) (u : Timer) → Serves (told ticks t q) h r after → History h.timer qs xs u
      → History t (q ∷ qs) (replied h.timer r after ∷ xs) u

-- The code is that run: what a history of the public functions gave is what the counter that skips gives, outcome by outcome
pub record Heard (c : Config) (qs : List Request) (xs : List Told) (u : Timer) : Type 0 where
  pub outcomes : xs ≡ outcomes events (fresh_of c) qs
  pub last : u ≡ last events (fresh_of c) qs

-- for every history from a fresh timer
abbrev pub CodeIsRun : Type 0
CodeIsRun = (c : Config) → accepted c ≡ true → (qs : List Request) (xs : List Told) (u : Timer) → History (fresh_of c) qs xs u → Heard c qs xs u
