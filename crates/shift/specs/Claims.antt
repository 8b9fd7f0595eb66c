-- What is claimed of a late edge (02, 2.9). Proofs stand apart, in proofs/.
use Rattle.std.specs.Prelude.{ℕ, suc, ◌+◌, ◌/◌, ◌%◌, ◌≤◌, Bool, true, false, List, [], ◌∷◌, ◌⊎◌, ◌≡◌, ℤ, pos, negsuc, nat_abs}
use Rattle.config.specs.declared.Config.{Config}
use Rattle.config.specs.Config.{accepted}
use Rattle.wave.specs.Kinds.{N}
use Rattle.counter.specs.declared.state.Timer.{Timer}
use Rattle.counter.specs.Fresh.{fresh_of}
use Rattle.counter.specs.Modes.{mode_of, kind_at, max_at, divisor_of, running_of}
use Rattle.counter.specs.Valid.{Valid}
use Rattle.passage.specs.Passage.{ticks}
use Rattle.timer.specs.declared.calls.Call.{Call}
use Rattle.timer.specs.declared.calls.Call.TheVariants as call
use Rattle.timer.specs.Calls.{edge_captures, output_captures}
use Rattle.timer.specs.Claims.{Request, told, last}
use Rattle.outlook.specs.Announced.{touches}
use Rattle.shift.specs.Shift.{by, values_at}

-- through a list no call that touches the next event is accepted: none is a register write, a halt, the own prescaler's reset or a reset (02, 2.9)
unfoldable pub Undisturbed : Timer → List Request → Type 0
Undisturbed t [] = Unit
Undisturbed t (q ∷ qs) = ((told ticks t q).number ≡ 0 → touches t q.call ≡ false) × Undisturbed (told ticks t q).timer qs

-- an edge, or the comparator's output, that captures
unfoldable pub capturing : Timer → Call → Bool
capturing t (call.Edge pin level) = edge_captures t pin level
capturing t (call.Output level) = output_captures t level
capturing t (call.Write address value) = false
capturing t (call.Sleep mode) = false
capturing t (call.Reduce mask) = false
capturing t (call.Tsm level) = false
capturing t (call.Prescale mask) = false
capturing t call.Reset = false
capturing t call.Advance = false
capturing t call.Next = false
capturing t (call.Read address) = false
capturing t (call.Peek address) = false
capturing t call.Tifr = false
capturing t call.Timsk = false
capturing t (call.WriteTifr ones) = false
capturing t (call.WriteTimsk mask) = false
capturing t (call.Route level) = false
capturing t call.Wake = false

-- a run that ends in an accepted capture
pub record Captures (t : Timer) (qs : List Request) (q : Request) : Type 0 where
  pub undisturbed : Undisturbed t qs
  pub taken : (told ticks (last ticks t qs) q).number ≡ 0
  pub captures : capturing (last ticks t qs) q.call ≡ true

-- the value captured: ICR as the call leaves it
abbrev pub captured : Timer → List Request → Request → ℕ
captured t qs q = (told ticks (last ticks t qs) q).timer.registers.icr

-- a value that is so much later, e cycles on at n cycles a tick: by e div n or e div n + 1, and by exactly e / n where n divides e
pub record Later (round n e first second : ℕ) : Type 0 where
  pub either : (second ≡ (first + e / n) % round) ⊎ (second ≡ (first + (e / n + 1)) % round)
  pub exact : e % n ≡ 0 → second ≡ (first + e / n) % round

-- Late: two runs from one timer, running in a normal mode, one that captures at a cycle and one e cycles later
abbrev pub Late : Type 0
Late = (c : Config) → accepted c ≡ true → (qs : List Request) → let t = last ticks (fresh_of c) qs in
    running_of t ≡ true → kind_at t.config.wide (mode_of t) ≡ N
    → (xs ys : List Request) (a b : Request) (e : ℕ) → Captures t xs a → Captures t ys b → b.cycle ≡ a.cycle + e
    → Later (max_at t.config.wide + 1) (divisor_of t) e (captured t xs a) (captured t ys b)

-- a value moved by a signed number of ticks, in a round of values: on by n, or back by n, so that the first is n on from it
abbrev pub MovedBy : ℕ → ℤ → ℕ → ℕ → Type 0
MovedBy round (pos n) first second = second ≡ (first + n) % round
MovedBy round (negsuc n) first second = first ≡ (second + suc n) % round

-- Shifted: of two such runs, whichever captures earlier, the value captured at the second cycle is that captured at the first plus the signed shift, modulo MAX + 1
abbrev pub Shifted : Type 0
Shifted = (c : Config) → accepted c ≡ true → (qs : List Request) → let t = last ticks (fresh_of c) qs in
    running_of t ≡ true → kind_at t.config.wide (mode_of t) ≡ N
    → (xs ys : List Request) (a b : Request) (z : ℤ) → Captures t xs a → Captures t ys b → values_at t a.cycle b.cycle ≡ by z
    → MovedBy (max_at t.config.wide + 1) z (captured t xs a) (captured t ys b)

-- Within: the signed shift lies from −32767 to 32767 (02, 2.9: from −32768 to 32767)
abbrev pub Within : Type 0
Within = (t : Timer) → Valid t → (first second : ℕ) (z : ℤ) → values_at t first second ≡ by z → nat_abs z ≤ 32767
