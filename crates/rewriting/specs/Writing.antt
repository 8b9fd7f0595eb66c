-- A register written below the next event.
use Rattle.std.specs.Prelude.{ℕ, ◌≤◌, true, false, List, ◌≡◌}
use Rattle.config.specs.Config.{place_of}
use Rattle.counter.specs.Registers.{is_high}
use Rattle.passage.specs.Passage.{ticks}
use Rattle.timer.specs.Calls.{answered}
use Rattle.timer.specs.declared.calls.Call.TheVariants as call
use Rattle.held.specs.declared.calls.Called.{Called}
use Rattle.held.specs.declared.state.Held.{Held}
use Rattle.held.specs.Quick.{refusing}
use Rattle.held.specs.Reply.{Serves}

-- a register that an address has, and no high byte, at a cycle that is accepted and below the next event
pub record Takes (h : Held) (place cycle : ℕ) : Type 0 where
  pub address : ℕ
  pub placed : place_of h.timer.config address ≡ place
  pub there : place ≤ 12
  pub low : is_high place ≡ false
  pub quiet : refusing true h.timer.clock.latest.0 h.next cycle ≡ 0

-- the register at a place written
abbrev pub Rewrites : Held → ℕ → ℕ → ℕ → List ℕ → Called → List ℕ → Type 0
Rewrites h place value cycle area r after = (address : ℕ) → place_of h.timer.config address ≡ place → Serves (answered ticks h.timer (call.Write address value) cycle area) r.held r.reply after
