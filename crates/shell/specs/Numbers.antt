-- What the exports promise.
use Rattle.std.specs.Prelude.{ℕ, ◌≤◌, true, false, List, ◌≡◌}
use Rattle.counter.specs.declared.state.Timer.{Timer}
use Rattle.passage.specs.Passage.{ticks}
use Rattle.config.specs.Config.{place_of}
use Rattle.serving.specs.declared.asked.Wanted.{Wanted}
use Rattle.serving.specs.declared.asked.Asked.{Asked}
use Rattle.serving.specs.Asked.{call_of, answered_to}
use Rattle.serving.specs.Looking.{LeftFor}
use Rattle.shell.specs.declared.exports.Seen.{Seen}
use Rattle.held.specs.declared.state.Held.{Held}
use Rattle.held.specs.declared.reply.Reply.{Reply}
use Rattle.held.specs.Reply.{Serves, count_high}
use Rattle.replies.specs.declared.shapes.Shape.{Shape}
use Rattle.timer.specs.Calls.{answered}
use Rattle.timer.specs.declared.calls.Call.TheVariants as call

-- the shape of a board
abbrev pub board_shape : Shape
board_shape = record { size = 1600; align = 8 }

-- the high byte of TCNTn, which leaves every area as it is
abbrev pub High : Timer → ℕ → Held → Reply → Type 0
High t cycle h r = (area : List ℕ) → Serves (count_high t cycle area) h r area

-- a call that is done is served, and leaves every area as it is; one that is not has changed nothing, and is left to others
pub record Sees (h : Held) (w : Wanted) (cycle : ℕ) (g : Held) (r : Seen) : Type 0 where
  pub done : r.done ≡ true → (area : List ℕ) → Serves (answered_to h.timer w cycle area) g r.reply area
  pub same : r.done ≡ false → g ≡ h
  pub left : r.done ≡ false → LeftFor h w cycle

-- a call by its number, which leaves every area as it is
abbrev pub ServedTo : Held → Asked → Held → Reply → Type 0
ServedTo h q g r = (area : List ℕ) → Serves (answered_to h.timer (call_of q) q.cycle area) g r area

-- a call that may change what is kept, but for the advance, a write and a reset: an edge, or one that turns something
pub record Changes (q : Asked) : Type 0 where
  pub least : 9 ≤ q.kind
  pub most : q.kind ≤ 16
  pub apart : q.kind ≡ 11 → ⊥

-- the register at a place written
abbrev pub Rewritten : Held → ℕ → ℕ → ℕ → List ℕ → Held → Reply → List ℕ → Type 0
Rewritten h place value cycle area g r after = (address : ℕ) → place_of h.timer.config address ≡ place → Serves (answered ticks h.timer (call.Write address value) cycle area) g r after
