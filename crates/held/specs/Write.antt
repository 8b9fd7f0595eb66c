-- Writes that leave the next event as it is: a high byte, which is TEMP, and the low byte of a compare that waits in its buffer (01, "Registers and capture").
use Rattle.std.specs.Prelude.{ℕ, ◌+◌, ◌-◌, ◌/◌, ◌≤◌, true, false, cond, not, ◌&&◌, ◌||◌, ◌≡◌, eqb, leb, ltb, set}
use Rattle.config.specs.Config.{place_of}
use Rattle.wave.specs.Kinds.{C}
use Rattle.counter.specs.Registers.{is_high, committed}
use Rattle.timer.specs.declared.calls.Call.TheVariants as call
use Rattle.held.specs.declared.reply.Reply.{Reply}
use Rattle.held.specs.declared.state.Held.{Held}
use Rattle.held.specs.declared.write.Buffered.{Buffered}
use Rattle.held.specs.Quick.{refusing, stilled}
use Rattle.held.specs.Reply.{replied, Served}

-- the way of a write to a place: 1 to a high byte, the place to a compare's low byte in a mode that buffers it, 16 more than the place to any other; 32 where it is refused
unfoldable pub way_at : ℕ → ℕ → ℕ → ℕ → ℕ → ℕ
way_at place kind latest next cycle =
    cond (is_high place) (cond (eqb (refusing false latest next cycle) 0) 1 32)
    (cond (ltb 12 place || not (eqb (refusing true latest next cycle) 0)) 32 (cond ((leb 2 place && leb place 6) && not (leb kind C)) place (16 + place)))

-- of a write to an address of a held timer
abbrev pub way_of : Held → ℕ → ℕ → ℕ
way_of h address cycle = way_at (place_of h.timer.config address) h.scene.kind h.timer.clock.latest.0 h.next cycle

-- a compare's low byte, in a mode that buffers it, at a cycle that is accepted and below the next event
pub record Waits (h : Held) (place cycle : ℕ) : Type 0 where
  pub first : 2 ≤ place
  pub last : place ≤ 6
  pub low : is_high place ≡ false
  pub kind : leb h.scene.kind C ≡ false
  pub quiet : refusing true h.timer.clock.latest.0 h.next cycle ≡ 0

-- time passes up to the cycle, and the compare's buffer takes the byte, with TEMP above it in a wide timer
unfoldable pub buffered : Held → ℕ → ℕ → ℕ → Buffered
buffered h place value cycle = record {
  counter = (stilled h.timer.counter h.timer.clock h.shift h.down cycle).counter;
  clock = (stilled h.timer.counter h.timer.clock h.shift h.down cycle).clock;
  buffer = set h.timer.buffer (place / 2 - 1) (committed h.timer value);
  reply = replied 0 0 0 0 h.next h.flags;
}

-- a high byte written, whichever
abbrev pub Latches : Held → ℕ → ℕ → Held → Reply → Type 0
Latches h value cycle g r = (address : ℕ) → is_high (place_of h.timer.config address) ≡ true → Served h.timer (call.Write address value) cycle g r

-- the register at a place written
abbrev pub Stores : Held → ℕ → ℕ → ℕ → Held → Reply → Type 0
Stores h place value cycle g r = (address : ℕ) → place_of h.timer.config address ≡ place → Served h.timer (call.Write address value) cycle g r
