-- A timer as its owner holds it: what is kept of it, so that no call works it out anew.
use Rattle.std.specs.Prelude.{ℕ, ◌-◌, ◌<◌, ◌^◌, Bool, true, false, cond, ◌≡◌, eqb, get_or}
use Rattle.wave.specs.Count.{falls, top_of}
use Rattle.counter.specs.declared.next.Next.{Next}
use Rattle.counter.specs.declared.next.Next.TheVariants as next
use Rattle.counter.specs.declared.state.Timer.{Timer}
use Rattle.counter.specs.Modes.{mode_of, wave_of, divisor_of, running_of}
use Rattle.counter.specs.Next.{next_of}
use Rattle.counter.specs.Setting.{setting_of}
use Rattle.counter.specs.Valid.{Valid}
use Rattle.scene.specs.Scene.{scene_of}
use Rattle.held.specs.declared.state.Held.{Held}
use Rattle.held.specs.declared.state.Ahead.{Ahead}

-- past every cycle: no event is to come
abbrev pub never : ℕ
never = 2 ^ 64 - 1

-- the next event's cycle as a number
unfoldable pub code_of : Next → ℕ
code_of (next.At c f) = c.0
code_of next.Never = never

-- the next event's flags, 0 for none
unfoldable pub flags_in : Next → ℕ
flags_in (next.At c f) = f
flags_in next.Never = 0

-- the power of two that a divisor is; 63 where the counter does not run, so that no tick passes
unfoldable pub shift_at : ℕ → Bool → ℕ
shift_at d running =
    cond running
    (cond (eqb d 8) 3 (cond (eqb d 32) 5 (cond (eqb d 64) 6 (cond (eqb d 128) 7 (cond (eqb d 256) 8 (cond (eqb d 1024) 10 0))))))
    63

-- what lies ahead of a timer: its next event with the flags, and the shift of its divisor
pub record Foresees (t : Timer) (r : Ahead) : Type 0 where
  pub next : r.next ≡ code_of (next_of t)
  pub flags : r.flags ≡ flags_in (next_of t)
  pub shift : running_of t ≡ true → divisor_of t ≡ 2 ^ r.shift
  pub idle : running_of t ≡ false → r.shift ≡ 63
  pub small : r.shift < 64

-- what is kept of which timer: of a valid one its next event with the flags, the shift of its divisor, whether its count falls, its setting's scene and TOP
pub record Kept (h : Held) : Type 0 where
  pub valid : Valid h.timer
  pub next : h.next ≡ code_of (next_of h.timer)
  pub flags : h.flags ≡ flags_in (next_of h.timer)
  pub shift : running_of h.timer ≡ true → divisor_of h.timer ≡ 2 ^ h.shift
  pub idle : running_of h.timer ≡ false → h.shift ≡ 63
  pub small : h.shift < 64
  pub down : h.down ≡ falls (wave_of h.timer (mode_of h.timer)) h.timer.counter
  pub scene : h.scene ≡ scene_of (setting_of h.timer)
  pub top : h.top ≡ top_of (wave_of h.timer (mode_of h.timer)) (get_or h.timer.ocr 0 0)
