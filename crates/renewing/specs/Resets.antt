-- A reset of a held timer: what it leaves.
use Rattle.std.specs.Prelude.{ℕ, true, false, List, [], ◌∷◌, ◌≡◌}
use Rattle.config.specs.declared.Config.{Config}
use Rattle.passage.specs.Passage.{ticks}
use Rattle.scene.specs.declared.state.Scene.{Scene}
use Rattle.wave.specs.Kinds.{N}
use Rattle.tick.specs.Setting.{channel_of}
use Rattle.timer.specs.Calls.{answered}
use Rattle.timer.specs.declared.calls.Call.TheVariants as call
use Rattle.held.specs.declared.state.Held.{Held}
use Rattle.held.specs.Held.{never}
use Rattle.held.specs.Reply.{replied, Serves}
use Rattle.renewing.specs.declared.resets.Reset.{Reset}

-- the scene of normal mode with no output, from that of any
unfoldable pub cleared_of : Scene → Config → Scene
cleared_of s k = record {
  max = s.max;
  buffer = 0 ∷ 0 ∷ 0 ∷ [];
  kind = N;
  fast = false;
  ends = false;
  follows = false;
  pinned = false;
  pa = s.pa;
  pb = s.pb;
  pc = s.pc;
  fa = s.fa;
  fb = s.fb;
  fc = s.fc;
  tov = s.tov;
  icf = s.icf;
  capt = 0;
  timsk = s.timsk;
  id = s.id;
  a = channel_of k.a 0 N false;
  b = channel_of k.b 0 N false;
  c = channel_of k.c 0 N false;
}

-- a held timer after a reset: TOP is MAX, and no event is to come
abbrev pub reset_in : Reset → Held
reset_in r = record { timer = r.timer; scene = r.scene; next = never; top = r.scene.max; flags = 0; shift = 63; down = false }

-- done where the records fit, else refused with 8
pub record Resets (h : Held) (cycle : ℕ) (area : List ℕ) (r : Reset) (after : List ℕ) : Type 0 where
  pub done : r.fits ≡ true → Serves (answered ticks h.timer call.Reset cycle area) (reset_in r) (replied 0 0 0 r.written never 0) after
  pub refused : r.fits ≡ false → Serves (answered ticks h.timer call.Reset cycle area) h (replied 8 5 0 0 0 0) after
