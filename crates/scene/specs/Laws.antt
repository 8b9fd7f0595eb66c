-- A scene tells what its setting's ticks do, while the count rises: statements, proved in proofs/.
use Rattle.std.specs.Prelude.{◌≡◌, ℕ, Bool, true, false, List, slice_index}
use Rattle.config.specs.declared.Config.{Config}
use Rattle.config.specs.Config.{accepted}
use Rattle.wave.specs.Count.{top_of, next_count}
use Rattle.wave.specs.Distance.{gap}
use Rattle.tick.specs.declared.setting.Moving.{Moving}
use Rattle.tick.specs.declared.setting.Setting.{Setting}
use Rattle.tick.specs.Outputs.{Outs, outputs}
use Rattle.tick.specs.Tick.{events_of, raised, flag_log}
use Rattle.scene.specs.Scene.{Rising, Apart, scene_of, climb_at, after_at, limit_at, raised_at, told_of, driven_of}

-- TOP now
abbrev pub top_now : Setting → Moving → ℕ
top_now s m = top_of s.wave (slice_index m.ocr 0)

-- the bits that the next tick raises
abbrev pub up_now : Setting → Moving → ℕ
up_now s m = raised s (events_of s m)

-- the way to the next event is the gap
abbrev pub ClimbIs : Type 0
ClimbIs = (s : Setting) (m : Moving) → Rising s m → climb_at (scene_of s) m.counter.count (top_now s m) m.ocr ≡ gap s.wave m.counter m.ocr

-- the count after a tick
abbrev pub AfterIs : Type 0
AfterIs = (s : Setting) (m : Moving) → Rising s m → after_at (scene_of s) m.counter.count (top_now s m) ≡ next_count s.wave m.counter (top_now s m)

-- TOP of the buffered compares
abbrev pub LimitIs : Type 0
LimitIs = (s : Setting) (ocr : List ℕ) → limit_at (scene_of s) (top_of s.wave (slice_index ocr 0)) ≡ top_of s.wave (slice_index s.buffer 0)

-- the bits raised
abbrev pub RaisedIs : Type 0
RaisedIs = (s : Setting) (m : Moving) → Rising s m → Apart s → raised_at (scene_of s) m.counter.count (top_now s m) m.ocr ≡ up_now s m

-- the flag record and the triggers
abbrev pub ToldIs : Type 0
ToldIs = (s : Setting) (m : Moving) (tifr : ℕ) → Rising s m → Apart s → told_of (scene_of s) (up_now s m) tifr ≡ flag_log s (events_of s m) (up_now s m) tifr

-- the outputs
abbrev pub DrivenIs : Type 0
DrivenIs = (s : Setting) (m : Moving) (o : Outs) → Rising s m → Apart s → driven_of (scene_of s) (up_now s m) (events_of s m).bottom o ≡ outputs s (events_of s m) o

-- where no channel may drive its pin nothing is done
abbrev pub StillIs : Type 0
StillIs = (s : Setting) (up : ℕ) (bottom : Bool) (o : Outs) → (scene_of s).pinned ≡ false → driven_of (scene_of s) up bottom o ≡ o

-- a setting has the flags and the units of a configuration
pub record Configured (k : Config) (s : Setting) : Type 0 where
  pub tov : s.tov ≡ k.tov
  pub a : s.a.flag ≡ k.a.flag
  pub b : s.b.flag ≡ k.b.flag
  pub c : s.c.flag ≡ k.c.flag
  pub icf : s.icf ≡ k.icr.flag
  pub has-a : s.wave.a ≡ k.a.present
  pub has-b : s.wave.b ≡ k.b.present
  pub has-c : s.wave.c ≡ k.c.present
  pub capture : s.capture ≡ k.icr.present

-- an accepted configuration's flags are apart
abbrev pub ApartOf : Type 0
ApartOf = (c : Config) (s : Setting) → accepted c ≡ true → Configured c s → Apart s
