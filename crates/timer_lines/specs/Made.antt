-- The lines that make a fresh timer (docs/SCRIPT.md, `config` and `preset`).
use Rattle.std.specs.Prelude.{ℕ, Bool, true, false, cond, List, ◌≡◌, ◌==◌, Option, Some, IfSome, Result, Ok, Err}
use Rattle.figures.specs.Figures.{text}
use Rattle.page.specs.Page.{Puts, unreadable_of}
use Rattle.config.specs.declared.Config.{Config}
use Rattle.counter.specs.Fresh.{started_of}
use Rattle.counter.specs.Valid.{Valid}
use Rattle.counter.specs.declared.state.Timer.{Timer}
use Rattle.words.specs.declared.Unreadable.{Unreadable}
use Rattle.script.specs.Configs.{of_keys, of_preset}
use Rattle.timer_lines.specs.declared.made.Made.{Made}

-- what a line leaves: the timer, if there is one, the answer's bytes, and whether the timer is a fresh one
pub record Configured : Type 0 where
  pub timer : Option Timer
  pub bytes : List ℕ
  pub fresh : Bool

-- a line that leaves the timer as it was
abbrev pub keeping : Option Timer → List ℕ → Configured
keeping t bytes = record { timer = t; bytes = bytes; fresh = false }

-- "ok config: an accepted configuration", else 01's 1; "a fresh timer at cycle 0"
unfoldable pub made_of : Option Timer → ℕ → Result Config Unreadable → Configured
made_of t nth (Err why) = keeping t (unreadable_of nth why)
made_of t nth (Ok c) =
    cond ((started_of c).number == 0)
    (record { timer = Some (started_of c).timer; bytes = text "ok config"; fresh = true })
    (keeping t (text "refused 1"))

-- the line `config`, or `preset`, from the place after its name
abbrev pub config_line : Option Timer → ℕ → List ℕ → ℕ → Bool → Configured
config_line t nth line at preset = made_of t nth (cond preset (of_preset line at) (of_keys line at))

-- what the code leaves is what the line's definition says; its timer is valid
pub record Makes (x : Configured) (old new : List ℕ) (r : Made) : Type 0 where
  pub timer : r.timer ≡ x.timer
  pub fresh : r.fresh ≡ x.fresh
  pub puts : Puts old new x.bytes
  pub valid : IfSome r.timer Valid
