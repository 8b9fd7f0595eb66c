-- A compare channel as a mode has it.
-- The sheet: "Compare Match Output Unit"; COMnx of "Register Description".
use Rattle.std.specs.Prelude.{ℕ, Bool, true, false, cond, ◌||◌, eqb, leb}
use Rattle.config.specs.declared.Compare.{Compare}
use Rattle.wave.specs.Kinds.{C}
use Rattle.tick.specs.declared.setting.Channel.{Channel}

-- COM 0 is off, COM 1 toggles in N and C and where channel A toggles, else it is off (01, "Outputs and pins")
unfoldable pub enabled_at : ℕ → ℕ → Bool → Bool
enabled_at comx kind toggles = cond (eqb comx 0) false (cond (eqb comx 1) (leb kind C || toggles) true)

-- a compare unit as its COM field and the mode have it
unfoldable pub channel_of : Compare → ℕ → ℕ → Bool → Channel
channel_of unit comx kind toggles = record { comx = comx; enabled = enabled_at comx kind toggles; wire = unit.wire; flag = unit.flag }
