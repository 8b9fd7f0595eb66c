-- The count up to a time-out, tick by tick and in one step (02, 2.8; the sheet, "Watchdog Timer").
use Rattle.std.specs.Prelude.{ℕ, suc, ◌+◌, ◌-◌, ◌*◌, ◌^◌, Bool, true, false, cond, not, ◌&&◌, ◌||◌, List, [], ◌∷◌, leb, ltb}
use Rattle.records.specs.declared.Entry.{Entry}
use Rattle.wdtcsr.specs.declared.state.Control.{Control}
use Rattle.wdtcsr.specs.declared.state.Moving.{Moving}
use Rattle.wdtcsr.specs.State.{shut, running}

-- "the period is 2048 × 2^p cycles of its own oscillator"
unfoldable pub period_of : ℕ → ℕ
period_of p = 2048 * 2 ^ p

-- ---- one tick

-- the count is another
abbrev pub count_to : Moving → ℕ → Moving
count_to m count = record { count = count; control = m.control; window = m.window }

-- a time-out resets where the interrupt is not enabled, or "a flag still set" with WDE
abbrev pub resets : Control → Bool
resets c = c.wde && (c.wdif || not c.wdie)

-- an interrupt: the flag is set, "a time-out sets the count to 0"
abbrev pub interrupted : Moving → Moving
interrupted m = record { count = 0; control = record { wdif = true; wdie = m.control.wdie; wde = m.control.wde; wdp = m.control.wdp }; window = m.window }

-- "after a reset record WDE is set, the interrupt enable, its flag and WDCE are clear and p is 0"
abbrev pub restarted : Moving
restarted = record { count = 0; control = record { wdif = false; wdie = false; wde = true; wdp = 0 }; window = shut }

-- what a time-out leaves
unfoldable pub timed_out : Moving → Moving
timed_out m = cond (resets m.control) restarted (interrupted m)

-- "its records are of kind 3: body 1 for an interrupt, 2 for a reset"
unfoldable pub timeout : Moving → Entry
timeout m = record { kind = 3; body = cond (resets m.control) 2 1 }

-- what a tick leaves, and its records
pub record Step : Type 0 where
  pub moving : Moving
  pub log : List Entry

-- "the count goes up by one and, at or past the period, times out"; while stopped nothing moves
unfoldable pub tick : Moving → Step
tick m =
    cond (running m)
    (cond (ltb (m.count + 1) (period_of m.control.wdp))
    (record { moving = count_to m (m.count + 1); log = [] })
    (record { moving = timed_out m; log = timeout m ∷ [] }))
    (record { moving = m; log = [] })

-- ---- in one step

-- n ticks that only count, in one step
unfoldable pub linear : ℕ → Moving → Moving
linear n m = count_to m (cond (running m) (m.count + n) m.count)

-- the ticks that only count before the time-out's
unfoldable pub gap_of : Moving → ℕ
gap_of m = period_of m.control.wdp - suc m.count

-- n ticks on there is no time-out
abbrev pub is_quiet : ℕ → Moving → Bool
is_quiet n m = not (running m) || leb n (gap_of m)
