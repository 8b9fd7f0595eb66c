-- What holds the counter (01, "Count, direction, next event"), and whether the comparator feeds the capture (01, "Registers and capture").
-- The sheet: "Sleep Modes"; "Power Reduction Register"; "GTCCR – General Timer/Counter Control Register"; "Input Capture Trigger Source".
use Rattle.std.specs.Prelude.{ℕ, Bool, true, false, ◌||◌}
use Rattle.time.specs.declared.halts.Halts.{Halts}

-- nothing holds the counter, and the comparator does not feed the capture
abbrev pub unheld : Halts
unheld = record { asleep = false; since = record { 0 = 0 }; reduced = false; tsm = false; routed = false }

-- sleep, power reduction or TSM hold the counter
abbrev pub holding : Halts → Bool
holding h = h.asleep || h.reduced || h.tsm

-- a halting sleep, from its cycle on
abbrev pub sleep_from : Halts → ℕ → Halts
sleep_from h cycle = record { asleep = true; since = record { 0 = cycle }; reduced = h.reduced; tsm = h.tsm; routed = h.routed }

-- awake
abbrev pub wakened : Halts → Halts
wakened h = record { asleep = false; since = h.since; reduced = h.reduced; tsm = h.tsm; routed = h.routed }

-- power reduction on or off
abbrev pub reduce_to : Halts → Bool → Halts
reduce_to h on = record { asleep = h.asleep; since = h.since; reduced = on; tsm = h.tsm; routed = h.routed }

-- TSM set or released
abbrev pub hold_to : Halts → Bool → Halts
hold_to h on = record { asleep = h.asleep; since = h.since; reduced = h.reduced; tsm = on; routed = h.routed }

-- the comparator's output feeds the capture, or does not
abbrev pub route_to : Halts → Bool → Halts
route_to h on = record { asleep = h.asleep; since = h.since; reduced = h.reduced; tsm = h.tsm; routed = on }
