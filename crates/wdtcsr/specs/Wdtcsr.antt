-- WDTCSR, WDR and the interrupt's serving (02, 2.8; the sheet, "Watchdog Timer" and "WDTCSR – Watchdog Timer Control Register").
use Rattle.std.specs.Prelude.{ℕ, ◌+◌, ◌/◌, ◌%◌, Bool, true, false, cond, not, ◌&&◌, ◌||◌, eqb, leb}
use Rattle.wdtcsr.specs.declared.state.Control.{Control}
use Rattle.wdtcsr.specs.declared.state.Moving.{Moving}
use Rattle.wdtcsr.specs.declared.state.Window.{Window}
use Rattle.wdtcsr.specs.State.{shut, running}
use Rattle.wdtcsr.specs.Timeouts.{count_to}

-- WDIF 7, WDIE 6, WDP3 5, WDCE 4, WDE 3, WDP2:0 2:0
abbrev pub bit_at : ℕ → ℕ → Bool
bit_at value place = eqb (value / place % 2) 1

-- p joins bit 5 above bits 2:0
abbrev pub wanted_p : ℕ → ℕ
wanted_p value = cond (bit_at value 32) 8 0 + value % 8

-- WDCE reads 1 "from a write of WDCE and WDE together to the next write, at most four CPU cycles on"
unfoldable pub is_open : Window → ℕ → Bool
is_open x cycle = x.wdce && leb cycle (x.since.0 + 4)

-- WDTCSR as read at a cycle
unfoldable pub value_of : Moving → ℕ → ℕ
value_of m cycle =
    cond m.control.wdif 128 0 + cond m.control.wdie 64 0 + cond (leb 8 m.control.wdp) 32 0
    + cond (is_open m.window cycle) 16 0 + cond m.control.wde 8 0 + m.control.wdp % 8

-- "WDE is cleared and the prescaler changed only by a write with WDCE clear while WDCE reads 1"
unfoldable pub takes : Window → ℕ → ℕ → Bool
takes x value cycle = is_open x cycle && not (bit_at value 16)

-- 17: "a write that would set p from 10 to 15"
unfoldable pub too_long : Window → ℕ → ℕ → Bool
too_long x value cycle = takes x value cycle && leb 10 (wanted_p value)

-- WDIF is cleared by a one, WDIE is as written; WDE and p are as written where the write takes them, else WDE can be set only
unfoldable pub control_to : Control → ℕ → Bool → Control
control_to c value taken = record {
  wdif = c.wdif && not (bit_at value 128);
  wdie = bit_at value 64;
  wde = cond taken (bit_at value 8) (c.wde || bit_at value 8);
  wdp = cond taken (wanted_p value) c.wdp;
}

-- a write of WDCE and WDE together opens the window, any other shuts it
unfoldable pub window_to : ℕ → ℕ → Window
window_to value cycle = cond (bit_at value 16 && bit_at value 8) (record { wdce = true; since = record { 0 = cycle } }) shut

-- "while stopped it stays 0"
unfoldable pub stopped_at : Moving → Moving
stopped_at m = count_to m (cond (running m) m.count 0)

-- a write; where it stops the watchdog, the count is 0
unfoldable pub written : Moving → ℕ → ℕ → Moving
written m value cycle = stopped_at (record { count = m.count; control = control_to m.control value (takes m.window value cycle); window = window_to value cycle })

-- WDR: the count starts anew
abbrev pub rewound : Moving → Moving
rewound m = count_to m 0

-- "serving the interrupt (no effect unless flag and enable are set)": the flag is cleared, and with WDE the enable too
unfoldable pub served : Moving → Moving
served m =
    cond (m.control.wdif && m.control.wdie)
    (record { count = m.count; control = record { wdif = false; wdie = not m.control.wde; wde = m.control.wde; wdp = m.control.wdp }; window = m.window })
    m
