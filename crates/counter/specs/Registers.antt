-- Registers: what an address holds, what reading it yields, what writing it does (01, "Registers and capture").
-- The sheet: "Accessing 16-bit Registers"; "Reusing the Temporary High Byte Register"; "Compare Match Blocking by TCNT1 Write"; "Force Output Compare"; "Register Description".
use Rattle.std.specs.Prelude.{ℕ, ◌+◌, ◌*◌, ◌/◌, ◌%◌, Bool, true, false, cond, not, ◌&&◌, ◌||◌, get_or, set, eqb, leb}
use Rattle.std.specs.Int.Bits.{bit_and}
use Rattle.config.specs.declared.Config.{Config}
use Rattle.config.specs.Config.{split, bare}
use Rattle.wave.specs.Kinds.{C}
use Rattle.tick.specs.declared.happenings.Events.{Events}
use Rattle.tick.specs.Outputs.{Outs, outs_of, reapplied, strobed}
use Rattle.counter.specs.declared.state.Timer.{Timer}
use Rattle.counter.specs.Logs.{Noted, silent}
use Rattle.counter.specs.Modes.{mode_of, kind_at}
use Rattle.counter.specs.Parts.{registers_to, compares_to, outs_to}
use Rattle.counter.specs.Setting.{setting_of, moving_of}

-- TEMP takes a byte
abbrev pub temp_to : Timer → ℕ → Timer
temp_to t temp = registers_to t (record { tccra = t.registers.tccra; tccrb = t.registers.tccrb; icr = t.registers.icr; temp = temp })

-- ICRn takes a number, in every mode
abbrev pub icr_to : Timer → ℕ → Timer
icr_to t icr = registers_to t (record { tccra = t.registers.tccra; tccrb = t.registers.tccrb; icr = icr; temp = t.registers.temp })

-- TCNTn takes a count, and the next match is blocked; no count is made
abbrev pub count_to : Timer → ℕ → Timer
count_to t count = record { config = t.config; counter = record { count = count; direction = t.counter.direction; blocked = true; odometer = t.counter.odometer }; ocr = t.ocr; buffer = t.buffer; oc = t.oc; drives = t.drives; registers = t.registers; flags = t.flags; clock = t.clock; halts = t.halts }

-- N and C take compares at once
unfoldable pub immediate : Timer → Bool
immediate t = leb (kind_at t.config.wide (mode_of t)) C

-- a compare takes a number in its buffer, and in N and C in the active value at once
unfoldable pub compare_to : Timer → ℕ → ℕ → Timer
compare_to t ch n = compares_to t (cond (immediate t) (set t.ocr ch n) t.ocr) (set t.buffer ch n)

-- ---- reading

-- the number behind a register of two bytes: places 0 and 1 are TCNTn, 2 to 7 the compares' buffers, 8 and 9 ICRn
unfoldable pub word_of : Timer → ℕ → ℕ
word_of t place =
    cond (leb place 1) t.counter.count
    (cond (leb place 3) (get_or t.buffer 0 0)
    (cond (leb place 5) (get_or t.buffer 1 0)
    (cond (leb place 7) (get_or t.buffer 2 0) t.registers.icr)))

-- the single layout packs WGM0 in bit 6, COM in 5:4, WGM1 in 3, clock in 2:0
unfoldable pub packed : Timer → ℕ
packed t = t.registers.tccra % 2 * 64 + t.registers.tccra / 64 * 16 + t.registers.tccra / 2 % 2 * 8 + t.registers.tccrb % 8

-- places 10 and 11 are the control registers; a force register reads 0
unfoldable pub control_of : Timer → ℕ → ℕ
control_of t place = cond (eqb place 10) (cond (split t.config.layout) t.registers.tccra (packed t)) (cond (eqb place 11) t.registers.tccrb 0)

-- a high byte of a register of two
abbrev pub is_high : ℕ → Bool
is_high place = leb place 9 && eqb (place % 2) 1

-- a register's byte as it stands
unfoldable pub peeked : Timer → ℕ → ℕ
peeked t place = cond (leb place 9) (cond (eqb (place % 2) 1) (word_of t place / 256 % 256) (word_of t place % 256)) (control_of t place)

-- the high bytes of TCNTn and ICRn read as TEMP; a compare's bytes pass TEMP by (02, 2.5)
unfoldable pub read_value : Timer → ℕ → ℕ
read_value t place = cond (eqb place 1 || eqb place 9) t.registers.temp (peeked t place)

-- and the low bytes of TCNTn and ICRn fill TEMP, in a wide timer
unfoldable pub read_timer : Timer → ℕ → Timer
read_timer t place = cond ((eqb place 0 || eqb place 8) && t.config.wide) (temp_to t (word_of t place / 256 % 256)) t

-- ---- writing

-- a low byte commits TEMP with it, in a wide timer
unfoldable pub committed : Timer → ℕ → ℕ
committed t v = cond t.config.wide (t.registers.temp * 256 + v) v

-- a low byte written, by the register's place
unfoldable pub commit : Timer → ℕ → ℕ → Timer
commit t place v =
    cond (leb place 1) (count_to t (committed t v))
    (cond (leb place 3) (compare_to t 0 (committed t v))
    (cond (leb place 5) (compare_to t 1 (committed t v))
    (cond (leb place 7) (compare_to t 2 (committed t v)) (icr_to t (committed t v)))))

-- a control write stores, which takes the new clock
unfoldable pub stored : Timer → ℕ → ℕ → Timer
stored t a b = registers_to t (record { tccra = a; tccrb = b; icr = t.registers.icr; temp = t.registers.temp })

-- then all buffered compares become the active ones if the mode is now N or C
unfoldable pub configured : Timer → ℕ → ℕ → Timer
configured t a b = compares_to (stored t a b) (cond (immediate (stored t a b)) t.buffer t.ocr) t.buffer

-- the channels that a byte's force bits name, as matches without a flag
abbrev pub forced_by : Config → ℕ → Events
forced_by c v = record { a = not (eqb (bit_and v c.a.force) 0); b = not (eqb (bit_and v c.b.force) 0); c = c.c.present && not (eqb (bit_and v c.c.force) 0); top = false; zero = false; overflow = false; capture = false; load = false; bottom = false; rises = false }

-- the drives reapplied where asked, and last a force strobe
unfoldable pub driven_by : Timer → Bool → ℕ → Outs
driven_by t again v = strobed (setting_of t) (forced_by t.config v) (cond again (reapplied (setting_of t) (outs_of (moving_of t))) (outs_of (moving_of t)))

-- the timer and the records after its drives and a strobe
unfoldable pub driven : Timer → Bool → ℕ → Noted
driven t again v = record { timer = outs_to t (driven_by t again v); log = (driven_by t again v).log }

-- stored masks: TCCRnA F3 (FF with channel C); the single layout unpacks COM and WGM, without WGM none is kept
unfoldable pub stored_a : Config → ℕ → ℕ → ℕ
stored_a c layout v =
    cond (eqb layout 0) (cond c.c.present v (bit_and v 0xF3))
    (cond (eqb layout 1) (v / 16 % 4 * 64 + v / 64 % 2 + v / 8 % 2 * 2) 0)

-- TCCRnB DF wide, 0F narrow
unfoldable pub stored_b : Config → ℕ → ℕ
stored_b c v = cond c.wide (bit_and v 0xDF) (bit_and v 0x0F)

-- the force bits of a byte written to a control register, where they stand in it
unfoldable pub strobes : Config → ℕ → ℕ → ℕ
strobes c address v = cond (eqb c.foc address && not (bare c.layout)) v 0

-- TCCRnA written, or TCCRn of a single layout: store, compares, drives, strobe
unfoldable pub written_a : Timer → ℕ → Noted
written_a t v =
    driven (configured t (stored_a t.config t.config.layout v) (cond (split t.config.layout) t.registers.tccrb (v % 8)))
    true (strobes t.config t.config.tccra v)

-- TCCRnB written: store, compares, drives, strobe
unfoldable pub written_b : Timer → ℕ → Noted
written_b t v = driven (configured t t.registers.tccra (stored_b t.config v)) true (strobes t.config t.config.tccrb v)

-- a byte written to the register at a place: a high byte touches only TEMP
unfoldable pub written : Timer → ℕ → ℕ → Noted
written t place v =
    cond (leb place 9) (silent (cond (eqb (place % 2) 1) (temp_to t v) (commit t place v)))
    (cond (eqb place 10) (written_a t v) (cond (eqb place 11) (written_b t v) (driven t false v)))
