-- Compare outputs, and the drives recorded on change (01, "Outputs and pins").
-- The sheet: "Compare Match Output Unit"; "Force Output Compare".
use Rattle.std.specs.Prelude.{ℕ, ◌+◌, ◌*◌, ◌%◌, Bool, true, false, cond, not, ◌&&◌, List, [], ◌∷◌, ◌++◌, ◌≡◌, length, get_or, set, eqb, leb}
use Rattle.std.specs.Bool.{beq}
use Rattle.std.proofs.lemmas.List.Edits.{sets}
use Rattle.records.specs.declared.Entry.{Entry}
use Rattle.records.specs.Records.{records_of}
use Rattle.config.specs.declared.Wire.{Wire}
use Rattle.wave.specs.Kinds.{F, C}
use Rattle.tick.specs.declared.happenings.Events.{Events}
use Rattle.tick.specs.declared.outputs.Outputs.{Outputs}
use Rattle.tick.specs.declared.setting.Channel.{Channel}
use Rattle.tick.specs.declared.setting.Moving.{Moving}
use Rattle.tick.specs.declared.setting.Setting.{Setting}
use Rattle.tick.specs.declared.setting.Drives.{Drives}

-- 1 for true
abbrev pub bit : Bool → ℕ
bit true = 1
bit false = 0

-- kind 0: pin (8), enable (1), value (1), six zeros (01, "The record area")
unfoldable pub pin_entry : ℕ → ℕ → ℕ → Entry
pin_entry pin enable value = record { kind = 0; body = pin * 256 + enable % 2 * 128 + value % 2 * 64 }

-- the outputs on their way through a call: levels, drives last recorded, and the entries so far
pub record Outs : Type 0 where
  pub oc : List ℕ
  pub drives : Drives
  pub log : List Entry

-- the drives with one channel's recorded
abbrev pub drive_to : Drives → ℕ → ℕ → ℕ → Drives
drive_to d ch enable value = record { enables = set d.enables ch enable; values = set d.values ch value }

-- a drive is recorded if it is another than the one last recorded
unfoldable pub recorded : ℕ → ℕ → ℕ → ℕ → Outs → Outs
recorded pin ch enable value o =
    cond (eqb (get_or o.drives.enables ch 0) enable && eqb (get_or o.drives.values ch 0) value)
    o
    (record { oc = o.oc; drives = drive_to o.drives ch enable value; log = o.log ++ (pin_entry pin enable value ∷ []) })

-- the channel's enable and level go to its pin, if it has one
unfoldable pub on_pin : Wire → ℕ → ℕ → Outs → Outs
on_pin w ch enable o = cond w.present (recorded w.pin ch enable (get_or o.oc ch 0) o) o

-- the channel's drive: its enable and its level
abbrev pub applied : Channel → ℕ → Outs → Outs
applied c ch o = on_pin c.wire ch (bit c.enabled) o

-- the channel's output takes a level
unfoldable pub acted : Channel → ℕ → ℕ → Outs → Outs
acted c ch level o = applied c ch (record { oc = set o.oc ch level; drives = o.drives; log = o.log })

-- the level that a match gives: COM 1 toggles; in N, C, F 2 clears and 3 sets; in P and Q 2 clears rising and sets falling, 3 the reverse
unfoldable pub level_of : Channel → ℕ → ℕ → Bool → ℕ
level_of c kind old rises =
    cond (eqb c.comx 1) (bit (eqb old 0))
    (cond (leb kind F) (bit (eqb c.comx 3))
    (bit (not (beq (eqb c.comx 2) rises))))

-- a match of the channel, on its output
unfoldable pub matched : ℕ → Channel → ℕ → Bool → Bool → Outs → Outs
matched kind c ch hit rises o = cond (hit && c.enabled) (acted c ch (level_of c kind (get_or o.oc ch 0) rises) o) o

-- the channel at BOTTOM in F: 2 sets and 3 clears
unfoldable pub bottomed : Channel → ℕ → Outs → Outs
bottomed c ch o = cond (leb 2 c.comx) (acted c ch (bit (eqb c.comx 2)) o) o

-- the outputs after the matches of three channels, A, B, C
unfoldable pub matches_of : ℕ → Channel → Channel → Channel → Events → Outs → Outs
matches_of kind a b c e o = matched kind c 2 e.c e.rises (matched kind b 1 e.b e.rises (matched kind a 0 e.a e.rises o))

-- the outputs of three channels at BOTTOM, A, B, C
unfoldable pub bottoms_of : Channel → Channel → Channel → Outs → Outs
bottoms_of a b c o = bottomed c 2 (bottomed b 1 (bottomed a 0 o))

-- a tick's matches
abbrev pub matches : Setting → Events → Outs → Outs
matches s e o = matches_of s.wave.kind s.a s.b s.c e o

-- a tick's outputs at BOTTOM
abbrev pub bottoms : Setting → Outs → Outs
bottoms s o = bottoms_of s.a s.b s.c o

-- all outputs of a tick: the matches, then in F at TOP the BOTTOM outputs
unfoldable pub outputs : Setting → Events → Outs → Outs
outputs s e o = cond e.bottom (bottoms s (matches s e o)) (matches s e o)

-- the outputs before a tick
abbrev pub outs_of : Moving → Outs
outs_of m = record { oc = m.oc; drives = m.drives; log = [] }

-- the code's outputs, with nothing recorded yet
abbrev pub begun : Outputs → Outs
begun r = record { oc = r.oc; drives = r.drives; log = [] }

-- what the code leaves of outputs: their levels and drives, and their records in the area from a place on
pub record Wrote (o : Outs) (cycle at : ℕ) (before : List ℕ) (r : Outputs) (after : List ℕ) : Type 0 where
  pub oc : r.oc ≡ o.oc
  pub drives : r.drives ≡ o.drives
  pub to : r.to ≡ at + length (records_of cycle o.log)
  pub area : after ≡ sets before at (records_of cycle o.log)

-- the drives reapplied, A, B, C
unfoldable pub reapplied : Setting → Outs → Outs
reapplied s o = applied s.c 2 (applied s.b 1 (applied s.a 0 o))

-- force strobes act only in N and C, without a flag
unfoldable pub strobed : Setting → Events → Outs → Outs
strobed s e o = cond (leb s.wave.kind C) (matches s e o) o
