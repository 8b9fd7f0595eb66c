-- A rising count's events, reckoned from what no tick changes (01, "Count, direction, next event").
-- The sheet: nothing of its own, it is reckoned from Count and Tick; Laws tells that it is the same.
use Rattle.std.specs.Prelude.{◌≡◌, ℕ, ◌+◌, ◌*◌, min, Bool, true, false, cond, not, ◌&&◌, ◌||◌, leb, List, [], ◌∷◌, ◌++◌, ◌==◌, bit_and, bit_or, nat_eq, nat_le, slice_index}
use Rattle.records.specs.declared.Entry.{Entry}
use Rattle.records.specs.Records.{only}
use Rattle.wave.specs.Kinds.{C, F, A, I}
use Rattle.wave.specs.Distance.{space, ahead}
use Rattle.tick.specs.declared.setting.Channel.{Channel}
use Rattle.tick.specs.declared.setting.Moving.{Moving}
use Rattle.tick.specs.declared.setting.Setting.{Setting}
use Rattle.tick.specs.Outputs.{Outs, matched, bottoms_of}
use Rattle.tick.specs.Tick.{line, trigger_entry}
use Rattle.scene.specs.declared.state.Scene.{Scene}

-- the count rises whatever its direction, and no write blocks a match
pub record Rising (s : Setting) (m : Moving) : Type 0 where
  pub kind : leb s.wave.kind F ≡ true
  pub free : m.counter.blocked ≡ false

-- the flags of a setting are apart, and a unit has one exactly where it is there (01, "Calls turned away": the flags' rule)
pub record Apart (s : Setting) : Type 0 where
  pub tov : nat_eq s.tov 0 ≡ false
  pub a : s.wave.a ≡ not (s.a.flag == 0)
  pub b : s.wave.b ≡ not (s.b.flag == 0)
  pub c : s.wave.c ≡ not (s.c.flag == 0)
  pub icf : s.capture ≡ not (s.icf == 0)
  pub tov-a : bit_and s.tov s.a.flag ≡ 0
  pub tov-b : bit_and s.tov s.b.flag ≡ 0
  pub tov-c : bit_and s.tov s.c.flag ≡ 0
  pub tov-icf : bit_and s.tov s.icf ≡ 0
  pub a-b : bit_and s.a.flag s.b.flag ≡ 0
  pub a-c : bit_and s.a.flag s.c.flag ≡ 0
  pub a-icf : bit_and s.a.flag s.icf ≡ 0
  pub b-c : bit_and s.b.flag s.c.flag ≡ 0
  pub b-icf : bit_and s.b.flag s.icf ≡ 0
  pub c-icf : bit_and s.c.flag s.icf ≡ 0

-- may a channel drive its pin: in a match, or at BOTTOM
abbrev pub drives_pin : Channel → Bool
drives_pin c = c.enabled || nat_le 2 c.comx

-- a setting's scene
unfoldable pub scene_of : Setting → Scene
scene_of s = record {
  max = s.wave.max;
  buffer = s.buffer;
  kind = s.wave.kind;
  fast = (s.wave.kind == F);
  ends = nat_le C s.wave.kind;
  follows = (s.wave.source == A);
  pinned = drives_pin s.a || drives_pin s.b || drives_pin s.c;
  pa = s.wave.a;
  pb = s.wave.b;
  pc = s.wave.c;
  fa = s.a.flag;
  fb = s.b.flag;
  fc = s.c.flag;
  tov = s.tov;
  icf = s.icf;
  capt = cond (s.wave.source == I && s.capture) s.icf 0;
  timsk = s.timsk;
  id = s.id;
  a = s.a;
  b = s.b;
  c = s.c;
}

-- ticks before a compare is met, if it lies ahead, else all there are
abbrev pub nearer_of : Bool → ℕ → ℕ → ℕ → ℕ
nearer_of present count compare all = min all (ahead present false count compare all)

-- quiet ticks before the next event's, at a count and a TOP
unfoldable pub climb_at : Scene → ℕ → ℕ → List ℕ → ℕ
climb_at s count top ocr =
    nearer_of s.pa count (slice_index ocr 0)
    (nearer_of s.pb count (slice_index ocr 1)
    (nearer_of s.pc count (slice_index ocr 2)
    (space false count top s.max)))

-- the count after an event's tick: 0 from TOP but in N, and from MAX
unfoldable pub after_at : Scene → ℕ → ℕ → ℕ
after_at s count top = cond ((count == top && s.ends) || count == s.max) 0 (count + 1)

-- TOP once the compares are loaded
unfoldable pub limit_at : Scene → ℕ → ℕ
limit_at s top = cond s.follows (slice_index s.buffer 0) top

-- is a bit among others
unfoldable pub on : ℕ → ℕ → Bool
on bits mask = not (bit_and bits mask == 0)

-- the TIFR bits that a tick at a count raises: TOV at TOP in F, else at MAX
unfoldable pub raised_at : Scene → ℕ → ℕ → List ℕ → ℕ
raised_at s count top ocr =
    bit_or (bit_or (bit_or (bit_or
    (cond (cond s.fast (count == top) (count == s.max)) s.tov 0)
    (cond (count == slice_index ocr 0) s.fa 0))
    (cond (count == slice_index ocr 1) s.fb 0))
    (cond (count == top) s.capt 0))
    (cond (count == slice_index ocr 2) s.fc 0)

-- lines overflow, A, B, capture, C, then three zeros
unfoldable pub lines_of : Scene → ℕ → ℕ
lines_of s tifr =
    line (bit_and tifr s.timsk) s.tov * 128
    + line (bit_and tifr s.timsk) s.fa * 64
    + line (bit_and tifr s.timsk) s.fb * 32
    + line (bit_and tifr s.timsk) s.icf * 16
    + line (bit_and tifr s.timsk) s.fc * 8

-- kind 1: TIFR bits raised (8), then the lines (5), three zeros (01, "The record area")
abbrev pub flag_of : Scene → ℕ → ℕ → Entry
flag_of s up tifr = record { kind = 1; body = up * 256 + lines_of s tifr }

-- the flag record and the triggers 1 to 4 of the bits raised, if there are any
unfoldable pub told_of : Scene → ℕ → ℕ → List Entry
told_of s up tifr =
    cond (up == 0) []
    (flag_of s up tifr ∷ only (on up s.fa) (trigger_entry 1 s.id)
    ++ only (on up s.fb) (trigger_entry 2 s.id)
    ++ only (on up s.tov) (trigger_entry 3 s.id)
    ++ only (on up s.icf) (trigger_entry 4 s.id))

-- the outputs after the matches whose bits are raised, A, B, C
unfoldable pub matched_of : Scene → ℕ → Outs → Outs
matched_of s up o =
    matched s.kind s.c 2 (on up s.fc) true
    (matched s.kind s.b 1 (on up s.fb) true
    (matched s.kind s.a 0 (on up s.fa) true o))

-- and then at BOTTOM
unfoldable pub driven_of : Scene → ℕ → Bool → Outs → Outs
driven_of s up bottom o = cond bottom (bottoms_of s.a s.b s.c (matched_of s up o)) (matched_of s up o)
