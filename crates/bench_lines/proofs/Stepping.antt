-- A line of any length, and what it asks of the shelf.
use Rattle.std.proofs.Common.{◌≡◌, ℕ, ◌<◌, ◌≤◌, Bool, true, false, cond, eqb, ltb, List, [], ◌∷◌, ◌++◌, length, take, sym, refl, ap, ◌∙◌, subst, arith, length-take, lt-ltb, Option, Some, None, IfSome}
use native.Mathlib.Decide.{dec_le}
use borrow.Author.Tests.{ltb-false}
use Rattle.words.specs.Words.{skip_of, find_of}
use Rattle.words.specs.Numbers.{between}
use Rattle.words.specs.declared.Unreadable.TheVariants as unreadable
use Rattle.page.specs.Page.{Puts, unreadable_of}
use Rattle.page.proofs.Lengths.{either}
use Rattle.linewise.specs.Lines.{cut_of}
use Rattle.linewise.specs.Claims.{reading, fed}
use Rattle.linewise.specs.declared.Reached.{Reached}
use Rattle.bench_lines.specs.declared.desk.Bench.{Bench}
use Rattle.bench_lines.specs.declared.named.Command.{Command}
use Rattle.bench_lines.specs.declared.named.Command.TheVariants as command
use Rattle.bench_lines.specs.declared.named.Later.{Later}
use Rattle.bench_lines.specs.Desk.{Sound}
use Rattle.bench_lines.specs.Named.{Lent, lent, Hears, Asking, later_of, commanded_of, command_of, worded_of}
use Rattle.bench_lines.specs.Steps.{State, Held, counted, ended_by, heard_of, first_of, step_of, plain, so_far}
use Rattle.bench_lines.proofs.Feeding.{held_whole, held_over, cut-feeds}

-- ---- what a line asks of the shelf lies in it

abbrev Within : ℕ → Asking → Type 0
Within n x = IfSome x.later (λ q. q.end ≤ n)

later-within : (c : Command) (at n : ℕ) → IfSome (later_of c at n) (λ q. q.end ≤ n)
unfolding later_of
later-within (command.Timer name) at n = tt
later-within command.Config at n = tt
later-within command.Preset at n = tt
later-within command.Pin at n = tt
later-within command.Wdt at n = tt
later-within command.Writes at n = tt
later-within command.Item at n = tt
later-within command.Door at n = tt
later-within command.Log at n = tt
later-within command.Record at n = tt
later-within (command.Shelf d) at n = omega arith

commanded-within : (b : Bench) (line : List ℕ) (at : ℕ) (c : Option Command) (l : Lent) → Within (length line) (commanded_of b line at c l)
unfolding commanded_of
commanded-within b line at (Some c) l = later-within c at (length line)
commanded-within b line at None l = tt

ended-within : (x : Asking) (later : Option Later) (n : ℕ) → x.later ≡ later → Within n x → Within n (ended_by x later)
unfolding ended_by
ended-within x None n e h = tt
ended-within x (Some q) n e h = h

heard-within : (b : Bench) (line : List ℕ) (l : Lent) → Within (length line) (heard_of b line l)
unfolding heard_of
heard-within b line l =
    let x = worded_of b line (skip_of line 0) l in
    let at = find_of line (skip_of line 0) 32 in
    either (Within (length line)) (eqb (skip_of line 0) (length line)) tt
    (ended-within x x.later (length line) refl (commanded-within b line at (command_of (between line (skip_of line 0) at)) l))

widened : (o : Option Later) (n m : ℕ) → n ≤ m → IfSome o (λ q. q.end ≤ n) → IfSome o (λ q. q.end ≤ m)
widened None n m k h = tt
widened (Some q) n m k h = omega arith

pub first_within : (b : Bench) (line : List ℕ) (l : Lent) → Within (length line) (first_of b line l)
unfolding first_of
first_within b line l =
    let p = plain line in
    let n = length-take (find_of line 0 35) line in
    either (Within (length line)) (ltb 500 (length line)) tt (widened (heard_of (counted b) p l).later (length p) (length line) (omega arith) (heard-within (counted b) p l))

short-long : (b : Bench) (line : List ℕ) (l : Lent) → ltb 500 (length line) ≡ true → Within 500 (first_of b line l)
unfolding first_of
short-long b line l h = rw h tt

short-plain : (b : Bench) (line : List ℕ) (l : Lent) → ltb 500 (length line) ≡ false → Within 500 (first_of b line l)
unfolding first_of
short-plain b line l h =
    let p = plain line in
    rw h (widened (heard_of (counted b) p l).later (length p) 500 (omega (arith, length-take (find_of line 0 35) line, ltb-false 500 (length line) h)) (heard-within (counted b) p l))

-- it lies in what can be read of a line
pub first_short : (b : Bench) (line : List ℕ) (l : Lent) → Within 500 (first_of b line l)
first_short b line l = go (ltb 500 (length line)) refl
  where
    go : (t : Bool) → ltb 500 (length line) ≡ t → Within 500 (first_of b line l)
    go true h = short-long b line l h
    go false h = short-plain b line l h

-- a line that is too long asks for nothing
first-none : (b : Bench) (line : List ℕ) (l : Lent) → 500 < length line → (first_of b line l).later ≡ None
unfolding first_of
first-none b line l h = rw (lt-ltb 500 (length line) h) refl

-- a line that is too long, or one that is read up to its comment
module _ (b c : Bench) (line : List ℕ) (e : c ≡ counted b) where
  pub step_long : (page new room area items : List ℕ) → ltb 500 (length line) ≡ true → Sound c → Puts page new (unreadable_of c.line unreadable.TooLong ++ 10 ∷ [])
      → Hears (first_of b line (lent room area items)) page new room area items (record { bench = c; later = None })
  unfolding first_of
  step_long page new room area items h s p =
      rw h (record { leaves = record { says = record { bench = e; puts = subst (λ (x : Bench). Puts page new (unreadable_of x.line unreadable.TooLong ++ 10 ∷ [])) e p; sound = s }; lent = refl }; later = refl })

  pub step_plain : (l : Lent) → ltb 500 (length line) ≡ false → first_of b line l ≡ heard_of c (plain line) l
  unfolding first_of
  step_plain l h = rw (h, ← e) refl

-- ---- a line, by what is held of it

module _ (line bytes : List ℕ) (h : Held line bytes) (b : Bench) (l : Lent) where
  -- it is heard as the line itself
  first_long : 500 < length line → 500 < length bytes → first_of b line l ≡ first_of b bytes l
  unfolding first_of
  first_long k m = rw (lt-ltb 500 (length line) k, lt-ltb 500 (length bytes) m) refl

  pub first_held : first_of b line l ≡ first_of b bytes l
  first_held = go (dec_le (length line) 500)
    where
      go : Dec (length line ≤ 500) → first_of b line l ≡ first_of b bytes l
      go (yes q) = ap (λ (x : List ℕ). first_of b x l) (held_whole line bytes h q)
      go (no q) = first_long (omega arith) (held_over line bytes h (omega arith))

  -- and what it asks for stands in it
  pub first_asked : IfSome (first_of b line l).later (λ q. take q.end line ≡ take q.end bytes)
  first_asked = go (dec_le (length line) 500)
    where
      same : (o : Option Later) → line ≡ bytes → IfSome o (λ q. take q.end line ≡ take q.end bytes)
      same None e = tt
      same (Some q) e = ap (take q.end) e

      go : Dec (length line ≤ 500) → IfSome (first_of b line l).later (λ q. take q.end line ≡ take q.end bytes)
      go (yes q) = same (first_of b line l).later (held_whole line bytes h q)
      go (no q) = rw (first-none b line l (omega arith)) tt

-- ---- a piece

-- how far a piece is read
pub turn_feeds : (s : State) (bytes input : List ℕ) (start : ℕ) (r : Reached) (t : Bool) → start < length input → r ≡ cut_of input start → r.ended ≡ t
    → fed step_of (reading s bytes) (between input start r.at) ≡ cond t (reading (step_of s (so_far bytes input start)) []) (reading s (so_far bytes input start))
turn_feeds s bytes input start r t h e k =
    ap (λ (n : ℕ). fed step_of (reading s bytes) (between input start n)) (ap (λ (x : Reached). x.at) e)
    ∙ cut-feeds State step_of s bytes input start h
    ∙ ap (λ (u : Bool). cond u (reading (step_of s (so_far bytes input start)) []) (reading s (so_far bytes input start))) (ap (λ (x : Reached). x.ended) (sym e) ∙ k)
