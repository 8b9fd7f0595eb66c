-- A piece read line by line is the script fed on, line by line.
use Rattle.std.specs.Prelude.{Result, Option, Some, None, IfSome, ⊤}
use Prim.Native.Nat.{ℕ, ◌+◌, ◌-◌, ◌≤◌, ◌<◌}
use native.Mathlib.Omega.{arith}
use mathlib.Core.Bool.{Bool, true, false, cond, ◌&&◌, false≢true}
use borrow.Author.Tests.{ltb-true}
use lib.Dec.{ltb}
use mathlib.Core.List.{List, [], ◌∷◌, ◌++◌, foldl-append, append-nil, append_assoc}
use mathlib.Core.Path.{◌≡◌, refl, sym, ap, subst, ◌∙◌}
use lib.ListN.{length, take, drop}
use lib.Seq.{take-add, drop-drop}
use Rattle.words.specs.Numbers.{between}
use Rattle.linewise.specs.Claims.{Read, reading, feed, fed}
use Rattle.linewise.specs.Texts.{Text, going}
use Rattle.bench_lines.specs.declared.desk.Bench.{Bench}
use Rattle.bench_lines.specs.declared.desk.Desk.{Desk}
use Rattle.bench_lines.specs.declared.named.Later.{Later}
use Rattle.bench_lines.specs.declared.turns.Turned.{Turned}
use Rattle.bench_lines.specs.Named.{Lent, lent, Hears}
use Rattle.bench_lines.specs.Steps.{State, step_of, first_of, saying, so_far, Held, Turns}
use Rattle.bench_lines.specs.Claims.{left, Stepped}
use Rattle.bench_lines.proofs.Feeding.{cut-feeds}
use Rattle.bench_lines.proofs.Coding.{code-is-step}
use Rattle.session.specs.declared.settles.Fault.{Fault}
use Rattle.session.specs.Files.{asks_of, filed_step, Filed, filed, answer_of, file_of}
use Rattle.session.specs.Runs.{roomy_of, Rests, Leaves, Reads, Asks}
use Rattle.session.proofs.Showing.{step-leaves}

-- ---- the loop's test

-- there is more of the piece, and the page has room
pub goes_on : (i n : ℕ) (page : List ℕ) (t : Bool) → t ≡ roomy_of page → ltb i n && t ≡ true → (i < n) × (roomy_of page ≡ true)
goes_on i n page t e h = go (ltb i n) refl t refl h
  where
    go : (p : Bool) → ltb i n ≡ p → (q : Bool) → t ≡ q → p && q ≡ true → (i < n) × (roomy_of page ≡ true)
    go true f true k h = (ltb-true i n f, sym e ∙ k)
    go true f false k h = absurd (false≢true h)
    go false f q k h = absurd (false≢true h)

-- ---- what a line asks of the shelf

-- nothing
pub rests-none : (o : Option Later) (d : Desk) (line page room one two : List ℕ) → o ≡ None → Rests o d line page page room one two room one two d
rests-none o d line page room one two e = rw e (refl, refl, refl, refl, refl)

-- or something, which is worked
pub rests-some : (o : Option Later) (q : Later) (d : Desk) (line old new room one two room' one' two' : List ℕ) (r : Desk) → o ≡ Some q
    → Rests (Some q) d line old new room one two room' one' two' r → Rests o d line old new room one two room' one' two' r
rests-some o q d line old new room one two room' one' two' r e w = rw e w

-- ---- parts of a piece

pub between_none : (input : List ℕ) (start : ℕ) → between input start start ≡ []
between_none input start =
    let z : start - start ≡ 0 = omega arith in
    ap (λ (n : ℕ). take n (drop start input)) z

pub between-then : (input : List ℕ) (a b c : ℕ) → a ≤ b → b ≤ c → between input a c ≡ between input a b ++ between input b c
between-then input a b c h k =
    let e : c - a ≡ b - a + (c - b) = omega arith in
    let f : a + (b - a) ≡ b = omega arith in
    ap (λ (n : ℕ). take n (drop a input)) e
    ∙ take-add (b - a) (c - b) (drop a input)
    ∙ ap (λ (l : List ℕ). between input a b ++ take (c - b) l) (drop-drop (b - a) a input ∙ ap (λ (n : ℕ). drop n input) f)

-- ---- a line, by what it asks of the file

module _ (s : State) (line : List ℕ) (whys : List (Result ⊤ Fault)) where
  file-none : asks_of (step_of s line).bench ≡ false → file_of (filed s whys) line ≡ filed (step_of s line) whys
  file-none e = ap (λ (t : Bool). cond t (answer_of s (step_of s line) whys) (filed (step_of s line) whys)) e

  file-asked : (why : Result ⊤ Fault) → asks_of (step_of s line).bench ≡ true → file_of (filed s (why ∷ whys)) line ≡ filed (filed_step s line why) whys
  file-asked why e = ap (λ (t : Bool). cond t (answer_of s (step_of s line) (why ∷ whys)) (filed (step_of s line) (why ∷ whys))) e

-- ---- a piece before it is read

pub reads_none : (d : Desk) (l : Lent) (one two line page answers bytes input : List ℕ) (start : ℕ) → Held line bytes
    → Reads (left d.bench d.shelf l one two answers) bytes (between input start start) page d l one two line page
reads_none d l one two line page answers bytes input start h =
    let s = left d.bench d.shelf l one two answers in
    record {
      next = s;
      rest = bytes;
      feeds = λ whys. ap (fed file_of (reading (filed s whys) bytes)) (between_none input start);
      held = h;
      leaves = record { said = []; state = ap (left d.bench d.shelf l one two) (append-nil answers); shows = sym (append-nil page) };
    }

-- ---- a turn more

module _ (s : State) (bytes input : List ℕ) (start i : ℕ) (old : List ℕ) (d : Desk) (l : Lent) (one two line page : List ℕ)
    (x : Reads s bytes (between input start i) old d l one two line page) (a : start ≤ i) (h : i < length input) where
  -- the state where the turn begins
  abbrev pub here : State
  here = left d.bench d.shelf l one two (s.answers ++ x.leaves.said)

  -- the script fed on to there, and on
  on : (whys : List (Result ⊤ Fault)) (next : ℕ) → i ≤ next → fed file_of (reading (filed s whys) bytes) (between input start next) ≡ fed file_of (reading (filed here whys) x.rest) (between input i next)
  on whys next k =
      ap (fed file_of (reading (filed s whys) bytes)) (between-then input start i next a k)
      ∙ foldl-append (feed file_of) (reading (filed s whys) bytes) (between input start i) (between input i next)
      ∙ ap (λ (q : Read Filed). fed file_of q (between input i next)) (x.feeds whys ∙ ap (λ (q : State). reading (filed q whys) x.rest) (sym x.leaves.state))

  module _ (new room area items : List ℕ) (line' : Text) (t : Turned) (w : Turns d.bench l x.rest input i page new room area items line' t) (k : i ≤ t.next) where
    -- what was read of the line
    abbrev pub heard : List ℕ
    heard = so_far x.rest input i

    turned : (whys : List (Result ⊤ Fault)) (u : Bool) → t.ended ≡ u
        → fed file_of (reading (filed s whys) bytes) (between input start t.next) ≡ cond u (reading (file_of (filed here whys) heard) []) (reading (filed here whys) heard)
    turned whys u e =
        on whys t.next k
        ∙ ap (λ (n : ℕ). fed file_of (reading (filed here whys) x.rest) (between input i n)) w.cut.0
        ∙ cut-feeds Filed file_of (filed here whys) x.rest input i h
        ∙ ap (λ (v : Bool). cond v (reading (file_of (filed here whys) heard) []) (reading (filed here whys) heard)) (sym w.cut.1 ∙ e)

    -- what is held then
    kept : (u : Bool) → t.ended ≡ u → Held (going line') (cond u [] heard)
    kept u e = subst (λ (v : Bool). Held (going line') (cond v [] heard)) e w.kept

    -- the line did not end
    pub reads_next : t.ended ≡ false → Reads s bytes (between input start t.next) old d (lent room area items) one two (going line') new
    reads_next e =
        let hears = subst (λ (u : Bool). Hears (cond u (first_of d.bench heard l) (saying d.bench [] l)) page new room area items (record { bench = t.bench; later = t.later })) e w.hears in
        let same : new ≡ page = hears.leaves.says.puts.after in
        record {
          next = here;
          rest = heard;
          feeds = λ whys. turned whys false e;
          held = kept false e;
          leaves = record {
            said = x.leaves.said;
            state = ap (λ (m : Lent). left d.bench d.shelf m one two (s.answers ++ x.leaves.said)) hears.leaves.lent;
            shows = same ∙ x.leaves.shows;
          };
        }

    -- a line that asks something of the shelf did
    pub asked-ended : (q : Later) → t.later ≡ Some q → t.ended ≡ true
    asked-ended q f = go t.ended refl w.hears
      where
        go : (u : Bool) → t.ended ≡ u → Hears (cond u (first_of d.bench heard l) (saying d.bench [] l)) page new room area items (record { bench = t.bench; later = t.later }) → t.ended ≡ true
        go true e h = e
        go false e h = absurd (subst (λ (o : Option Later). IfSome o (λ _. ⊥)) (sym h.later ∙ f) tt)

    -- what it asks of the shelf is done
    module _ (last room' one' two' : List ℕ) (y : Desk) (v : Rests t.later (record { bench = t.bench; shelf = d.shelf }) line'.bytes new last room one two room' one' two' y) where
      -- the line did not end, and asks for nothing
      pub reads_on : t.ended ≡ false → Reads s bytes (between input start t.next) old y (lent room' area items) one' two' line'.bytes last
      reads_on e =
          let hears = subst (λ (u : Bool). Hears (cond u (first_of d.bench heard l) (saying d.bench [] l)) page new room area items (record { bench = t.bench; later = t.later })) e w.hears in
          let r = subst (λ (o : Option Later). Rests o (record { bench = t.bench; shelf = d.shelf }) line'.bytes new last room one two room' one' two' y) hears.later v in
          let same : last ≡ page = r.1 ∙ hears.leaves.says.puts.after in
          record {
            next = here;
            rest = heard;
            feeds = λ whys. turned whys false e;
            held = w.held;
            leaves = record {
              said = x.leaves.said;
              state =
                  ap (λ (q : Desk). left q.bench q.shelf (lent room' area items) one' two' (s.answers ++ x.leaves.said)) r.0
                  ∙ ap (λ (q : List ℕ). left t.bench d.shelf (lent q area items) one' two' (s.answers ++ x.leaves.said)) r.2
                  ∙ ap (λ (q : List ℕ). left t.bench d.shelf (lent room area items) q two' (s.answers ++ x.leaves.said)) r.3
                  ∙ ap (λ (q : List ℕ). left t.bench d.shelf (lent room area items) one q (s.answers ++ x.leaves.said)) r.4
                  ∙ ap (λ (b : Bench). left b d.shelf (lent room area items) one two (s.answers ++ x.leaves.said)) hears.leaves.says.bench
                  ∙ ap (λ (m : Lent). left d.bench d.shelf m one two (s.answers ++ x.leaves.said)) hears.leaves.lent;
              shows = same ∙ x.leaves.shows;
            };
          }

      -- the line ended
      stepped : t.ended ≡ true → Stepped here heard page last y.bench y.shelf (lent room' area items) one' two'
      stepped e = go t.later refl v
        where
          go : (o : Option Later) → t.later ≡ o → Rests o (record { bench = t.bench; shelf = d.shelf }) line'.bytes new last room one two room' one' two' y
              → Stepped here heard page last y.bench y.shelf (lent room' area items) one' two'
          go (Some q) f r = code-is-step.1 here x.rest input i page new room area items line' t q w f last room' one' two' y r
          go None f r =
              let z = code-is-step.0 here x.rest input i page new room area items line' t w e f in
              record {
                bytes = z.bytes;
                puts = rw r.1 z.puts;
                step =
                    ap (λ (q : Desk). left q.bench q.shelf (lent room' area items) one' two' (here.answers ++ z.bytes)) r.0
                    ∙ ap (λ (q : List ℕ). left t.bench d.shelf (lent q area items) one' two' (here.answers ++ z.bytes)) r.2
                    ∙ ap (λ (q : List ℕ). left t.bench d.shelf (lent room area items) q two' (here.answers ++ z.bytes)) r.3
                    ∙ ap (λ (q : List ℕ). left t.bench d.shelf (lent room area items) one q (here.answers ++ z.bytes)) r.4
                    ∙ z.step;
              }

      module _ (e : t.ended ≡ true) (g : roomy_of page ≡ true) where
        after : Leaves here (step_of here heard) page y (lent room' area items) one' two' last
        after = step-leaves here heard page last y (lent room' area items) one' two' (stepped e) g

        asked : asks_of (step_of here heard).bench ≡ asks_of y.bench
        asked = ap (λ (q : State). asks_of q.bench) (sym (stepped e).step)

        -- it asks nothing of the file
        pub reads-ended : asks_of y.bench ≡ false → Reads s bytes (between input start t.next) old y (lent room' area items) one' two' [] last
        reads-ended f = record {
          next = step_of here heard;
          rest = [];
          feeds = λ whys. turned whys true e ∙ ap (λ (q : Filed). reading q []) (file-none here heard whys (asked ∙ f));
          held = record { after = refl };
          leaves = record {
            said = x.leaves.said ++ after.said;
            state = ap (left y.bench y.shelf (lent room' area items) one' two') (sym (append_assoc s.answers x.leaves.said after.said)) ∙ after.state;
            shows = after.shows ∙ ap (λ (p : List ℕ). p ++ after.said) x.leaves.shows ∙ append_assoc old x.leaves.said after.said;
          };
        }

        -- or something
        pub asks-ended : asks_of y.bench ≡ true → Asks s bytes (between input start t.next) old (record { before = d; from = length page }) y (lent room' area items) one' two' [] last
        asks-ended f = record {
          was = here;
          text = heard;
          page = page;
          feeds = λ why whys. turned (why ∷ whys) true e ∙ ap (λ (z : Filed). reading z []) (file-asked here heard whys why (asked ∙ f));
          held = record { after = refl };
          from = refl;
          roomy = g;
          before = record { said = x.leaves.said; state = refl; shows = x.leaves.shows };
          after = after;
        }
