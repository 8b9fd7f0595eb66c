-- The claims of specs/Claims.antt.
use Prim.Native.Nat.{ℕ, zero, suc, ◌+◌, ◌*◌, ◌-◌, ◌/◌, ◌%◌, ◌≤◌, ◌<◌}
use native.Mathlib.Omega.{arith}
use native.Mathlib.Decide.{dec_le}
use native.Mathlib.Nat.{not-suc-le-zero}
use mathlib.Core.Path.{◌≡◌, refl, sym, ap, ◌∙◌}
use mathlib.Core.Bool.{Bool, true, false, cond, ◌&&◌}
use mathlib.Core.List.{List, [], ◌∷◌, ◌++◌, append_assoc, append-nil}
use Rattle.std.specs.Prelude.{Option, None, Some}
use lib.Dec.{eqb, ltb}
use lib.ListN.{length, get_or}
use lib.Seq.{append_snoc}
use borrow.Author.Tests.{lt-ltb, le-ltb, eqb-true, ne_eqb}
use Rattle.records.specs.Records.{record_at, kind_in, cycle_in, body_in, number_of}
use Rattle.pieces.specs.Pieces.{wholes, part_after, Bytes, joined}
use Rattle.pieces.proofs.Cuts.{part-append, wholes-append}
use Rattle.pieces.proofs.Claims.{of-a-log}
use Rattle.verdict.specs.Changes.{Change, state_of, change_in, changes_in, changes_of, changes, has}
use Rattle.verdict.specs.Refusal.{formed, before, first_fault, refused_at, first_refusal, refusal_of}
use Rattle.verdict.specs.Check.{fresh, pins_in}
use Rattle.verdict.specs.Claims.{checked_all}
use Rattle.verdict.proofs.Claims.{changes-append, changes-in, by-pieces}
use Rattle.dump.specs.declared.writer.Writer.{Writer}
use Rattle.figures.specs.Figures.{codes, text, digits, decimal}
use Rattle.dump.specs.Dump.{var_line, var_lines, time_line, value_line, change_lines, header, dump_of}
use Rattle.dump.specs.Pieces.{vars_of, header_of, begun, written_by, after}
use Rattle.dump.specs.Claims.{written_all, passes, ByPieces, lines_in, number_in, read_lines, read_back, ReadsBack, Example}
use Rattle.dump.proofs.Lines.{lines-append, last-append}

-- ---- lines

-- is no byte a line feed
abbrev no_feed : List ℕ → Bool
no_feed [] = true
no_feed (b ∷ bs) = cond (eqb b 10) false (no_feed bs)

feed-append : (a b : List ℕ) → no_feed (a ++ b) ≡ no_feed a && no_feed b
feed-append [] b = refl
feed-append (x ∷ a) b = go (eqb x 10) (feed-append a b)
  where
    go : (t : Bool) → no_feed (a ++ b) ≡ no_feed a && no_feed b → cond t false (no_feed (a ++ b)) ≡ cond t false (no_feed a) && no_feed b
    go true e = refl
    go false e = e

lines-through : (begun line rest : List ℕ) → no_feed line ≡ true → lines_in begun (line ++ 10 ∷ rest) ≡ (begun ++ line) ∷ lines_in [] rest
unfolding lines_in
lines-through begun [] rest h = rw (append-nil begun)
lines-through begun (b ∷ line) rest h = go (eqb b 10) h (lines-through (begun ++ b ∷ []) line rest)
  where
    go : (t : Bool) → cond t false (no_feed line) ≡ true → (no_feed line ≡ true → lines_in (begun ++ b ∷ []) (line ++ 10 ∷ rest) ≡ (begun ++ b ∷ [] ++ line) ∷ lines_in [] rest)
        → cond t (begun ∷ lines_in [] (line ++ 10 ∷ rest)) (lines_in (begun ++ b ∷ []) (line ++ 10 ∷ rest)) ≡ (begun ++ b ∷ line) ∷ lines_in [] rest
    go true q e = let z : ◌≡◌ {A = ℕ} 0 1 = cc in absurd (omega arith)
    go false q e = e q ∙ ap (λ (l : List ℕ). l ∷ lines_in [] rest) (append_snoc begun b line)

read-line : (time : ℕ) (line rest : List ℕ) → no_feed line ≡ true → read_lines time (lines_in [] (line ++ 10 ∷ [] ++ rest)) ≡ read_lines time (line ∷ lines_in [] rest)
read-line time line rest h = ap (λ (l : List ℕ). read_lines time (lines_in [] l)) (append_assoc line (10 ∷ []) rest) ∙ ap (read_lines time) (lines-through [] line rest h)

-- ---- decimal digits

number_append : (n : ℕ) (a b : List ℕ) → number_in n (a ++ b) ≡ number_in (number_in n a) b
unfolding number_in
number_append n [] b = refl
number_append n (d ∷ a) b = number_append (10 * n + (d - 48)) a b

number_digits : (j n : ℕ) → n < j → number_in 0 (digits j n) ≡ n
unfolding digits number_in
number_digits zero n h = absurd (not-suc-le-zero h)
number_digits (suc j) n h = go (number_digits j (n / 10)) (dec_le 10 n)
  where
    go : (n / 10 < j → number_in 0 (digits j (n / 10)) ≡ n / 10) → Dec (10 ≤ n) → number_in 0 (cond (ltb n 10) [] (digits j (n / 10)) ++ (48 + n % 10) ∷ []) ≡ n
    go rest (yes q) = let r = rest (omega arith) in rw (le-ltb n 10 q, number_append 0 (digits j (n / 10)) ((48 + n % 10) ∷ [])) (omega arith)
    go rest (no q) = rw (lt-ltb n 10 (omega arith)) (omega arith)

number-decimal : (n : ℕ) → number_in 0 (decimal n) ≡ n
unfolding decimal
number-decimal n = number_digits (suc n) n (omega arith)

feed-digits : (j n : ℕ) → no_feed (digits j n) ≡ true
unfolding digits
feed-digits zero n = refl
feed-digits (suc j) n = go (ltb n 10) (feed-digits j (n / 10))
  where
    last : no_feed ((48 + n % 10) ∷ []) ≡ true
    last = rw (ne_eqb (48 + n % 10) 10 (λ e. omega arith))

    go : (t : Bool) → no_feed (digits j (n / 10)) ≡ true → no_feed (cond t [] (digits j (n / 10)) ++ (48 + n % 10) ∷ []) ≡ true
    go true e = last
    go false e = rw (feed-append (digits j (n / 10)) ((48 + n % 10) ∷ []), e) last

feed-decimal : (n : ℕ) → no_feed (decimal n) ≡ true
unfolding decimal
feed-decimal n = feed-digits (suc n) n

-- ---- the lines that declare

var-read : (time pin : ℕ) (rest : List ℕ) → read_lines time (lines_in [] (var_line pin ++ rest)) ≡ read_lines time (lines_in [] rest)
unfolding var_line codes read_lines
var-read time pin rest =
    let x : List ℕ = text "$var wire 1 p" ++ decimal pin ++ text " p" ++ decimal pin in
    ap (λ (l : List ℕ). read_lines time (lines_in [] (l ++ rest))) (sym (append_assoc x (text " $end") (10 ∷ [])))
    ∙ read-line time (x ++ text " $end") rest (simp (feed-append, feed-decimal))

vars-read : (time : ℕ) (cs : List Change) (n : ℕ) (rest : List ℕ) → read_lines time (lines_in [] (var_lines cs n ++ rest)) ≡ read_lines time (lines_in [] rest)
unfolding var_lines
vars-read time cs zero rest = refl
vars-read time cs (suc n) rest =
    ap (λ (l : List ℕ). read_lines time (lines_in [] l)) (append_assoc (var_lines cs n) (cond (has n cs) (var_line n) []) rest)
    ∙ vars-read time cs n (cond (has n cs) (var_line n) [] ++ rest)
    ∙ go (has n cs)
  where
    go : (t : Bool) → read_lines time (lines_in [] (cond t (var_line n) [] ++ rest)) ≡ read_lines time (lines_in [] rest)
    go true = var-read time n rest
    go false = refl

header_read : (time : ℕ) (cs : List Change) (rest : List ℕ) → read_lines time (lines_in [] (header cs ++ rest)) ≡ read_lines time (lines_in [] rest)
unfolding header codes read_lines
header_read time cs rest =
    ap (λ (l : List ℕ). read_lines time (lines_in [] l)) (append_assoc (text "$timescale 1 ps $end\n" ++ var_lines cs 256) (text "$enddefinitions $end\n") rest ∙ append_assoc (text "$timescale 1 ps $end\n") (var_lines cs 256) (text "$enddefinitions $end\n" ++ rest))
    ∙ read-line time (text "$timescale 1 ps $end") (var_lines cs 256 ++ (text "$enddefinitions $end\n" ++ rest)) refl
    ∙ vars-read time cs 256 (text "$enddefinitions $end\n" ++ rest)
    ∙ read-line time (text "$enddefinitions $end") rest refl

-- ---- the lines that change

-- no state that begins a line of another kind
abbrev Proper : List Change → Type 0
Proper [] = Unit {0}
Proper (c ∷ cs) = (48 ≤ c.state) × Proper cs

proper-append : (cs ds : List Change) → Proper cs → Proper ds → Proper (cs ++ ds)
proper-append [] ds p q = q
proper-append (c ∷ cs) ds p q = (p.0, proper-append cs ds p.1 q)

state-least : (body : ℕ) → 48 ≤ state_of body
unfolding state_of
state-least body = go (eqb (body / 128 % 2) 1)
  where
    go : (t : Bool) → 48 ≤ cond t (48 + body / 64 % 2) 122
    go true = omega arith
    go false = omega arith

proper-change : (r : List ℕ) → Proper (change_in r)
unfolding change_in
proper-change r = go (eqb (kind_in r) 0)
  where
    go : (t : Bool) → Proper (cond t (record { pin = body_in r / 256; cycle = cycle_in r; state = state_of (body_in r) } ∷ []) [])
    go true = (state-least (body_in r), tt)
    go false = tt

proper-changes : (log : List ℕ) (n : ℕ) → Proper (changes_in log n)
unfolding changes_in
proper-changes log zero = tt
proper-changes log (suc n) = proper-append (changes_in log n) (change_in (record_at log n)) (proper-changes log n) (proper-change (record_at log n))

value_read : (time : ℕ) (c : Change) (rest : List ℕ) → 48 ≤ c.state → c.cycle ≡ time / 62500
    → read_lines time (lines_in [] (value_line c ++ rest)) ≡ c ∷ read_lines time (lines_in [] rest)
unfolding value_line codes read_lines
value_read time c rest s e =
    let feed = ne_eqb c.state 10 (λ q. omega arith) in
    let dollar = ne_eqb c.state 36 (λ q. omega arith) in
    let hash = ne_eqb c.state 35 (λ q. omega arith) in
    read-line time (c.state ∷ 112 ∷ decimal c.pin) rest (rw (feed, feed-decimal c.pin))
    ∙ rw (dollar, hash, number-decimal c.pin, ← e)

time-read : (time cycle : ℕ) (rest : List ℕ) → read_lines time (lines_in [] (text "#" ++ decimal (62500 * cycle) ++ text "\n" ++ rest)) ≡ read_lines (62500 * cycle) (lines_in [] rest)
unfolding codes read_lines
time-read time cycle rest = read-line time (35 ∷ decimal (62500 * cycle)) rest (feed-decimal (62500 * cycle)) ∙ rw (number-decimal (62500 * cycle))

nothing_read : (time : ℕ) → read_lines time (lines_in [] []) ≡ []
unfolding read_lines lines_in
nothing_read time = refl

-- the time is that of the last cycle written, if any
abbrev IsTimeOf : ℕ → Option ℕ → Type 0
IsTimeOf time None = Unit {0}
IsTimeOf time (Some cycle) = time ≡ 62500 * cycle

changes-read : (time : ℕ) (last : Option ℕ) (cs : List Change) → Proper cs → IsTimeOf time last → read_lines time (lines_in [] (change_lines last cs)) ≡ cs
unfolding change_lines time_line
changes-read time last [] p h = nothing_read time
changes-read time last (c ∷ cs) p h =
    ap (λ (l : List ℕ). read_lines time (lines_in [] l)) (append_assoc (time_line last c.cycle) (value_line c) (change_lines (Some c.cycle) cs))
    ∙ go last h (λ t e. changes-read t (Some c.cycle) cs p.1 e)
  where
    Rest : Type 0
    Rest = (t : ℕ) → t ≡ 62500 * c.cycle → read_lines t (lines_in [] (change_lines (Some c.cycle) cs)) ≡ cs

    new : Rest → read_lines time (lines_in [] (text "#" ++ decimal (62500 * c.cycle) ++ text "\n" ++ (value_line c ++ change_lines (Some c.cycle) cs))) ≡ c ∷ cs
    new rest =
        time-read time c.cycle (value_line c ++ change_lines (Some c.cycle) cs)
        ∙ value_read (62500 * c.cycle) c (change_lines (Some c.cycle) cs) p.0 (omega arith)
        ∙ ap (λ (l : List Change). c ∷ l) (rest (62500 * c.cycle) refl)

    go : (last : Option ℕ) → IsTimeOf time last → Rest → read_lines time (lines_in [] (time_line last c.cycle ++ (value_line c ++ change_lines (Some c.cycle) cs))) ≡ c ∷ cs
    go None h rest = new rest
    go (Some cycle) h rest = same (eqb cycle c.cycle) refl
      where
        same : (b : Bool) → eqb cycle c.cycle ≡ b → read_lines time (lines_in [] (time_line (Some cycle) c.cycle ++ (value_line c ++ change_lines (Some c.cycle) cs))) ≡ c ∷ cs
        same true e =
            let s = eqb-true cycle c.cycle e in
            rw e (value_read time c (change_lines (Some c.cycle) cs) p.0 (omega arith) ∙ ap (λ (l : List Change). c ∷ l) (rest time (omega arith)))
        same false e = rw e (new rest)

-- ---- any cut

pub written-append : (w : Writer) (a b : List ℕ) → written_by w (a ++ b) ≡ written_by w a ++ written_by (after w a) b
unfolding written_by after
written-append w a b =
    ap (λ (x : List _). change_lines w.last (changes x)) (wholes-append w.part a b)
    ∙ ap (change_lines w.last) (changes-append (wholes w.part a) (wholes (part_after w.part a) b))
    ∙ lines-append w.last (changes (wholes w.part a)) (changes (wholes (part_after w.part a) b))

pub after-append : (w : Writer) (a b : List ℕ) → after w (a ++ b) ≡ after (after w a) b
unfolding after
after-append w a b =
    rw (part-append w.part a b, wholes-append w.part a b, changes-append (wholes w.part a) (wholes (part_after w.part a) b), last-append w.last (changes (wholes w.part a)) (changes (wholes (part_after w.part a) b)))

pub nothing_written : (w : Writer) → written_by w [] ≡ []
unfolding written_by wholes changes change_lines
nothing_written w = refl

pub written_all-joined : (w : Writer) (pieces : List (List ℕ)) → written_all w pieces ≡ written_by w (joined pieces)
unfolding written_all joined
written_all-joined w [] = sym (nothing_written w)
written_all-joined w (piece ∷ pieces) = ap (λ (x : List ℕ). written_by w piece ++ x) (written_all-joined (after w piece) pieces) ∙ sym (written-append w piece (joined pieces))

pub written-log : (log : List ℕ) → Bytes log → written_by begun log ≡ change_lines None (changes_of log)
unfolding written_by
written-log log k = ap (λ (x : List _). change_lines None (changes x)) (of-a-log log k).0 ∙ ap (change_lines None) (changes-in log (length log / 10))

-- the header of pins that are those of the changes
vars-are : (pins : List Bool) (cs : List Change) (n : ℕ) → ((pin : ℕ) → pin < n → get_or pins pin false ≡ has pin cs) → vars_of pins n ≡ var_lines cs n
unfolding vars_of var_lines
vars-are pins cs zero h = refl
vars-are pins cs (suc n) h = rw (vars-are pins cs n (λ pin q. h pin (omega arith)), h n (omega arith))

pub header_is : (pins : List Bool) (cs : List Change) → ((pin : ℕ) → pin < 256 → get_or pins pin false ≡ has pin cs) → header_of pins ≡ header cs
unfolding header_of header
header_is pins cs h = rw (vars-are pins cs 256 h)

-- ---- the claims

pub dump-by-pieces : ByPieces
unfolding passes dump_of
dump-by-pieces first second e k =
    rw (header_is (pins_in (checked_all fresh first)) (changes_of (joined first)) (by-pieces first k).pins)
    (ap (λ (x : List ℕ). header (changes_of (joined first)) ++ x) (written_all-joined begun second ∙ ap (written_by begun) (sym e) ∙ written-log (joined first) k))

dump-read : (log : List ℕ) → read_back (dump_of log) ≡ changes_of log
unfolding read_back dump_of
dump-read log =
    header_read 0 (changes_of log) (change_lines None (changes_of log))
    ∙ changes-read 0 None (changes_of log) (proper-changes log (length log / 10)) tt

pub reads-back : ReadsBack
reads-back first second e k = ap read_back (dump-by-pieces first second e k) ∙ dump-read (joined first)

pub example : Example
unfolding dump_of header codes var_line var_lines has time_line value_line change_lines changes_in change_in record_at state_of digits decimal kind_in cycle_in body_in number_of formed before first_fault refused_at first_refusal refusal_of
example = record { accepted = refl; dump = refl }
