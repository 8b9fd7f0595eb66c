-- The claims of specs/Claims.antt.
use Prim.Native.Nat.{ℕ, zero, suc, ◌+◌, ◌-◌, ◌/◌, ◌<◌}
use native.Mathlib.Omega.{arith}
use mathlib.Core.Path.{◌≡◌, refl, sym, ap, ◌∙◌}
use mathlib.Core.Bool.{Bool, true, false, cond, ◌||◌}
use mathlib.Core.List.{List, [], ◌∷◌, ◌++◌, append_assoc, append-nil}
use lib.Dec.{eqb, leb}
use lib.ListN.{length, get_or, set, replicate, length-set, length-replicate}
use lib.Seq.{get_or-set_same, get_or-set_other}
use borrow.Author.Tests.{eqb-true, eqb-false, eq-eqb, ne_eqb}
use Rattle.records.specs.Records.{record_at, kind_in, cycle_in, body_in}
use Rattle.pieces.specs.declared.Whole.{Whole}
use Rattle.pieces.specs.Pieces.{start, kind_of, cycle_of, part_after, wholes, whole_in, wholes_in, Bytes, joined}
use Rattle.pieces.proofs.Claims.{of-a-log}
use Rattle.verdict.specs.declared.judge.Judge.{Judge}
use Rattle.verdict.specs.declared.Check.{Check}
use Rattle.verdict.specs.Changes.{Change, state_of, change_in, changes_in, changes_of, has, change_of, changes}
use Rattle.verdict.specs.Refusal.{before, refused_at, first_refusal, longest, refusal_of}
use Rattle.verdict.specs.Check.{unjudged, fresh, refused_after, judged, judged_all, noted, noted_all, counted, checked, refusal_in, pins_in}
use Rattle.verdict.specs.Claims.{checked_all, ByPieces}
use Rattle.verdict.proofs.Checks.{or-true, or-false, judged-append, checked-append}

-- ---- the changes of whole records

pub changes-append : (ws vs : List Whole) → changes (ws ++ vs) ≡ changes ws ++ changes vs
unfolding changes
changes-append [] vs = refl
changes-append (w ∷ ws) vs = rw (changes-append ws vs) (sym (append_assoc (change_of w) (changes ws) (changes vs)))

change-whole : (r : List ℕ) → changes (whole_in r ∷ []) ≡ change_in r
unfolding changes change_of change_in kind_in cycle_in body_in
change-whole r = append-nil (change_in r)

pub changes-in : (log : List ℕ) (n : ℕ) → changes (wholes_in log n) ≡ changes_in log n
unfolding changes wholes_in changes_in
changes-in log zero = refl
changes-in log (suc n) = rw (changes-append (wholes_in log n) (whole_in (record_at log n) ∷ []), changes-in log n, change-whole (record_at log n))

-- ---- the judgement of a log's first n records

refused-is : (log : List ℕ) (n : ℕ) → refused_after (before log n) (whole_in (record_at log n)) ≡ refused_at log n
unfolding refused_at kind_in cycle_in body_in
refused-is log n = refl

last-is : (log : List ℕ) (n : ℕ) → cycle_of (whole_in (record_at log n)) ≡ before log (suc n)
unfolding before cycle_in
last-is log n =
    let a = ne_eqb (suc n) 0 (λ e. omega arith) in
    let b : suc n - 1 ≡ n = omega arith in
    rw (a, b)

judged-whole : (log : List ℕ) (n : ℕ) → judged (record { last = before log n; found = first_refusal log n }) (whole_in (record_at log n)) ≡ record { last = before log (suc n); found = first_refusal log (suc n) }
unfolding judged first_refusal
judged-whole log n = rw (refused-is log n, last-is log n)

judged-one : (j : Judge) (w : Whole) → judged_all j (w ∷ []) ≡ judged j w
unfolding judged_all
judged-one j w = refl

judged-in : (log : List ℕ) (n : ℕ) → judged_all unjudged (wholes_in log n) ≡ record { last = before log n; found = first_refusal log n }
unfolding judged_all wholes_in before first_refusal
judged-in log zero = refl
judged-in log (suc n) =
    judged-append unjudged (wholes_in log n) (whole_in (record_at log n) ∷ [])
    ∙ ap (λ (j : Judge). judged_all j (whole_in (record_at log n) ∷ [])) (judged-in log n)
    ∙ judged-one _ (whole_in (record_at log n))
    ∙ judged-whole log n

-- ---- the pins

or_assoc : (a b c : Bool) → a || b || c ≡ a || (b || c)
or_assoc true b c = refl
or_assoc false b c = refl

has-append : (pin : ℕ) (cs ds : List Change) → has pin (cs ++ ds) ≡ has pin cs || has pin ds
unfolding has
has-append pin [] ds = refl
has-append pin (c ∷ cs) ds = rw (has-append pin cs ds) (sym (or_assoc (eqb c.pin pin) (has pin cs) (has pin ds)))

noted-has : (pins : List Bool) (w : Whole) (pin : ℕ) → pin < length pins → get_or (noted pins w) pin false ≡ get_or pins pin false || has pin (change_of w)
unfolding noted change_of has
noted-has pins w pin h = go (eqb (kind_of w) 0) (eqb (w.body / 256) pin) refl
  where
    go : (k t : Bool) → eqb (w.body / 256) pin ≡ t
        → get_or (cond k (set pins (w.body / 256) true) pins) pin false ≡ get_or pins pin false || has pin (cond k (record { pin = w.body / 256; cycle = cycle_of w; state = state_of w.body } ∷ []) [])
    go true true e = let i = eqb-true (w.body / 256) pin e in rw (i, get_or-set_same pins pin true false h, eq-eqb pin pin refl) (sym (or-true (get_or pins pin false)))
    go true false e = rw (get_or-set_other pins (w.body / 256) pin true false (λ q. eqb-false (w.body / 256) pin e (sym q)), e) (sym (or-false (get_or pins pin false)))
    go false t e = sym (or-false (get_or pins pin false))

noted-length : (pins : List Bool) (w : Whole) → length (noted pins w) ≡ length pins
unfolding noted
noted-length pins w = go (eqb (kind_of w) 0)
  where
    go : (k : Bool) → length (cond k (set pins (w.body / 256) true) pins) ≡ length pins
    go true = length-set pins (w.body / 256) true
    go false = refl

all-has : (pins : List Bool) (ws : List Whole) (pin : ℕ) → pin < length pins → get_or (noted_all pins ws) pin false ≡ get_or pins pin false || has pin (changes ws)
unfolding noted_all changes has
all-has pins [] pin h = sym (or-false (get_or pins pin false))
all-has pins (w ∷ ws) pin h =
    let l = noted-length pins w in
    all-has (noted pins w) ws pin (omega arith) ∙ rw (noted-has pins w pin h, has-append pin (change_of w) (changes ws)) (or_assoc (get_or pins pin false) (has pin (change_of w)) (has pin (changes ws)))

none-set : (n k : ℕ) → get_or (replicate n false) k false ≡ false
none-set zero k = refl
none-set (suc n) zero = refl
none-set (suc n) (suc k) = none-set n k

-- ---- the whole log as one piece

counted-all : (n : ℕ) → leb (counted 0 n) longest ≡ leb n longest
unfolding counted
counted-all n = let z : 0 + n ≡ n = omega arith in rw z (go (leb n longest) refl)
  where
    go : (b : Bool) → leb n longest ≡ b → leb (cond b n (suc longest)) longest ≡ b
    go true e = e
    go false e = refl

pub whole-refusal : (log : List ℕ) → Bytes log → refusal_in (checked fresh log) ≡ refusal_of log
unfolding refusal_in checked refusal_of
whole-refusal log k =
    let w = of-a-log log k in
    rw (w.1, counted-all (length log), w.0, judged-in log (length log / 10))

pub whole-pins : (log : List ℕ) → Bytes log → (pin : ℕ) → pin < 256 → get_or (pins_in (checked fresh log)) pin false ≡ has pin (changes_of log)
unfolding checked
whole-pins log k pin h =
    let w = of-a-log log k in
    let l : length (replicate 256 false) ≡ 256 = length-replicate 256 false in
    all-has (replicate 256 false) (wholes start log) pin (omega arith)
    ∙ rw (none-set 256 pin, w.0, changes-in log (length log / 10))

-- ---- any cut

pieces-after : (a : List ℕ) (pieces : List (List ℕ)) → checked_all (checked fresh a) pieces ≡ checked fresh (a ++ joined pieces)
unfolding checked_all joined
pieces-after a [] = ap (checked fresh) (sym (append-nil a))
pieces-after a (piece ∷ pieces) =
    ap (λ (c : Check). checked_all c pieces) (checked-append fresh a piece)
    ∙ pieces-after (a ++ piece) pieces
    ∙ ap (checked fresh) (append_assoc a piece (joined pieces))

nothing_yet : checked fresh [] ≡ fresh
unfolding checked counted part_after wholes judged_all noted_all
nothing_yet = refl

pub as_one : (pieces : List (List ℕ)) → checked_all fresh pieces ≡ checked fresh (joined pieces)
as_one pieces = ap (λ (c : Check). checked_all c pieces) (sym nothing_yet) ∙ pieces-after [] pieces

pub by-pieces : ByPieces
by-pieces pieces k = record {
  refusal = rw (as_one pieces) (whole-refusal (joined pieces) k);
  pins = λ pin h. rw (as_one pieces) (whole-pins (joined pieces) k pin h);
}
