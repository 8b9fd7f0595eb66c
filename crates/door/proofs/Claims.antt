-- The theorems of specs/Claims.antt: by induction over the edges, and the readings by computation.
use Rattle.std.proofs.Common.{ℕ, ◌+◌, ◌≤◌, ◌≡◌, refl, ◌∙◌, true, false, List, [], ◌∷◌, ◌++◌, IfSome, IsSomeAnd, is_some, arith}
use Rattle.std.proofs.lemmas.Grind.{common_steps}
use Rattle.door.specs.declared.Rule.TheVariants.{One, Two}
use Rattle.door.specs.declared.Hold.{Hold}
use Rattle.door.specs.declared.Door.{Door}
use Rattle.door.specs.Door.{number_of, accepted, rearms, due_under, idle, edge_taken, set_to, on_time, edged, close_of, Valid}
use Rattle.door.specs.Claims.{left_by, after, numbers, Kept, begins_hold, same_hold, DueBy, Capped, NotAfter, NoLaterThan, NoLater, Refuses, played, begun, replayed, Readings}
use Rattle.door.proofs.Doors.{one_too, made, made_valid, left_valid, left-rule}

pub refuses : Refuses
unfolding edged on_time
refuses d cycle = grind (arith, common_steps)

-- ---- what the calls keep
after-valid : (d : Door) (edges : List ℕ) → Valid d → Valid (after d edges)
unfolding after
after-valid d [] v = v
after-valid d (edge ∷ edges) v = after-valid (left_by d edge) edges (left_valid d edge v)

pub kept : Kept
kept rule door m edges = after-valid door edges (made_valid rule door m)

after-rule : (d : Door) (edges : List ℕ) → (after d edges).rule ≡ d.rule
unfolding after
after-rule d [] = refl
after-rule d (edge ∷ edges) = after-rule (left_by d edge) edges ∙ left-rule d edge

-- ---- a hold is capped

-- the door holds since an edge
abbrev Since : ℕ → Door → Type 0
Since first d = IsSomeAnd d.hold (λ (h : Hold). h.first.0 ≡ first)

begins-since : (d : Door) (edge : ℕ) → begins_hold d edge ≡ true → Since edge (left_by d edge)
unfolding edged on_time edge_taken
begins-since d edge e = grind (arith, common_steps)

-- an edge that begins no hold
stays-since : (first : ℕ) (d : Door) (edge : ℕ) → Since first d → begins_hold d edge ≡ false → Since first (left_by d edge)
unfolding edged on_time edge_taken
stays-since first d edge s e = grind (arith, common_steps)

-- a stream of edges that begin no hold
stream-since : (first : ℕ) (d : Door) (stream : List ℕ) → Since first d → same_hold d stream ≡ true → Since first (after d stream)
unfolding after same_hold
stream-since first d [] s e = s
stream-since first d (edge ∷ stream) s e =
    stream-since first (left_by d edge) stream (stays-since first d edge s (grind (arith, common_steps))) (grind (arith, common_steps))

-- edges after edges
after-append : (d : Door) (before edges : List ℕ) → after d (before ++ edges) ≡ after (after d before) edges
unfolding after
after-append d [] edges = refl
after-append d (edge ∷ before) edges = after-append (left_by d edge) before edges

pub capped : Capped
unfolding after due_under
capped hold quiet cap start m = record { always = always; own = own }
  where
    always : (edges : List ℕ) → IfSome (after start edges).hold (λ (h : Hold). h.due.0 ≤ h.first.0 + cap)
    always edges =
        let v = kept (Two hold quiet cap) start m edges in
        let r = after-rule start edges in
        let i = (made (Two hold quiet cap) start m).1 in
        grind (arith, common_steps)

    due-by : (edge : ℕ) (edges : List ℕ) → Since edge (after start edges) → DueBy (edge + cap) (close_of (after start edges))
    due-by edge edges s = let a = always edges in grind (arith, common_steps)

    own : (before : List ℕ) (edge : ℕ) (stream : List ℕ) → begins_hold (after start before) edge ≡ true → same_hold (after start (before ++ edge ∷ [])) stream ≡ true → DueBy (edge + cap) (close_of (after start (before ++ edge ∷ stream)))
    own before edge stream e f =
        due-by edge (before ++ edge ∷ stream)
        (rw after-append (stream-since edge (left_by (after start before) edge) stream (begins-since (after start before) edge e) (rw after-append at f)))

-- ---- rule two is no later than rule one

-- the due of rule one while there is a hold
abbrev Last : ℕ → Door → Type 0
Last hold d = IfSome d.hold (λ (h : Hold). h.due.0 ≡ d.latest.0 + hold)

-- doors of the two rules after the same edges
record Beside (hold quiet cap : ℕ) (one two : Door) : Type 0 where
  first : one.rule ≡ One hold
  second : two.rule ≡ Two hold quiet cap
  latest : two.latest.0 ≡ one.latest.0
  holding : is_some two.hold ≡ is_some one.hold
  due : Last hold one

module _ {hold quiet cap : ℕ} where
  left-beside : (one two : Door) (edge : ℕ) → Beside hold quiet cap one two → Beside hold quiet cap (left_by one edge) (left_by two edge)
  unfolding edged on_time edge_taken rearms due_under
  left-beside one two edge b = grind (arith, common_steps)

  alike : (one two : Door) (edge : ℕ) → Beside hold quiet cap one two → number_of (edged two edge) ≡ number_of (edged one edge)
  unfolding edged on_time
  alike one two edge b = grind (arith, common_steps)

  compared : (one two : Door) → Valid two → Beside hold quiet cap one two → NotAfter (close_of two) (close_of one)
  unfolding due_under
  compared one two v b = grind (arith, common_steps)

  after-beside : (one two : Door) (edges : List ℕ) → Valid two → Beside hold quiet cap one two → NoLaterThan one two edges
  unfolding after numbers
  after-beside one two [] v b = record { alike = refl; due = compared one two v b }
  after-beside one two (edge ∷ edges) v b =
      let rest = after-beside (left_by one edge) (left_by two edge) edges (left_valid two edge v) (left-beside one two edge b) in
      record { alike = rw (rest.alike, alike one two edge b); due = rest.due }

pub no-later : NoLater
unfolding set_to
no-later hold quiet cap two m =
    let can = made (Two hold quiet cap) two m in
    let one = one_too hold quiet cap can.0 in
    let start : Beside hold quiet cap (idle (One hold)) two = grind (arith, common_steps) in
    (grind (arith, common_steps), λ edges. after-beside (idle (One hold)) two edges (made_valid (Two hold quiet cap) two m) start)

pub readings-hold : Readings
unfolding accepted rearms due_under edge_taken set_to on_time edged played begun replayed
readings-hold = refl
