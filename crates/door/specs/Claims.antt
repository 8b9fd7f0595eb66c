-- What is claimed of a door over any list of edges, refused ones among them (02, 2.13). Proofs stand apart, in proofs/.
use Rattle.std.specs.Prelude.{ℕ, ◌+◌, ◌-◌, ◌≤◌, ◌^◌, Bool, true, not, ◌&&◌, List, [], ◌∷◌, ◌++◌, Option, None, Some, IfSome, IsSomeAnd, Result, Ok, Err, is_ok, ⊤, ◌≡◌}
use Rattle.std.specs.Result.{result_unwrap_or}
use Rattle.time.specs.Units.{late_at}
use Rattle.door.specs.declared.Rule.{Rule}
use Rattle.door.specs.declared.Rule.TheVariants.{One, Two}
use Rattle.door.specs.declared.Hold.{Hold}
use Rattle.door.specs.declared.Door.{Door}
use Rattle.door.specs.declared.Refusal.{Refusal}
use Rattle.door.specs.Door.{idle, begins, set_to, number_of, on_time, edged, close_of, Valid}

-- the door that an edge leaves: a refused one changes nothing
abbrev pub left_by : Door → ℕ → Door
left_by d edge = result_unwrap_or (edged d edge) d

-- the door after a list of edges, each taken or refused
unfoldable pub after : Door → List ℕ → Door
after d [] = d
after d (edge ∷ edges) = after (left_by d edge) edges

-- the numbers that a list of edges is answered with
unfoldable pub numbers : Door → List ℕ → List ℕ
numbers d [] = []
numbers d (edge ∷ edges) = number_of (edged d edge) ∷ numbers (left_by d edge) edges

-- Refuses: an edge is refused with the number that 01 gives its cycle, and taken where that is 0
abbrev pub Refuses : Type 0
Refuses = (d : Door) (cycle : ℕ) → number_of (edged d cycle) ≡ late_at d.latest.0 cycle

-- a rule that can be set, and the door that setting it hands out
abbrev pub Makes : Rule → Door → Type 0
Makes rule door = set_to rule ≡ Ok door

-- Kept: whatever rule was set, and whatever edges came, the door is as the calls ask it
abbrev pub Kept : Type 0
Kept = (rule : Rule) (door : Door) → Makes rule door → (edges : List ℕ) → Valid (after door edges)

-- an edge that begins a hold: it is accepted, and the very first or at or after due
abbrev pub begins_hold : Door → ℕ → Bool
begins_hold d edge = is_ok (on_time d edge) && begins d.hold edge

-- a list of edges of which none begins a hold
unfoldable pub same_hold : Door → List ℕ → Bool
same_hold d [] = true
same_hold d (edge ∷ edges) = not (begins_hold d edge) && same_hold (left_by d edge) edges

-- the close is due, and no later than a cycle
abbrev pub DueBy : ℕ → Option ℕ → Type 0
DueBy cycle close = IsSomeAnd close (λ due. due ≤ cycle)

-- "no stream of edges moves a hold's due past its own first edge + cap"
pub record CappedBy (cap : ℕ) (door : Door) : Type 0 where
  -- after any edges, a hold's due is at most its first edge + cap
  pub always : (edges : List ℕ) → IfSome (after door edges).hold (λ (hold : Hold). hold.due.0 ≤ hold.first.0 + cap)
  -- an edge that begins a hold, after any others, and a stream of edges that begin no other: the close is due by that edge + cap
  pub own : (before : List ℕ) (edge : ℕ) (stream : List ℕ) → begins_hold (after door before) edge ≡ true → same_hold (after door (before ++ edge ∷ [])) stream ≡ true → DueBy (edge + cap) (close_of (after door (before ++ edge ∷ stream)))

-- Capped: for every rule two that can be set
abbrev pub Capped : Type 0
Capped = (hold quiet cap : ℕ) (door : Door) → Makes (Two hold quiet cap) door → CappedBy cap door

-- the close is due under both rules, or under none, and under rule two no later than under rule one
abbrev pub NotAfter : Option ℕ → Option ℕ → Type 0
NotAfter (Some two) (Some one) = two ≤ one
NotAfter (Some two) None = ⊥
NotAfter None (Some one) = ⊥
NotAfter None None = ⊤

-- "nor past rule one's due for the same edges and hold"
pub record NoLaterThan (one two : Door) (edges : List ℕ) : Type 0 where
  -- both rules take the same edges and refuse the others with the same numbers
  pub alike : numbers two edges ≡ numbers one edges
  -- after them rule two's due is not after rule one's
  pub due : NotAfter (close_of (after two edges)) (close_of (after one edges))

-- NoLater: for every rule two that can be set, rule one with the same hold can be set too, and after any edges it is so
abbrev pub NoLater : Type 0
NoLater = (hold quiet cap : ℕ) (two : Door) → Makes (Two hold quiet cap) two → Makes (One hold) (idle (One hold)) × ((edges : List ℕ) → NoLaterThan (idle (One hold)) two edges)

-- ---- readings

-- an edge, the number that it must be answered with, and when the close is then due
pub record Step : Type 0 where
  pub edge : ℕ
  pub number : ℕ
  pub due : Option ℕ

-- an edge that is taken
abbrev pub takes : ℕ → ℕ → Step
takes edge due = record { edge = edge; number = 0; due = Some due }

-- an edge that is refused
abbrev pub refuses : ℕ → ℕ → Option ℕ → Step
refuses edge number due = record { edge = edge; number = number; due = due }

-- a rule, the number that setting it must answer, and its edges
pub record Reading : Type 0 where
  pub rule : Rule
  pub number : ℕ
  pub steps : List Step

-- the edges as the definitions answer them
unfoldable pub played : Door → List Step → List Step
played d [] = []
played d (s ∷ ss) = record { edge = s.edge; number = number_of (edged d s.edge); due = close_of (left_by d s.edge) } ∷ played (left_by d s.edge) ss

-- the edges of a rule; a refused one has no door to take them
unfoldable pub begun : Result Door Refusal → List Step → List Step
begun (Err e) ss = []
begun (Ok d) ss = played d ss

-- every reading, as the definitions answer it
unfoldable pub replayed : List Reading → List Reading
replayed [] = []
replayed (r ∷ rs) = record { rule = r.rule; number = number_of (set_to r.rule); steps = begun (set_to r.rule) r.steps } ∷ replayed rs

-- rules one and two with the same edges, of which 250 is at due; quiet but for one (56) and exactly passed (57, 206), before due (256) and at it (257); refusals
abbrev pub readings : List Reading
readings =
    record { rule = One 100; number = 0; steps = takes 0 100 ∷ takes 30 130 ∷ takes 60 160 ∷ takes 120 220 ∷ takes 200 300 ∷ takes 250 350 ∷ takes 251 351 ∷ [] }
    ∷ record { rule = Two 100 50 250; number = 0; steps = takes 0 100 ∷ takes 30 100 ∷ takes 60 160 ∷ takes 120 220 ∷ takes 200 250 ∷ takes 250 350 ∷ takes 251 350 ∷ [] }
    ∷ record { rule = Two 100 50 250; number = 0; steps = takes 7 107 ∷ takes 56 107 ∷ takes 57 157 ∷ takes 156 256 ∷ takes 206 257 ∷ takes 256 257 ∷ takes 257 357 ∷ [] }
    ∷ record { rule = Two 100 50 250; number = 0; steps = refuses (2 ^ 62) 2 None ∷ takes 10 110 ∷ refuses 9 3 (Some 110) ∷ takes (2 ^ 62 - 1) (2 ^ 62 + 99) ∷ [] }
    ∷ record { rule = Two (2 ^ 40) (2 ^ 40) (2 ^ 40); number = 0; steps = takes 1 (2 ^ 40 + 1) ∷ [] }
    ∷ record { rule = One 0; number = 22; steps = [] }
    ∷ record { rule = One (2 ^ 40 + 1); number = 22; steps = [] }
    ∷ record { rule = Two 100 0 250; number = 22; steps = [] }
    ∷ record { rule = Two 100 50 99; number = 22; steps = [] }
    ∷ []

-- Readings: the definitions answer them so, by one claim over the list
abbrev pub Readings : Type 0
Readings = replayed readings ≡ readings
