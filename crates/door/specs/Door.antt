-- Door rule one and door rule two (02, 2.13).
use Rattle.std.specs.Prelude.{ℕ, ◌+◌, ◌-◌, ◌≤◌, ◌<◌, ◌^◌, min, Bool, true, cond, ◌&&◌, Option, None, Some, option_map, IfSome, Result, Ok, Err, ⊤, ◌≡◌, leb, ltb}
use Rattle.time.specs.declared.units.Cycle.{Cycle}
use Rattle.door.specs.declared.Rule.{Rule}
use Rattle.door.specs.declared.Rule.TheVariants.{One, Two}
use Rattle.door.specs.declared.Hold.{Hold}
use Rattle.door.specs.declared.Door.{Door}
use Rattle.door.specs.declared.Refusal.{Refusal}
use Rattle.door.specs.declared.Refusal.TheVariants as refusal

-- a number of cycles that is not zero and not over 2^40
abbrev pub in_range : ℕ → Bool
in_range n = ltb 0 n && leb n (2 ^ 40)

-- the rules that can be set: hold, and under rule two also quiet and cap in range, and cap not below hold
unfoldable pub accepted : Rule → Bool
accepted (One hold) = in_range hold
accepted (Two hold quiet cap) = in_range hold && in_range quiet && in_range cap && leb hold cap

-- "under rule one every edge rearms", under rule two "only if at least quiet cycles have passed since the last rearming one"
unfoldable pub rearms : Rule → ℕ → Bool
rearms (One hold) since = true
rearms (Two hold quiet cap) since = leb quiet since

-- when the close is due: the last rearming edge + hold, under rule two no later than the first edge + cap
unfoldable pub due_under : Rule → ℕ → ℕ → ℕ
due_under (One hold) first rearmed = rearmed + hold
due_under (Two hold quiet cap) first rearmed = min (rearmed + hold) (first + cap)

-- "setting a rule starts with no edge, latest cycle 0 and nothing due"
abbrev pub idle : Rule → Door
idle rule = record { rule = rule; hold = None; latest = record { 0 = 0 } }

-- a hold by its first edge and the one that rearms it, the latest
abbrev pub held_from : Rule → ℕ → ℕ → Door
held_from rule first rearmed = record {
  rule = rule;
  hold = Some (record {
    first = record { 0 = first };
    rearmed = record { 0 = rearmed };
    due = record { 0 = due_under rule first rearmed };
  });
  latest = record { 0 = rearmed };
}

-- an edge that does not rearm
abbrev pub passed_at : Door → ℕ → Door
passed_at d cycle = record { rule = d.rule; hold = d.hold; latest = record { 0 = cycle } }

-- "the very first edge, and one at or after due, begins a new hold"
abbrev pub begins : Option Hold → ℕ → Bool
begins None cycle = true
begins (Some hold) cycle = leb hold.due.0 cycle

-- an accepted edge after a hold, where there is one
abbrev pub edge_after : Door → Option Hold → ℕ → Door
edge_after d None cycle = held_from d.rule cycle cycle
edge_after d (Some hold) cycle =
    cond (begins (Some hold) cycle) (held_from d.rule cycle cycle)
    (cond (rearms d.rule (cycle - hold.rearmed.0)) (held_from d.rule hold.first.0 cycle)
    (passed_at d cycle))

-- the door after an accepted edge
unfoldable pub edge_taken : Door → ℕ → Door
edge_taken d cycle = edge_after d d.hold cycle

-- the refusals' numbers (01, "Calls turned away")
abbrev pub refusal_number : Refusal → ℕ
refusal_number refusal.CycleTooLarge = 2
refusal_number refusal.CyclePassed = 3
refusal_number refusal.Rule = 22

-- the number that a call answers; 0 for none
abbrev pub number_of : {A : Type 0} → Result A Refusal → ℕ
number_of (Ok x) = 0
number_of (Err e) = refusal_number e

-- a rule set, or refused: "a refusal returns its number only" (01, "Calls turned away")
unfoldable pub set_to : Rule → Result Door Refusal
set_to rule = cond (accepted rule) (Ok (idle rule)) (Err refusal.Rule)

-- 01's cycle refusals (01, "Calls turned away"): over 2^62 − 1, and below the latest accepted
unfoldable pub on_time : Door → ℕ → Result ⊤ Refusal
on_time d cycle = cond (ltb (2 ^ 62 - 1) cycle) (Err refusal.CycleTooLarge) (cond (ltb cycle d.latest.0) (Err refusal.CyclePassed) (Ok tt))

-- the door after an edge that is on time, or the edge's refusal
abbrev pub edged_on : Result ⊤ Refusal → Door → Result Door Refusal
edged_on (Ok x) after = Ok after
edged_on (Err e) after = Err e

-- an edge taken, or refused
unfoldable pub edged : Door → ℕ → Result Door Refusal
edged d cycle = edged_on (on_time d cycle) (edge_taken d cycle)

-- when the close of a door is due: at a cycle, or not at all while there is no hold
abbrev pub close_of : Door → Option ℕ
close_of d = option_map (λ (hold : Hold). hold.due.0) d.hold

-- the number of each case of `due`'s answer: 02 has no refusal for it
abbrev pub due_number : Option Cycle → ℕ
due_number (Some cycle) = 0
due_number None = 0

-- the values of each case of `due`'s answer
abbrev pub due_values : Option Cycle → Option ℕ
due_values (Some cycle) = Some cycle.0
due_values None = None

-- the answer that values say
abbrev pub due_of : Option ℕ → Option Cycle
due_of (Some cycle) = Some (record { 0 = cycle })
due_of None = None

-- DueDetermined: the values determine the answer, its case too
abbrev pub DueDetermined : Type 0
DueDetermined = (r : Option Cycle) → due_of (due_values r) ≡ r

-- the code's answer says when the close of a door is due, and is no refusal
pub record DueAnswers (d : Door) (r : Option Cycle) : Type 0 where
  pub number : due_number r ≡ 0
  pub values : due_values r ≡ close_of d

-- what the calls keep of a hold
pub record HoldOf (d : Door) (hold : Hold) : Type 0 where
  pub first : hold.first.0 ≤ hold.rearmed.0
  pub rearmed : hold.rearmed.0 ≤ d.latest.0
  pub due : hold.due.0 ≡ due_under d.rule hold.first.0 hold.rearmed.0

-- what the calls keep of a door
pub record Valid (d : Door) : Type 0 where
  pub rule : accepted d.rule ≡ true
  pub latest : d.latest.0 < 2 ^ 62
  pub hold : IfSome d.hold (HoldOf d)
