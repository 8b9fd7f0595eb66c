-- A door in numbers (02, 2.13).
use Rattle.std.specs.Prelude.{ℕ, true, false, cond, Option, None, Some, is_some, unwrap_or, Result, Ok, Err}
use Rattle.door.specs.declared.Rule.{Rule}
use Rattle.door.specs.declared.Rule.TheVariants.{One, Two}
use Rattle.door.specs.declared.Hold.{Hold}
use Rattle.door.specs.declared.Door.{Door}
use Rattle.door.specs.declared.Refusal.{Refusal}
use Rattle.door.specs.Door.{refusal_number, close_of}
use Rattle.doorlog.specs.declared.doors.Terms.{Terms}
use Rattle.doorlog.specs.declared.doors.Kept.{Kept}
use Rattle.doorlog.specs.declared.doors.Told.{Told}

-- the rule that terms name
abbrev pub rule_of : Terms → Rule
rule_of t = cond t.two (Two t.hold t.quiet t.cap) (One t.hold)

-- the terms of a rule: under rule one quiet and cap are 0
abbrev pub terms_of : Rule → Terms
terms_of (One hold) = record { two = false; hold = hold; quiet = 0; cap = 0 }
terms_of (Two hold quiet cap) = record { two = true; hold = hold; quiet = quiet; cap = cap }

-- the hold that a caller kept, where there is one
abbrev pub hold_of : Kept → Option Hold
hold_of k = cond k.holding (Some (record { first = k.first; rearmed = k.rearmed; due = k.due })) None

-- the door that a caller kept
abbrev pub door_of : Kept → Door
door_of k = record { rule = rule_of k.terms; hold = hold_of k; latest = k.latest }

-- a hold as the caller keeps it: 0 where there is none
abbrev pub cycles_of : Option Hold → Hold
cycles_of hold = unwrap_or hold (record { first = record { 0 = 0 }; rearmed = record { 0 = 0 }; due = record { 0 = 0 } })

-- a door as the caller keeps it
abbrev pub kept_of : Door → Kept
kept_of d = record {
  terms = terms_of d.rule;
  holding = is_some d.hold;
  first = (cycles_of d.hold).first;
  rearmed = (cycles_of d.hold).rearmed;
  due = (cycles_of d.hold).due;
  latest = d.latest;
}

-- a door that a caller kept, told again: only its rule is read anew
abbrev pub still : Kept → Kept
still k = record { terms = terms_of (rule_of k.terms); holding = k.holding; first = k.first; rearmed = k.rearmed; due = k.due; latest = k.latest }

-- a number, whether a close is due, and when, 0 where it is not, and the door to be kept
abbrev pub told_of : ℕ → Option ℕ → Kept → Told
told_of number close kept = record { number = number; pending = is_some close; due = unwrap_or close 0; door = kept }

-- a number and a door, with when its close is due
abbrev pub answer_of : ℕ → Door → Told
answer_of number d = told_of number (close_of d) (kept_of d)

-- the door beside a refused rule: rule one with the shortest hold, and no edge
abbrev pub least : Kept
least = record {
  terms = record { two = false; hold = 1; quiet = 0; cap = 0 };
  holding = false;
  first = record { 0 = 0 };
  rearmed = record { 0 = 0 };
  due = record { 0 = 0 };
  latest = record { 0 = 0 };
}

-- what setting a rule answers: a new door, or its refusal and the least
abbrev pub made_of : Result Door Refusal → Told
made_of (Ok d) = answer_of 0 d
made_of (Err e) = told_of (refusal_number e) None least

-- what an edge on a door answers: the door after it, or its refusal and the door as it was
abbrev pub taken_of : Kept → Result Door Refusal → Told
taken_of k (Ok d) = answer_of 0 d
taken_of k (Err e) = told_of (refusal_number e) (close_of (door_of k)) (still k)
