-- What the calls keep of a door, and what an edge does to it.
use Rattle.std.proofs.Common.{ℕ, ◌≡◌, refl, true, None, Some, Ok, arith}
use Rattle.std.proofs.lemmas.Grind.{common_steps}
use Rattle.door.specs.declared.Rule.{Rule}
use Rattle.door.specs.declared.Rule.TheVariants.{One, Two}
use Rattle.door.specs.declared.Door.{Door}
use Rattle.door.specs.Door.{accepted, idle, edge_taken, set_to, on_time, edged, DueDetermined, Valid}
use Rattle.door.specs.Claims.{left_by}

-- the hold of an accepted rule two is that of an accepted rule one
pub one_too : (hold quiet cap : ℕ) → accepted (Two hold quiet cap) ≡ true → accepted (One hold) ≡ true
unfolding accepted
one_too hold quiet cap a = grind (arith, common_steps)

-- a rule that makes a door can be set, and the door is idle
pub made : (rule : Rule) (door : Door) → set_to rule ≡ Ok door → (accepted rule ≡ true) × (door ≡ idle rule)
unfolding set_to
made rule door e = (grind (arith, common_steps), grind (arith, common_steps))

pub made_valid : (rule : Rule) (door : Door) → set_to rule ≡ Ok door → Valid door
unfolding set_to
made_valid rule door e = grind (arith, common_steps)

-- every edge leaves a valid door
pub left_valid : (d : Door) (cycle : ℕ) → Valid d → Valid (left_by d cycle)
unfolding edged on_time edge_taken
left_valid d cycle v = grind (arith, common_steps)

-- the rule stays
pub left-rule : (d : Door) (edge : ℕ) → (left_by d edge).rule ≡ d.rule
unfolding edged edge_taken
left-rule d edge = grind (arith, common_steps)

-- when the close is due
pub due-determined : DueDetermined
due-determined (Some cycle) = refl
due-determined None = refl
