-- A list has the first bytes of the area.
use Rattle.std.proofs.Common.{◌≡◌, ◌%◌, arith, rules, length, take}
use Rattle.figures.specs.Figures.{codes}
use Rattle.list_lines.specs.Lists.{of_list}
use Rattle.list_lines.proofs.Working.{part_worked, own_worked, not_tens, emptied}
use Rattle.list_lines.proofs.worked.heard.Goals as goal

pub returns-in-Some-Some : goal.returns-in-Some-Some
unfolding of_list
returns-in-Some-Some c =
    let a = c.args in
    let tens : length c.in-Some-Some.list % 10 ≡ 0 = grind arith in
    rw (c.in-Some-Some.is-0, c.in-Some-Some.is-1)
    (own_worked _ _ _ _ tens (part_worked _ _ _ _ _ (length (take a.asked.size a.area.now)) (search rules) (rw (← c.as_slice-in-Some-Some.ensures) (c.worked.ensures a.items.now))))

pub returns-in-None-Some : goal.returns-in-None-Some
unfolding of_list
returns-in-None-Some c =
    let a = c.args in
    rw (c.in-None-Some.is-0, c.in-None-Some.is-1)
    (emptied (search rules) (part_worked _ _ _ _ _ (length (take a.asked.size a.area.now)) (search rules) (rw (← c.as_slice-in-None-Some.ensures) (c.worked-left.ensures _))))

pub returns-in-Some-default : goal.returns-in-Some-default
unfolding codes of_list
returns-in-Some-default c =
    let other : length c.in-Some-default.list % 10 ≡ 0 → ⊥ = λ e. grind (arith, e) in
    rw c.in-Some-default.is-0 (not_tens _ _ _ other c.requires.0 c.text.ensures)
