use mir.Syntax.{w32}
use mir.Val.{SFits}
use mir.Facts.{to_z-of_z}
use borrow.Author.Rules.{rules}
use Rattle.replies.proofs.shifts.numbers.Goals as goal

pub returns-in-Refused : goal.returns-in-Refused
returns-in-Refused c = rw c.in-Refused.is

pub returns-in-By : goal.returns-in-By
returns-in-By c =
    let h : SFits w32 c.in-By.ticks = search rules in
    rw (to_z-of_z h, c.in-By.is)
