use borrow.Author.Rules.{rules}
use Rattle.renewing.proofs.Captures.{Catching, catch-made, catch-asks, catch-logs, catch-serves}
use Rattle.renewing.proofs.Files.{left-serves}
use Rattle.renewing.proofs.edges.catching.Goals as goal

pub passed-requires : goal.passed-requires
passed-requires c = let made : Catching c.args.h c.args.asked = catch-made c.args.h c.args.asked c.requires.1 c.requires.2 c.requires.3 c.requires.4 in λ _. catch-asks c.args.h c.args.asked c.requires.0 (made)

pub write-requires : goal.write-requires
write-requires c = (c.captured-w.ensures.len, search rules)

pub returns-then-write : goal.returns-then-write
returns-then-write c = let made : Catching c.args.h c.args.asked = catch-made c.args.h c.args.asked c.requires.1 c.requires.2 c.requires.3 c.requires.4 in catch-serves c.args.h c.args.asked c.requires.0 (made) c.args.area.now c.passed.ensures c.captured-w.ensures c.write.ensures c.if-write.true c.new.ensures

pub returns-else-write : goal.returns-else-write
returns-else-write c = let made : Catching c.args.h c.args.asked = catch-made c.args.h c.args.asked c.requires.1 c.requires.2 c.requires.3 c.requires.4 in left-serves c.requires.0 (made).made c.args.area.now (catch-logs c.args.h c.args.asked c.requires.0 (made) c.args.area.now c.passed.ensures c.captured-w.ensures c.write.ensures) c.write.ensures c.if-write.false c.turned.ensures
