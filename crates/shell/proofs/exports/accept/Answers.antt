-- `shell::exports::accept` meets its contract, test by test.
use Rattle.std.proofs.Common.{sym, ◌∙◌, lt-ltb, le-ltb}
use Rattle.held.proofs.Accepts.{too_large, passed, due, taken}
use Rattle.shell.proofs.exports.accept.Goals as goal

pub returns-then-too_large : goal.returns-then-too_large
returns-then-too_large c = let x = c.args in too_large x.t.now x.tested x.cycle (sym c.too_large.ensures ∙ c.if-too_large.true)

pub returns-then-cycle-t : goal.returns-then-cycle-t
returns-then-cycle-t c = let x = c.args in passed x.t.now x.tested x.cycle (sym c.too_large.ensures ∙ c.if-too_large.false) (lt-ltb _ _ c.if-cycle-t.true)

pub returns-then-tested-t : goal.returns-then-tested-t
returns-then-tested-t c = let x = c.args in due x.t.now x.tested x.cycle (sym c.too_large.ensures ∙ c.if-too_large.false) (le-ltb _ _ c.if-cycle-t.false) c.if-tested-t.true

pub returns-else-tested-t : goal.returns-else-tested-t
returns-else-tested-t c = let x = c.args in taken x.t.now x.tested x.cycle (sym c.too_large.ensures ∙ c.if-too_large.false) (le-ltb _ _ c.if-cycle-t.false) c.if-tested-t.false
