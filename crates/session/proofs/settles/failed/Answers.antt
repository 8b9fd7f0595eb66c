-- Other bytes in the answer's place.
use Rattle.std.proofs.Common.{ℕ, List, ◌∷◌, [], ◌++◌, subst}
use Rattle.figures.specs.Figures.{codes}
use Rattle.page.specs.Page.{Puts, unreadable_of}
use Rattle.session.proofs.Settling.{sound-at, settled-unwritten, settled-unopened}
use Rattle.session.proofs.settles.failed.Goals as goal

pub returns-in-NotWritten : goal.returns-in-NotWritten
unfolding codes
returns-in-NotWritten c = (
  c.requires.0,
  c.requires.1,
  λ was line old l one two eb es f h x.
      rw c.in-NotWritten.is (settled-unwritten was line old c.args.d l one two _ x h c.args.asked.from f _ (subst (λ (q : List ℕ). Puts q c.text.new.self (codes "door.log not written\n" 21)) c.truncate.ensures c.text.ensures)),
)

pub returns-in-Unread : goal.returns-in-Unread
returns-in-Unread c = (
  sound-at _ _ c.requires.2,
  c.requires.3,
  λ was line old l one two eb es f h x.
      rw c.in-Unread.is (settled-unopened was line old c.args.d l one two _ x h c.args.asked.from f c.args.asked.before _ _ eb es (subst (λ (q : List ℕ). Puts q c.unread.new.page (unreadable_of c.args.d.bench.line c.in-Unread.why ++ 10 ∷ [])) c.truncate.ensures c.unread.ensures)),
)
