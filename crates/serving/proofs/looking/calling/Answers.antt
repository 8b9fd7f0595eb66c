use mathlib.Core.Path.{sym, ◌∙◌}
use Rattle.serving.proofs.Laws.{number_is, stays-is, passed-asks}
use Rattle.serving.proofs.Looks.{refused-looks, done-looks, left-looks}
use Rattle.serving.proofs.looking.calling.Goals as goal

pub returns-then-n-ne0 : goal.returns-then-n-ne0
returns-then-n-ne0 c = rw (c.nothing.ensures, c.turned.ensures) (refused-looks c.args.h c.args.c c.args.cycle _ c.requires (number_is c.args.h c.args.c c.args.cycle c.tests-a.ensures c.refusal-n.ensures) c.if-n-ne0.true)

pub passed-s-requires : goal.passed-s-requires
passed-s-requires c = rw c.tests-a.ensures (passed-asks c.args.h c.args.c c.args.cycle c.requires (sym (number_is c.args.h c.args.c c.args.cycle c.tests-a.ensures c.refusal-n.ensures) ∙ c.if-n-ne0.false))

pub returns-then-stays : goal.returns-then-stays
returns-then-stays c = rw (c.accepted.ensures, c.new-reply.ensures, c.works-w.ensures, c.passed-s.ensures, c.tests-a.ensures) (done-looks c.args.h c.args.c c.args.cycle c.requires (sym (number_is c.args.h c.args.c c.args.cycle c.tests-a.ensures c.refusal-n.ensures) ∙ c.if-n-ne0.false) (sym (stays-is c.args.h c.args.c c.args.cycle c.tests-a.ensures c.stays.ensures) ∙ c.if-stays.true))

pub returns : goal.returns
returns c = rw (c.nothing-2.ensures, c.turned-2.ensures) (left-looks c.args.h c.args.c c.args.cycle _ c.requires
    (record {
      accepted = sym (number_is c.args.h c.args.c c.args.cycle c.tests-a.ensures c.refusal-n.ensures) ∙ c.if-n-ne0.false;
      turns = sym (stays-is c.args.h c.args.c c.args.cycle c.tests-a.ensures c.stays.ensures) ∙ c.if-stays.false;
    }))
