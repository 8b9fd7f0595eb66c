-- After a refusal nothing follows.
use Rattle.page.proofs.Sheets.{then, put_none}
use mathlib.Core.List.{◌++◌}
use Rattle.board.specs.Calls.{areas_of}
use Rattle.board_lines.specs.Shown.{nexts_of, records_of}
use Rattle.display.proofs.Tellings.{after-refused, after-accepted}
use Rattle.board_lines.proofs.shown.answer.Goals as goal

pub returns-in-Refused : goal.returns-in-Refused
returns-in-Refused c =
    let a = c.args in
    rw (after-refused a.o.now.answer _ (nexts_of a.o.now.board ++ records_of a.o.now.written (areas_of a.zero.now a.one.now a.two.now)) c.in-Refused.is) (then c.said.ensures (put_none _))

pub returns : goal.returns
returns c =
    let a = c.args in
    rw (after-accepted a.o.now.answer (nexts_of a.o.now.board ++ records_of a.o.now.written (areas_of a.zero.now a.one.now a.two.now)) c.in_default.not-Refused) (then c.said.ensures (then c.nexts.ensures c.records.ensures))
