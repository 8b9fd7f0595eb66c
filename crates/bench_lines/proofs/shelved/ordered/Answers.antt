use Rattle.std.proofs.Common.{refl}
use Rattle.bench_lines.specs.Shelved.{ordered_of}
use Rattle.bench_lines.proofs.Shelving.{taken_works}
use Rattle.bench_lines.proofs.shelved.ordered.Goals as goal

pub returns-in-Err : goal.returns-in-Err
unfolding ordered_of
returns-in-Err c =
    rw (← c.of.ensures.1, c.in-Err.is) (record { bench = refl; shelf = refl; puts = c.unreadable.ensures; areas = refl; sound = c.requires.0; stable = c.requires.1 })

pub returns-in-Ok : goal.returns-in-Ok
unfolding ordered_of
returns-in-Ok c =
    rw (← c.of.ensures.1, c.in-Ok.is) (taken_works c.args.d c.requires.0 c.requires.1 _ _ _ _ _ _ c.order_line-left.result c.kept.result c.on_board.result c.order_line-left.ensures c.kept.ensures c.on_board.ensures)
