-- `shell::exports::work` meets its contract: an advance that is struck is past the next event.
use Rattle.std.proofs.Common.{sym, ◌∙◌}
use Rattle.shell.proofs.Branches.{met}
use Rattle.shell.proofs.exports.work.Goals as goal

pub climb-requires : goal.climb-requires
climb-requires c =
    let h = c.args.t.now in
    let e = sym c.strikes.ensures ∙ c.if-strikes.true in
    (c.requires.0, e, met h.scene.kind h.timer.counter.blocked h.timer.clock.latest.0 h.next c.args.cycle _ e c.requires.1)
