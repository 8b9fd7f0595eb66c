use mathlib.Core.Path.{refl}
use Rattle.counter.proofs.Logging.{logs-captured}
use Rattle.counter.proofs.Advances.{setting-is}
use Rattle.capture.proofs.captured.Goals as goal

pub returns : goal.returns
returns c = logs-captured c.args.t c.args.cycle.0 _ (setting-is c.args.t c.mode-mode.ensures.0 c.wave_at-wave.ensures c.setting-s.ensures) c.capture-e.ensures c.raised-up.ensures c.with_icr-u.ensures refl (rw c.flag_entry.ensures at c.put_flags-to.ensures)
