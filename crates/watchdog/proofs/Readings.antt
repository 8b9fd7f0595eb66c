-- The readings hold: computed by time-outs, which are the ticks.
use mathlib.Core.Path.{◌≡◌, refl, sym, ap, ◌∙◌}
use mathlib.Core.List.{List, [], ◌∷◌}
use lib.ListN.{replicate}
use Rattle.records.specs.Records.{bytes_of, record_of, records_of}
use Rattle.time.specs.Units.{ticks_at, cycle_at}
use Rattle.wdtcsr.specs.Timeouts.{period_of, timed_out, timeout, tick, linear, gap_of}
use Rattle.wdtcsr.specs.Wdtcsr.{is_open, value_of, takes, too_long, control_to, window_to, stopped_at, written, served}
use Rattle.oscillator.specs.declared.state.Watchdog.{Watchdog}
use Rattle.oscillator.specs.State.{fresh}
use Rattle.oscillator.specs.Oscillator.{one, ticks, quiet, skips, timeouts, due, start, sync_of, passed, run_of, synced, next_at, next_of, is_due}
use Rattle.watchdog.specs.Calls.{early, refusal_of, moved, performed, answered}
use Rattle.watchdog.specs.Readings.{Step, told_of, shown, played, readings, replayed, Readings}
use Rattle.watchdog.proofs.Alike.{told-alike}

played-alike : (w : Watchdog) (ss : List Step) → played timeouts w ss ≡ played ticks w ss
unfolding played
played-alike w [] = refl
played-alike w (s ∷ ss) = rw (told-alike w (record { call = s.call; cycle = s.cycle; area = replicate s.room 0 }))
    (ap (λ (xs : List Step). shown s (told_of ticks w s) ∷ xs) (played-alike (told_of ticks w s).watchdog ss))

replayed-alike : (rs : List (List Step)) → replayed timeouts rs ≡ replayed ticks rs
unfolding replayed
replayed-alike [] = refl
replayed-alike (r ∷ rs) = rw (played-alike fresh r, replayed-alike rs)

by-timeouts : replayed timeouts readings ≡ readings
unfolding bytes_of record_of records_of ticks_at cycle_at period_of timed_out timeout tick one linear gap_of quiet skips due start sync_of passed run_of synced next_at next_of is_due is_open value_of takes too_long control_to window_to stopped_at written served early refusal_of moved performed answered played replayed
by-timeouts = refl

pub readings-hold : Readings
readings-hold = sym (replayed-alike readings) ∙ by-timeouts
