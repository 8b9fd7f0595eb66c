-- T1 to T10 and the board's own readings hold of the definitions, by computation.
use mathlib.Core.Path.{refl}
use Rattle.records.specs.Records.{bytes_of, record_of, records_of}
use Rattle.config.specs.Config.{pair_at, control_at, place_of}
use Rattle.counter.specs.Capture.{captures, captured, ticks_on}
use Rattle.wave.specs.Count.{top_of, falls, hits, overflows, loads, next_count, next_direction, at_top, at_zero, rising}
use Rattle.tick.specs.Tick.{events_at, raised, raises, line, lines, flag_entry, trigger_entry, flag_log_of, tick_by}
use Rattle.wave.specs.Distance.{space, ahead, gap_at, gap, moved as stepped}
use Rattle.tick.specs.Distance.{flags_ahead}
use Rattle.tick.specs.Skip.{linear}
use Rattle.counter.specs.Next.{next_at, next_of, next_flags}
use Rattle.counter.specs.Fresh.{fresh_of}
use Rattle.counter.specs.Halts.{halting, asleep_at, awake_at, reduced_to, prescaled_at, tsm_to, routed_to, reset_at}
use Rattle.counter.specs.Logs.{struck}
use Rattle.counter.specs.Modes.{mode_at, kind_at, source_at, fixed_at, max_at, toggles_at, divisor_at, chosen, mode_of, wave_of, divisor_of, held_of, running_of}
use Rattle.tick.specs.Outputs.{pin_entry, recorded, on_pin, acted, level_of, matched, bottomed, matches_of, bottoms_of, outputs}
use Rattle.passage.specs.Passage.{one, ticks}
use Rattle.counter.specs.Passage.{due, start, sync_to, sync_of, passed, synced, advanced}
use Rattle.tick.specs.Outputs.{reapplied, strobed}
use Rattle.counter.specs.Registers.{immediate, compare_to, word_of, packed, control_of, peeked, read_value, read_timer, committed, commit, stored, configured, driven_by, driven, stored_a, stored_b, strobes, written_a, written_b, written}
use Rattle.tick.specs.Setting.{enabled_at, channel_of}
use Rattle.counter.specs.Setting.{setting_at}
use Rattle.time.specs.Units.{ticks_at, cycle_at}
use Rattle.timer.specs.Calls.{edge_captures, edge_ticks, output_captures, asks, works, says, before, worked, moved, performed, refusal_of, answered}
use Rattle.events.specs.Events.{earliest, swap_removed}
use Rattle.scheduler.specs.Scheduler.{put, scheduled, removed}
use Rattle.m328p.specs.Places.{is_of, register_at, place_at}
use Rattle.plans.specs.Plans.{planned_of}
use Rattle.aims.specs.Aims.{stored_of, cast_of, aim_of}
use Rattle.board.specs.State.{board_to, board_all}
use Rattle.casts.specs.Casts.{prescaled, reached, lowest}
use Rattle.board.specs.Calls.{own_told, all_told, aimed, told}
use Rattle.board_claims.specs.Readings.{played_on, replayed_on, played, replayed, Readings}
use Rattle.answers.specs.Refusals.{is_due, late, refusal}

pub readings-hold : Readings
unfolding bytes_of record_of records_of pair_at control_at place_of captures captured chosen ticks_on struck top_of falls hits overflows loads next_count next_direction at_top at_zero rising events_at raised raises line lines flag_entry trigger_entry flag_log_of tick_by space ahead gap_at gap stepped linear flags_ahead next_at next_of next_flags fresh_of halting asleep_at awake_at reduced_to prescaled_at tsm_to routed_to reset_at mode_at kind_at source_at fixed_at max_at toggles_at divisor_at mode_of wave_of divisor_of held_of running_of pin_entry recorded on_pin acted level_of matched bottomed matches_of bottoms_of outputs one ticks due start sync_to sync_of passed synced advanced immediate compare_to word_of packed control_of peeked read_value read_timer committed commit stored configured reapplied strobed driven_by driven stored_a stored_b strobes written_a written_b written enabled_at channel_of setting_at ticks_at cycle_at edge_captures edge_ticks output_captures asks works says before worked moved performed refusal_of answered earliest swap_removed put scheduled removed is_of register_at place_at planned_of stored_of cast_of aim_of board_to board_all own_told prescaled reached lowest all_told aimed told played_on replayed_on played replayed is_due late refusal
readings-hold = record { timers = refl; board = refl }
