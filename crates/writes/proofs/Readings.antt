-- The reading of specs/Claims.antt holds of the definitions, by computation.
use mathlib.Core.Path.{refl}
use Rattle.records.specs.Records.{number_of, bytes_of, record_of, records_of}
use Rattle.config.specs.Config.{pair_at, control_at, place_of}
use Rattle.wave.specs.Count.{top_of, falls, hits, overflows, loads, next_count, next_direction, at_top, at_zero, rising}
use Rattle.tick.specs.Tick.{events_at, raised, raises, line, lines, flag_entry, trigger_entry, flag_log_of, tick_by}
use Rattle.tick.specs.Skip.{linear}
use Rattle.tick.specs.Distance.{flags_ahead}
use Rattle.wave.specs.Distance.{space, ahead, gap_at, gap, moved as stepped}
use Rattle.counter.specs.Next.{next_at, next_flags}
use Rattle.counter.specs.Fresh.{fresh_of}
use Rattle.counter.specs.Modes.{mode_at, kind_at, source_at, fixed_at, max_at, toggles_at, divisor_at, mode_of, wave_of, divisor_of, held_of, running_of}
use Rattle.tick.specs.Outputs.{pin_entry, recorded, on_pin, acted, level_of, matched, bottomed, matches_of, bottoms_of, outputs}
use Rattle.passage.specs.Passage.{one, ticks}
use Rattle.counter.specs.Passage.{due, start, sync_to, sync_of, passed, synced, advanced}
use Rattle.tick.specs.Outputs.{reapplied, strobed}
use Rattle.counter.specs.Registers.{immediate, compare_to, word_of, packed, control_of, committed, commit, stored, configured, driven_by, driven, stored_a, stored_b, strobes, written_a, written_b, written}
use Rattle.tick.specs.Setting.{enabled_at, channel_of}
use Rattle.counter.specs.Setting.{setting_at}
use Rattle.time.specs.Units.{ticks_at, cycle_at}
use Rattle.timer.specs.Calls.{asks, works, says, before, worked as callWorked, moved, performed, refusal_of, answered}
use Rattle.items.specs.Items.{item_in, items_in}
use Rattle.writes.specs.Writes.{wrote, worked, listed, listing}
use Rattle.writes.specs.Claims.{ListReading}
use Rattle.answers.specs.Refusals.{is_due, late, refusal}

pub list-reading : ListReading
unfolding number_of item_in items_in wrote callWorked listed listing bytes_of record_of records_of pair_at control_at place_of top_of falls hits overflows loads next_count next_direction at_top at_zero rising events_at raised raises line lines flag_entry trigger_entry flag_log_of tick_by space ahead gap_at gap stepped linear flags_ahead next_flags next_at fresh_of mode_at kind_at source_at fixed_at max_at toggles_at divisor_at mode_of wave_of divisor_of held_of running_of pin_entry recorded on_pin acted level_of matched bottomed matches_of bottoms_of outputs one ticks due start sync_to sync_of passed synced advanced immediate compare_to word_of packed control_of committed commit stored configured reapplied strobed driven_by driven stored_a stored_b strobes written_a written_b written enabled_at channel_of setting_at ticks_at cycle_at asks works says before worked moved performed refusal_of answered is_due late refusal
list-reading = record { fits = refl; pauses = refl }
