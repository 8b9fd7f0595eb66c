-- The readings hold, computed.
use Rattle.std.proofs.Common.{refl}
use lib.Ieee.{span, climb, size, odd, units, round, neg, mul, lt, le, eq, to_bits}
use Rattle.std.specs.Float.{float_is_finite}
use Rattle.figures.specs.Figures.{codes, digits, decimal, number}
use Rattle.words.specs.Words.{and_then, before as words-words-before, first_from, onto, begun, words, counted, split_at}
use Rattle.words.specs.Numbers.{digit_of, all_digits, extended, well_formed, limited, longer_of, numeral_of, next_of}
use Rattle.words.specs.Decimals.{nearest, quotient_of, decimal_of, plain_of, signed_of, volts_of, roomed_of, held_of, digits_of}
use Rattle.page.specs.Page.{put, pair, pattern, flag, reason_of, unreadable_of}
use Rattle.linewise.specs.Claims.{lines_of, feed}
use Rattle.records.specs.Records.{bytes_of, record_of, records_of, number_of}
use Rattle.config.specs.Config.{choice_rule, width_rule, layout_rule, compare_rule, controls, owned, address_rule, one_bit, flagged, flags_of, flag_rule, pins_of, pin_rule, accepted, pair_at, control_at, place_of}
use Rattle.few.specs.Few.{also, has, distinct, within}
use Rattle.counter.specs.Fresh.{fresh_of, started_of}
use Rattle.counter.specs.Capture.{captures, captured, ticks_on}
use Rattle.wave.specs.Count.{top_of, falls, hits, overflows, loads, next_count, next_direction, at_top, at_zero, rising}
use Rattle.tick.specs.Tick.{events_at, raised, raises, line, lines, flag_entry, trigger_entry, flag_log_of, tick_by}
use Rattle.tick.specs.Skip.{linear}
use Rattle.tick.specs.Distance.{flags_ahead}
use Rattle.wave.specs.Distance.{space, ahead, gap_at, gap, moved}
use Rattle.counter.specs.Next.{next_at, next_flags, next_of as counter-next-next_of}
use Rattle.counter.specs.Modes.{mode_at, kind_at, source_at, fixed_at, max_at, toggles_at, divisor_at, chosen, mode_of, wave_of, divisor_of, held_of as counter-modes-held_of, running_of}
use Rattle.tick.specs.Outputs.{pin_entry, recorded, on_pin, acted, level_of, matched, bottomed, matches_of, bottoms_of, outputs, reapplied, strobed}
use Rattle.passage.specs.Passage.{one, ticks}
use Rattle.counter.specs.Passage.{due, start, sync_to, sync_of, passed, synced, advanced}
use Rattle.counter.specs.Registers.{immediate, compare_to, word_of, packed, control_of, peeked, read_value, read_timer, committed, commit, stored, configured, driven_by, driven, stored_a, stored_b, strobes, written_a, written_b, written}
use Rattle.tick.specs.Setting.{enabled_at, channel_of}
use Rattle.counter.specs.Setting.{setting_at}
use Rattle.time.specs.Units.{ticks_at, cycle_at}
use Rattle.timer.specs.Calls.{edge_captures, edge_ticks, output_captures, asks, works, says, before as timer-calls-before, worked, moved as timer-calls-moved, performed, refusal_of, answered}
use Rattle.answers.specs.Refusals.{is_due, late as answers-refusals-late, refusal}
use Rattle.events.specs.Events.{earliest, swap_removed}
use Rattle.scheduler.specs.Scheduler.{put as scheduler-scheduler-put, scheduled, removed, cycle_of, popped}
use Rattle.m328p.specs.Places.{is_of, register_at, place_at}
use Rattle.aims.specs.Aims.{stored_of, cast_of, aim_of}
use Rattle.board.specs.State.{board_to, board_all}
use Rattle.casts.specs.Casts.{prescaled, reached, lowest}
use Rattle.board.specs.Calls.{own_told, all_told, aimed, told}
use Rattle.wdtcsr.specs.Timeouts.{period_of, timed_out, timeout, tick, linear as wdtcsr-timeouts-linear, gap_of}
use Rattle.wdtcsr.specs.Wdtcsr.{is_open, value_of, takes, too_long, control_to, window_to, stopped_at, written as wdtcsr-wdtcsr-written}
use Rattle.oscillator.specs.Oscillator.{one as oscillator-oscillator-one, ticks as oscillator-oscillator-ticks, quiet, skips, due as oscillator-oscillator-due, start as oscillator-oscillator-start, sync_of as oscillator-oscillator-sync_of, passed as oscillator-oscillator-passed, run_of, synced as oscillator-oscillator-synced, next_at as oscillator-oscillator-next_at, next_of as oscillator-oscillator-next_of, is_due as oscillator-oscillator-is_due}
use Rattle.watchdog.specs.Calls.{early, refusal_of as watchdog-calls-refusal_of, moved as watchdog-calls-moved, performed as watchdog-calls-performed, answered as watchdog-calls-answered}
use Rattle.pins.specs.Pins.{tenths}
use Rattle.door.specs.Door.{accepted as door-door-accepted, rearms, due_under, edge_taken, set_to, on_time, edged}
use Rattle.room.specs.Room.{filled}
use Rattle.display.specs.Answers.{hexes, bytes_of as display-answers-bytes_of, records_of as display-answers-records_of, cycle_of as display-answers-cycle_of, flags_of as display-answers-flags_of, left_by, said_of, unless_refused}
use Rattle.display.specs.States.{compared_of, three_of, driven_of, drives_of, levels_of, count_of, counts_of, outputs_of, lines_of as display-states-lines_of, flags_of as display-states-flags_of, halts_of, clock_of, state_of, distance_line}
use Rattle.script.specs.Configs.{third_of, config_of, preset_line}
use Rattle.config_keys.specs.Keys.{named_of, plain_of as config-keys-keys-plain_of, optional_of, written_of, parts_from, compare_of, taken_of, whole_of, filled as config-keys-keys-filled, saying_of}
use Rattle.pairs.specs.Pairs.{paired, stepped, in_turn}
use Rattle.script.specs.Presets.{preset_text, preset_keys}
use Rattle.pin_lines.specs.PinLines.{connection_of, taken_of as pin-lines-pinlines-taken_of, given_of, vcc_of, driven_by as pin-lines-pinlines-driven_by, pin_of, resolved_line, outcome_of, answer_line, pin_of_line}
use Rattle.sched_lines.specs.Sched.{key_of, words_of, asked_of, until_of, at_line, event_line, pop_line, set_of, called_of, heard_of}
use Rattle.timer_lines.specs.Asked.{kinds_of, word_of as timer-lines-asked-word_of, call_of, asked_of as timer-lines-asked-asked_of}
use Rattle.timer_lines.specs.Called.{told_of, heard_of as timer-lines-called-heard_of}
use Rattle.timer_lines.specs.Made.{made_of}
use Rattle.timer_lines.specs.Named.{call_named, named_of as timer-lines-named-named_of, timer_line}
use Rattle.timer_lines.specs.Shown.{unless_none, moved_of, edges_of}
use Rattle.wdt_lines.specs.Asked.{command_of, plain_of as wdt-lines-asked-plain_of, advance_of, write_of, alone_of, asked_of as wdt-lines-asked-asked_of, named_of as wdt-lines-asked-named_of, line_of}
use Rattle.wdt_lines.specs.Called.{told_of as wdt-lines-called-told_of, heard_of as wdt-lines-called-heard_of, read_of}
use Rattle.wdt_lines.specs.Shown.{event_of, left_by as wdt-lines-shown-left_by, said_of as wdt-lines-shown-said_of, unless_refused as wdt-lines-shown-unless_refused, bits_of, state_of as wdt-lines-shown-state_of}
use Rattle.board_lines.specs.Asked.{named_of as board-lines-asked-named_of, kinds_of as board-lines-asked-kinds_of, word_of as board-lines-asked-word_of, id_of, order_of, call_of as board-lines-asked-call_of, asked_of as board-lines-asked-asked_of}
use Rattle.board_lines.specs.Ordered.{spoilt_of, told_of as board-lines-ordered-told_of, order_line}
use Rattle.board_lines.specs.Shown.{nexts_of, records_of as board-lines-shown-records_of, held_at, plans_of, board_of}
use Rattle.door_lines.specs.Asked.{one_of, two_of, edge_of, asked_of as door-lines-asked-asked_of}
use Rattle.door_lines.specs.Rules.{due_line, kept_of, heard_of as door-lines-rules-heard_of}
use Rattle.list_lines.specs.Items.{item_of, added_of, asked_of as list-lines-items-asked_of, item_read}
use Rattle.log_lines.specs.Logged.{held_of as log-lines-logged-held_of, placed_of, heard_of as log-lines-logged-heard_of}
use Rattle.digits.specs.Spelling.{paired as digits-spelling-paired, spelt, word_of as digits-spelling-word_of, bytes_of as digits-spelling-bytes_of}
use Rattle.list_lines.specs.Lists.{reason_of as list-lines-lists-reason_of, ended_of, told_of as list-lines-lists-told_of, on_timer, of_bytes, of_list, word_of as list-lines-lists-word_of, asked_of as list-lines-lists-asked_of, heard_of as list-lines-lists-heard_of}
use Rattle.items.specs.Items.{item_in, items_in}
use Rattle.writes.specs.Writes.{wrote, worked as writes-writes-worked, listed, listing}
use Rattle.record_ring.specs.Log.{added, released, place_of as record-ring-log-place_of}
use Rattle.bench_lines.specs.Lines.{kept_of as bench-lines-lines-kept_of, on_script, timer_named, whose_of, recorded_of}
use Rattle.bench_lines.specs.Named.{other_of, or_other, named_of as bench-lines-named-named_of, later_of, commanded_of}
use Rattle.bench_lines.specs.Shelved.{board_kept, on_board, ordered_of, answered_of}
use Rattle.bench_lines.specs.Steps.{ended_by, heard_of as bench-lines-steps-heard_of, first_of, then_by, step_of}
use Rattle.bench_lines.specs.Readings.{script_of, answers_of, Readings}
use Rattle.linewise.specs.Lines.{hold, cut_of}
use Rattle.log_lines.specs.Asked.{add_of, release_of, read_of as log-lines-asked-read_of, asked_of as log-lines-asked-asked_of}
use Rattle.scheduler.specs.Runs.{after, run}
use Rattle.watchdog.specs.Readings.{played, replayed}

pub readings-hold : Readings
unfolding span climb size odd units round neg mul lt le eq to_bits float_is_finite codes digits decimal number and_then words-words-before first_from onto begun words counted split_at digit_of all_digits extended well_formed limited longer_of numeral_of next_of nearest quotient_of decimal_of plain_of signed_of volts_of roomed_of held_of digits_of put pair pattern flag reason_of unreadable_of lines_of feed bytes_of record_of records_of number_of choice_rule width_rule layout_rule compare_rule controls owned address_rule one_bit flagged flags_of flag_rule pins_of pin_rule accepted pair_at control_at place_of also has distinct within fresh_of started_of captures captured ticks_on top_of falls hits overflows loads next_count next_direction at_top at_zero rising events_at raised raises line lines flag_entry trigger_entry flag_log_of tick_by linear flags_ahead space ahead gap_at gap moved next_at next_flags counter-next-next_of mode_at kind_at source_at fixed_at max_at toggles_at divisor_at chosen mode_of wave_of divisor_of counter-modes-held_of running_of pin_entry recorded on_pin acted level_of matched bottomed matches_of bottoms_of outputs reapplied strobed one ticks due start sync_to sync_of passed synced advanced immediate compare_to word_of packed control_of peeked read_value read_timer committed commit stored configured driven_by driven stored_a stored_b strobes written_a written_b written enabled_at channel_of setting_at ticks_at cycle_at edge_captures edge_ticks output_captures asks works says timer-calls-before worked timer-calls-moved performed refusal_of answered is_due answers-refusals-late refusal earliest swap_removed scheduler-scheduler-put scheduled removed cycle_of popped is_of register_at place_at stored_of cast_of aim_of board_to board_all prescaled reached lowest own_told all_told aimed told period_of timed_out timeout tick wdtcsr-timeouts-linear gap_of is_open value_of takes too_long control_to window_to stopped_at wdtcsr-wdtcsr-written oscillator-oscillator-one oscillator-oscillator-ticks quiet skips oscillator-oscillator-due oscillator-oscillator-start oscillator-oscillator-sync_of oscillator-oscillator-passed run_of oscillator-oscillator-synced oscillator-oscillator-next_at oscillator-oscillator-next_of oscillator-oscillator-is_due early watchdog-calls-refusal_of watchdog-calls-moved watchdog-calls-performed watchdog-calls-answered tenths door-door-accepted rearms due_under edge_taken set_to on_time edged filled hexes display-answers-bytes_of display-answers-records_of display-answers-cycle_of display-answers-flags_of left_by said_of unless_refused compared_of three_of driven_of drives_of levels_of count_of counts_of outputs_of display-states-lines_of display-states-flags_of halts_of clock_of state_of distance_line third_of config_of preset_line named_of config-keys-keys-plain_of optional_of written_of parts_from compare_of taken_of whole_of config-keys-keys-filled saying_of paired stepped in_turn preset_text preset_keys connection_of pin-lines-pinlines-taken_of given_of vcc_of pin-lines-pinlines-driven_by pin_of resolved_line outcome_of answer_line pin_of_line key_of words_of asked_of until_of at_line event_line pop_line set_of called_of heard_of kinds_of timer-lines-asked-word_of call_of timer-lines-asked-asked_of told_of timer-lines-called-heard_of made_of call_named timer-lines-named-named_of timer_line unless_none moved_of edges_of command_of wdt-lines-asked-plain_of advance_of write_of alone_of wdt-lines-asked-asked_of wdt-lines-asked-named_of line_of wdt-lines-called-told_of wdt-lines-called-heard_of read_of event_of wdt-lines-shown-left_by wdt-lines-shown-said_of wdt-lines-shown-unless_refused bits_of wdt-lines-shown-state_of board-lines-asked-named_of board-lines-asked-kinds_of board-lines-asked-word_of id_of order_of board-lines-asked-call_of board-lines-asked-asked_of spoilt_of board-lines-ordered-told_of order_line nexts_of board-lines-shown-records_of held_at plans_of board_of one_of two_of edge_of door-lines-asked-asked_of due_line kept_of door-lines-rules-heard_of item_of added_of list-lines-items-asked_of item_read log-lines-logged-held_of placed_of log-lines-logged-heard_of digits-spelling-paired spelt digits-spelling-word_of digits-spelling-bytes_of list-lines-lists-reason_of ended_of list-lines-lists-told_of on_timer of_bytes of_list list-lines-lists-word_of list-lines-lists-asked_of list-lines-lists-heard_of item_in items_in wrote writes-writes-worked listed listing added released record-ring-log-place_of bench-lines-lines-kept_of on_script timer_named whose_of recorded_of other_of or_other bench-lines-named-named_of later_of commanded_of board_kept on_board ordered_of answered_of ended_by bench-lines-steps-heard_of first_of then_by step_of script_of answers_of hold cut_of add_of release_of log-lines-asked-read_of log-lines-asked-asked_of after run played replayed
readings-hold = record { own = λ room first second. refl; list = λ room first second. refl; story = λ room first second. refl; others = λ room first second. refl }
