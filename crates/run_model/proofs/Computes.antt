-- All definitions, open: a law that unfolds `computes` computes with them. Assumes nothing.
use Rattle.text.specs.Text.{bytes, is_digit, is_upper, is_lower, is_alphanumeric, is_blank, not_blank, lower_byte, lower, same, is_word, is_empty, run, rest, all, begins}
use Rattle.text.specs.Number.{digits, decimal, worth, take_number, positional, hex_digit, hexadecimal, eight_bytes}
use Rattle.text.specs.Characters.{prepend, trim_end, trim}
use Rattle.er7.specs.Path.{not_zero, take_index, close_bracket, take_occurrence, take_step, then, complete, read_subcomponent, read_component, read_repetition, read_field, is_join, read_segment, read_path, in_brackets, behind, print_path}
use Rattle.pseudonym.specs.Pseudonym.{step, fold, pseudonym}
use Rattle.calendar.specs.Calendar.{leap, year_length, lengths, month_length, within, is_date, sum, day_number, in_years, locate, date_of}
use Rattle.calendar.specs.Shift as S
use Rattle.er7_redact.specs.Action.{kind, is_keep, is_null_action, name, argument, verb_with_argument, verb, bare, read_replace, read_mask, without_plus, whole, read_count, signed, is_negative, without_sign, days_of, read_days, read_argument, refusal_of, read_action, print_days, print_action, apply}
use Rattle.refusal.specs.Refusal.{number, too_long, is_plain, no_foreign, is_allowed, begins_in_lf}
use Rattle.message_model.specs.Message.{is_header_name, may_delimit, absent, may_delimit_all, separators_of, is_header, ends_in_cr, without_last_cr, segment_lines, message_lines, head_of, is_opened, ends_leaf, next, leaves, leaves_behind, at_field, header_leaves, leaves_of, is_name_byte, is_name, is_named, count, segments, message_of, segments_fault, message_fault, touchable, delimiter, lead, print_leaves, print_segments, print_message}
use Rattle.message_model.specs.Value.{NULL, is_null, is_empty_or_null, delimiter_of, letter_run, pair, adds, goes_on, decode_from, decode, value, letter_of, encode_byte, encode, ends_word, find_word, is_whole_word}
use Rattle.policy_model.specs.Policy.{start, rejecting, applying, line_kind, with_action, read_accept, read_reject, read_unrecognised, read_known_values, with_path, read_rule, read_directive, judged, read_words, not_cr, not_hash, read_line, push, policy_lines, with_rules, after_line, read_lines, read_policy, stricter, merged, width, gap, column, rule_line, rule_lines, rule_block, posture_line, unrecognised_text, sweep_text, default_lines, joined, print_policy}
use Rattle.policy_model.specs.Builtin.{builtin_text}
use Rattle.run_model.specs.Redact.{fits, reaches, covers, depth, reach, is_node, starts, rest_of_node, after, moved, replaced, act, collapse, effect_in, effect, row, changing, learning, texts_at, size, rule_leaf, rule_events, is_unnamed, act_or, unnamed_leaf, changing_or, unnamed_events, knows, known_bytes, after_event, after_events, known_in, after_rule, after_rules, rules_events, for_posture, longer_of, longest_found, action_in, for_sweep, before_sweep, events_before_sweep, progress_before_sweep, redacted_as, swept, redact_from, redact, print_row, print_rows}
use Rattle.run_model.specs.Entries.{filled, outcome, outcome_with_report, is_short, with_buffers, with_policy, without_fault, reported, redact_answer, printed_policy, print_answer, merged_answer, append_answer, builtin_answer, payload_fault, written_or, unrecognised, payload_answer, redact_outcome, print_outcome, append_outcome, builtin_outcome, payload_outcome}

unfoldable pub computes : Unit {0}
unfolding bytes is_digit is_upper is_lower is_alphanumeric is_blank not_blank lower_byte lower same is_word is_empty run rest all begins digits decimal worth take_number positional hex_digit hexadecimal eight_bytes not_zero take_index close_bracket take_occurrence take_step then complete read_subcomponent read_component read_repetition read_field is_join read_segment read_path in_brackets behind print_path step fold pseudonym leap year_length lengths month_length within is_date sum day_number in_years locate date_of S.target S.moved S.stamp S.date_in S.digit S.date_text S.front S.is_long S.is_dated S.is_moved S.shifted kind is_keep is_null_action name argument verb_with_argument verb bare read_replace read_mask without_plus whole read_count signed is_negative without_sign days_of read_days read_argument refusal_of read_action print_days print_action apply number too_long is_plain is_header_name may_delimit absent may_delimit_all separators_of is_header ends_in_cr without_last_cr segment_lines message_lines head_of is_opened ends_leaf next leaves leaves_behind at_field header_leaves leaves_of is_name_byte is_name is_named count segments message_of segments_fault message_fault touchable delimiter lead print_leaves print_segments print_message NULL is_null is_empty_or_null delimiter_of letter_run pair adds goes_on decode_from decode value letter_of encode_byte encode ends_word find_word is_whole_word start rejecting applying line_kind with_action read_accept read_reject read_unrecognised read_known_values with_path read_rule read_directive judged read_words prepend trim_end trim not_cr not_hash read_line push policy_lines with_rules after_line read_lines begins_in_lf no_foreign is_allowed read_policy stricter merged width gap column rule_line rule_lines rule_block posture_line unrecognised_text sweep_text default_lines joined print_policy builtin_text fits reaches covers depth reach is_node starts rest_of_node after moved replaced act collapse effect_in effect row changing learning texts_at size rule_leaf rule_events is_unnamed act_or unnamed_leaf changing_or unnamed_events knows known_bytes after_event after_events known_in after_rule after_rules rules_events for_posture longer_of longest_found action_in for_sweep before_sweep events_before_sweep progress_before_sweep redacted_as swept redact_from redact print_row print_rows filled outcome outcome_with_report is_short with_buffers with_policy without_fault reported redact_answer printed_policy print_answer merged_answer append_answer builtin_answer payload_fault written_or unrecognised payload_answer redact_outcome print_outcome append_outcome builtin_outcome payload_outcome
computes = tt
