-- Every row of the table is right, by computation. Assumes nothing.
use mathlib.Core.Path.{◌≡◌, refl}
use mathlib.Core.Bool.{true}
use Rattle.run_model.proofs.Computes.{computes}
use Rattle.striplog_text.specs.Striplog.{at_most_lf, key_taken, read_key, rows_line, refused_line, printed, printed_outcome, bad_input, lent_buffers, stripped_with, key_in, stripped}
use Rattle.examples.specs.Examples.{same_path, operand_of, same_action, reads_as, action_fault, is, is_none, prints, same_bool, policy_prints, policy_refused, rules_read, fault_number, leaf_numbers, last_leaves, usual, policy_fault, times, lent, lent_report, is_zero, holds, same_outcome, gives, redacts_to, refuses_with, right, all_right, table}

pub all_right_lem : all_right table ≡ true
unfolding computes at_most_lf key_taken read_key rows_line refused_line printed printed_outcome bad_input lent_buffers stripped_with key_in stripped same_path operand_of same_action reads_as action_fault is is_none prints same_bool policy_prints policy_refused rules_read fault_number leaf_numbers last_leaves usual policy_fault times lent lent_report is_zero holds same_outcome gives redacts_to refuses_with right all_right table
all_right_lem = refl
