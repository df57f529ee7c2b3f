use Rattle.text.specs.Text.{is_in, is_digit, is_upper, is_lower, is_alphanumeric, is_blank, not_blank}
use Rattle.text.proofs.bytes.is_in.Goals as goal

pub returns-in-Digit : goal.returns-in-Digit
unfolding is_in is_digit is_upper is_lower is_alphanumeric is_blank not_blank
returns-in-Digit c = cc

pub returns-in-Alphanumeric : goal.returns-in-Alphanumeric
unfolding is_in is_digit is_upper is_lower is_alphanumeric is_blank not_blank
returns-in-Alphanumeric c = cc

pub returns-in-Blank : goal.returns-in-Blank
unfolding is_in is_digit is_upper is_lower is_alphanumeric is_blank not_blank
returns-in-Blank c = cc

pub returns-in-NotBlank : goal.returns-in-NotBlank
unfolding is_in is_digit is_upper is_lower is_alphanumeric is_blank not_blank
returns-in-NotBlank c = cc

pub returns-in-AllBut : goal.returns-in-AllBut
unfolding is_in is_digit is_upper is_lower is_alphanumeric is_blank not_blank
returns-in-AllBut c = cc
