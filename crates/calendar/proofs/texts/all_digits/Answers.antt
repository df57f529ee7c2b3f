use Rattle.std.proofs.Common.{◌∙◌, rules, tests}
use Rattle.std.proofs.lemmas.Iterator.{YieldsList-from_slice}
use Rattle.std.proofs.lemmas.Iterator.Search.{all_from_yields_List}
use Rattle.text.specs.declared.bytes.Class.TheVariants.{Digit}
use Rattle.text.specs.Text.{is_in}
use Rattle.calendar.proofs.Digits.{all_in}
use Rattle.calendar.proofs.texts.all_digits.Goals as goal

pub returns : goal.returns
returns c = all_from_yields_List (is_in Digit) _ _ _ c.all.ensures.ran (YieldsList-from_slice c.args.s.now cc) (λ x b q k. search (rules, tests)) ∙ all_in _
