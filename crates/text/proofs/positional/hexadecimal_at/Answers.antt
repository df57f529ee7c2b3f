use Rattle.text.specs.Number.{hex_digit, hexadecimal}
use Rattle.text.proofs.Spelling.{wrote_digits}
use Rattle.text.proofs.positional.hexadecimal_at.Goals as goal

pub returns : goal.returns
unfolding hexadecimal
returns c = wrote_digits 16 hex_digit 16 _ c.requires (c.put_digits.ensures hex_digit (λ d r h e. e))
