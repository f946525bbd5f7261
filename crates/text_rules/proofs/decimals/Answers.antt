use Rattle.text_rules.proofs.Numbers.{decimal-number, number-decimal}
use Rattle.text_rules.proofs.decimals.Goals as goal

pub returns : goal.returns
returns c = record { written = decimal-number; read = number-decimal }
