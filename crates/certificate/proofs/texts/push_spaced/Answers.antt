use Rattle.std.proofs.Common.{arith}
use Rattle.certificate.proofs.RowLines.{all_fit}
use Rattle.certificate.proofs.texts.push_spaced.Goals as goal

pub returns-clause-fit : goal.returns-clause-fit
returns-clause-fit c = all_fit c.args.numbers.now (λ i. let fit = c.type_inv.numbers i in omega arith)
