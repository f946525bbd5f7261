use Rattle.std.proofs.Common.{arith}
use Rattle.std.proofs.lemmas.Map.Text.{text_keys}
use Rattle.outside.proofs.memory.held_files.set_file.Goals as goal

pub returns-clause-ok : goal.returns-clause-ok
returns-clause-ok c = record { here = grind (arith, text_keys); others = λ other ne. grind (arith, text_keys) }
