use Rattle.std.proofs.Common.{arith}
use Rattle.std.proofs.lemmas.Map.Text.{text_keys}
use mathlib.Core.Path.{fun_ext}
use Rattle.outside.proofs.memory.held_files.extend_file.Goals as goal

pub returns-then-is_err-clause-err : goal.returns-then-is_err-clause-err
returns-then-is_err-clause-err c = fun_ext (λ other. grind (arith, text_keys))

pub returns-clause-ok : goal.returns-clause-ok
returns-clause-ok c = record { here = grind (arith, text_keys); others = λ other ne. grind (arith, text_keys) }
