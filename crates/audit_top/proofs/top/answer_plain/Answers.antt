use Rattle.std.proofs.Common.{Some, refl}
use Rattle.commands.specs.Commands.{generate}
use Rattle.audit_top.specs.Translated.{IsGenerated}
use Rattle.audit_top.proofs.Stacks.{without-files}
use Rattle.audit_top.proofs.top.answer_plain.Goals as goal

pub returns-in-Generate : goal.returns-in-Generate
returns-in-Generate g c =
    let start = c.in-Generate.start in
    let count = c.in-Generate.count in
    rw c.in-Generate.is (without-files (IsGenerated start count) (Some (generate start count)) (g.F.Files.view c.args.files.now) _ _ _ refl refl (λ inputs r is. is) c.generate.ensures)
