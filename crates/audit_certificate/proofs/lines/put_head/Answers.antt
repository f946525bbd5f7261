use Rattle.std.proofs.Common.{[], ◌∷◌}
use Rattle.certificate.specs.declared.lines.CertLine.TheVariants as of
use Rattle.audit_certificate.proofs.Puts.{part_more, part_within, puts_then, then_answers}
use Rattle.audit_certificate.proofs.lines.put_head.Goals as goal

pub returns-in-Err : goal.returns-in-Err
returns-in-Err g c = part_more (of.Head 2 ∷ []) (of.Entries c.args.entries ∷ of.States c.args.states ∷ []) _ _ _ _ _ c.in-Err.ensures

pub returns-in-Err-put_line : goal.returns-in-Err-put_line
returns-in-Err-put_line g c =
    part_within (of.Head 2 ∷ []) (of.Entries c.args.entries ∷ []) (of.States c.args.states ∷ []) _ _ _ _ _ _ _ c.in-Ok.ensures c.in-Err-put_line.ensures

pub returns : goal.returns
returns g c =
    then_answers (of.Head 2 ∷ of.Entries c.args.entries ∷ []) (of.States c.args.states ∷ []) c.put_line-3.result _ _ _ _ _ _
    (puts_then (of.Head 2 ∷ []) (of.Entries c.args.entries ∷ []) _ _ _ _ _ _ c.in-Ok.ensures c.in-Ok-put_line.ensures) c.put_line-3.ensures
