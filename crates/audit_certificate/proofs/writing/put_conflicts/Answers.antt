use Rattle.std.proofs.Common.{[], ◌∷◌, ◌++◌, length}
use Rattle.certificate.specs.declared.lines.CertLine.TheVariants as of
use Rattle.audit_certificate.specs.inside.Puts.{row_lines}
use Rattle.audit_certificate.proofs.Puts.{part_more, part_within, puts_then, then_answers}
use Rattle.audit_certificate.proofs.writing.put_conflicts.Goals as goal

pub returns-in-Err : goal.returns-in-Err
returns-in-Err g c = part_more (of.Conflicts (length c.args.rows.now) ∷ []) (row_lines c.args.rows.now ++ of.End ∷ []) _ _ _ _ _ c.in-Err.ensures

pub returns-in-Err-put_rows : goal.returns-in-Err-put_rows
returns-in-Err-put_rows g c =
    part_within (of.Conflicts (length c.args.rows.now) ∷ []) (row_lines c.args.rows.now) (of.End ∷ []) _ _ _ _ _ _ _ c.in-Ok.ensures c.in-Err-put_rows.ensures

pub returns : goal.returns
returns g c =
    then_answers (of.Conflicts (length c.args.rows.now) ∷ row_lines c.args.rows.now) (of.End ∷ []) c.put_line-2.result _ _ _ _ _ _
    (puts_then (of.Conflicts (length c.args.rows.now) ∷ []) (row_lines c.args.rows.now) _ _ _ _ _ _ c.in-Ok.ensures c.in-Ok-put_rows.ensures) c.put_line-2.ensures
