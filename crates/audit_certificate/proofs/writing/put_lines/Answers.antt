use Rattle.std.proofs.Common.{List, [], ◌∷◌, ◌++◌, length}
use Rattle.certificate.specs.declared.lines.CertLine.{CertLine}
use Rattle.certificate.specs.declared.lines.CertLine.TheVariants as of
use Rattle.audit_certificate.specs.OwnCertificates.{reached_states}
use Rattle.audit_certificate.specs.inside.Puts.{row_lines, run_lines}
use Rattle.audit_certificate.proofs.Puts.{answers_joined, part_joined, part_more, part_within, puts_then, then_answers}
use Rattle.audit_certificate.proofs.writing.put_lines.Goals as goal

pub returns-in-Err : goal.returns-in-Err
returns-in-Err g c =
    let head : List CertLine = of.Head 2 ∷ of.Entries c.args.entries ∷ of.States (length c.args.words.now) ∷ [] in
    let runs : List CertLine = run_lines (reached_states c.args.words.now) in
    let others : List CertLine = of.Conflicts (length c.args.rows.now) ∷ (row_lines c.args.rows.now ++ of.End ∷ []) in
    part_joined c.args.entries c.args.words.now c.args.rows.now _ _ _ _ _ (part_more head (runs ++ others) _ _ _ _ _ c.in-Err.ensures)

pub returns-in-Err-put_runs : goal.returns-in-Err-put_runs
returns-in-Err-put_runs g c =
    let head : List CertLine = of.Head 2 ∷ of.Entries c.args.entries ∷ of.States (length c.args.words.now) ∷ [] in
    let runs : List CertLine = run_lines (reached_states c.args.words.now) in
    let others : List CertLine = of.Conflicts (length c.args.rows.now) ∷ (row_lines c.args.rows.now ++ of.End ∷ []) in
    part_joined c.args.entries c.args.words.now c.args.rows.now _ _ _ _ _ (part_within head runs others _ _ _ _ _ _ _ c.in-Ok.ensures c.in-Err-put_runs.ensures)

pub returns : goal.returns
returns g c =
    let head : List CertLine = of.Head 2 ∷ of.Entries c.args.entries ∷ of.States (length c.args.words.now) ∷ [] in
    let runs : List CertLine = run_lines (reached_states c.args.words.now) in
    let others : List CertLine = of.Conflicts (length c.args.rows.now) ∷ (row_lines c.args.rows.now ++ of.End ∷ []) in
    answers_joined c.args.entries c.args.words.now c.args.rows.now c.put_conflicts.result _ _ _ _
    (then_answers (head ++ runs) others c.put_conflicts.result _ _ _ _ _ _ (puts_then head runs _ _ _ _ _ _ c.in-Ok.ensures c.in-Ok-put_runs.ensures) c.put_conflicts.ensures)
