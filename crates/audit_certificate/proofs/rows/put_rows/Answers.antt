use Rattle.std.proofs.Common.{◌<◌, length, subst, sym}
use Rattle.certificate.specs.Writers.{HasWord}
use Rattle.audit_certificate.proofs.Puts.{puts_none, still_writing}
use Rattle.audit_certificate.proofs.RowSteps.{rows_memory, rows_more, rows_refused}
use Rattle.audit_certificate.proofs.rows.put_rows.Goals as goal

pub put_line-requires-clause-writes : goal.put_line-requires-clause-writes
put_line-requires-clause-writes g c = still_writing _ _ _ _ _ c.loop-row.invariant c.requires.writes

pub put_line-requires-clause-word : goal.put_line-requires-clause-word
put_line-requires-clause-word g c =
    subst HasWord (sym c.in-Ok.ensures) (subst (λ r. 0 < length r.words) (sym c.row-item.is) (c.requires.words c.loop-row.row-index c.row-item.result c.loop-row-test.true))

pub loop-row-init : goal.loop-row-init
loop-row-init g c = puts_none _ _ c.requires.within

pub loop-row-preserved : goal.loop-row-preserved
loop-row-preserved g c =
    rows_more c.args.rows.now c.loop-row.row-index _ _ _ _ c.loop-row.invariant c.row-item.result c.row-item.result _ _ _ c.loop-row-test.true c.row-item.is c.in-Ok.ensures c.in-Ok-put_line.ensures

pub returns-in-Err-put_line : goal.returns-in-Err-put_line
returns-in-Err-put_line g c =
    rows_refused c.args.rows.now c.loop-row.row-index _ _ _ _ c.loop-row.invariant c.row-item.result c.row-item.result _ _ _ _ c.loop-row-test.true c.row-item.is c.in-Ok.ensures c.in-Err-put_line.ensures

pub returns-in-Err : goal.returns-in-Err
returns-in-Err g c = rows_memory c.args.rows.now c.loop-row.row-index _ _ _ _ c.loop-row.invariant
