use Rattle.audit_certificate.proofs.RunSteps.{runs_more, runs_refused}
use Rattle.audit_certificate.proofs.runs.put_runs.Goals as goal

pub returns-in-Err : goal.returns-in-Err
returns-in-Err g c = runs_refused c.args.words.now c.loop-at.at c.in-Some.distance c.run_end-end.result _ _ _ _ _ _ _ c.loop-at.invariant c.run_end-end.ensures c.in-Err.ensures

pub loop-at-preserved : goal.loop-at-preserved
loop-at-preserved g c = runs_more c.args.words.now c.loop-at.at c.in-Some.distance c.run_end-end.result _ _ _ _ _ _ c.loop-at.invariant c.run_end-end.ensures c.in-Ok.ensures
