use Rattle.cert_check.proofs.CheckLemmas.{done_of, cause_of}
use Rattle.cert_check.proofs.checking.check.Goals as goal

pub returns-clause-done : goal.returns-clause-done
returns-clause-done g c = done_of _ c.checked.result _ _ c.outlines-outlines.ensures.are_entries c.checked.ensures.done

pub returns-clause-fault : goal.returns-clause-fault
returns-clause-fault g c = cause_of _ c.checked.result _ _ c.checked.ensures.fault
