use Rattle.cert_check.proofs.CheckLemmas.{done_told, fault_told, untold, opens_on}
use Rattle.cert_check.proofs.checking.checked.Goals as goal

pub returns-clause-done : goal.returns-clause-done
returns-clause-done g c =
    done_told c.args.stack.now c.check_lines.result (g.F.Files.view c.args.files.now).held c.args.name.now c.in-Ok.reader (g.F.Files.view c.begin.new.files) 4294967296
    c.in-Ok.ensures.reader c.in-Ok.ensures.opened.rest c.check_lines.ensures.done

pub returns-clause-fault : goal.returns-clause-fault
returns-clause-fault g c =
    fault_told c.args.stack.now c.check_lines.result (g.F.Files.view c.args.files.now).held c.args.name.now c.in-Ok.reader (g.F.Files.view c.begin.new.files) 4294967296
    c.in-Ok.ensures.reader c.in-Ok.ensures.opened.rest c.check_lines.ensures.fault

pub returns-clause-opens : goal.returns-clause-opens
returns-clause-opens g c = opens_on _ _ _ _ _ c.in-Ok.ensures.opens c.in-Ok.ensures.opened.opened c.check_lines.ensures.takes

pub returns-in-Err-clause-fault : goal.returns-in-Err-clause-fault
returns-in-Err-clause-fault g c = untold c.args.stack.now c.in-Err.fault (g.F.Files.view c.args.files.now).held c.args.name.now c.in-Err.ensures.fault
