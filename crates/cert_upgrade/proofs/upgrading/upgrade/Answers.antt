use Rattle.cert_upgrade.proofs.UpgradeLaw.{cause_of, upgraded_of}
use Rattle.cert_upgrade.proofs.upgrading.upgrade.Goals as goal

pub returns-clause-done : goal.returns-clause-done
returns-clause-done g c = upgraded_of c.rewrite.result (g.F.Files.view c.args.files.now).held c.args.source.now c.rewrite.ensures.done

pub returns-clause-fault : goal.returns-clause-fault
returns-clause-fault g c = cause_of c.rewrite.result (g.F.Files.view c.args.files.now).held c.args.source.now c.rewrite.ensures.fault
