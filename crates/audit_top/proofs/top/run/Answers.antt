use Rattle.audit_top.proofs.Headlines.{explains, headline, keeps, lists, reads, tells, tries, upgrades, verifies}
use Rattle.audit_top.proofs.Certifying.{certifies}
use Rattle.audit_top.proofs.top.run.Goals as goal

pub returns-clause-headline : goal.returns-clause-headline
returns-clause-headline g c = headline _ _ _ _ c.run_given.ensures

pub returns-clause-explains : goal.returns-clause-explains
returns-clause-explains g c = explains _ _ _ _ c.run_given.ensures

pub returns-clause-verifies : goal.returns-clause-verifies
returns-clause-verifies g c = verifies _ _ _ _ c.run_given.ensures

pub returns-clause-lists : goal.returns-clause-lists
returns-clause-lists g c = lists _ _ _ _ c.run_given.ensures

pub returns-clause-upgrades : goal.returns-clause-upgrades
returns-clause-upgrades g c = upgrades _ _ _ _ c.run_given.ensures

pub returns-clause-tells : goal.returns-clause-tells
returns-clause-tells g c = tells _ _ _ _ c.run_given.ensures

pub returns-clause-certifies : goal.returns-clause-certifies
returns-clause-certifies g c = certifies _ _ _ _ c.run_given.ensures

pub returns-clause-keeps : goal.returns-clause-keeps
returns-clause-keeps g c = keeps _ _ _ _ c.run_given.ensures

pub returns-clause-reads : goal.returns-clause-reads
returns-clause-reads g c = reads _ _ _ _ c.run_given.ensures

pub returns-clause-tries : goal.returns-clause-tries
returns-clause-tries g c = tries _ _ _ _ c.run_given.ensures
