use Rattle.audit_top.proofs.Headlines.{explains, lists, upgrades, verifies}
use Rattle.audit_top.proofs.top.run_plain.Goals as goal

pub returns-clause-explains : goal.returns-clause-explains
returns-clause-explains g c = explains _ _ _ _ c.run_given_plain.ensures

pub returns-clause-verifies : goal.returns-clause-verifies
returns-clause-verifies g c = verifies _ _ _ _ c.run_given_plain.ensures

pub returns-clause-lists : goal.returns-clause-lists
returns-clause-lists g c = lists _ _ _ _ c.run_given_plain.ensures

pub returns-clause-upgrades : goal.returns-clause-upgrades
returns-clause-upgrades g c = upgrades _ _ _ _ c.run_given_plain.ensures
