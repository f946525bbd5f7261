use Rattle.cert_upgrade.proofs.UpgradeLaw.{never_valid, upgraded}
use Rattle.cert_upgrade.proofs.laws.upgraded_certificates.Goals as goal

pub returns : goal.returns
returns c = record { accepted = λ bytes n is. upgraded bytes n is; rejected = λ bytes line why is. never_valid bytes line why is }
