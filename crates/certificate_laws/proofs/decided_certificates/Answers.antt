use Rattle.certificate_laws.proofs.LimitLemmas.{accepted_valid, rejected_invalid}
use Rattle.certificate_laws.proofs.decided_certificates.Goals as goal

pub returns : goal.returns
returns c = record { accepted = accepted_valid; rejected = rejected_invalid }
