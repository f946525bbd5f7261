use Rattle.audit_certificate.specs.OwnCertificates.{reached_states}
use Rattle.audit_certificate.proofs.OwnCertificates.{own_lines, own_valid}
use Rattle.audit_certificate.proofs.RunLemmas.{longest_runs}
use Rattle.audit_certificate.proofs.own_certificates.Goals as goal

pub returns : goal.returns
returns c = record {
  valid = own_valid;
  lines = own_lines;
  runs = λ table. longest_runs (reached_states table);
}
