use Rattle.certificate_laws.proofs.ConflictRows.{valid_rows}
use Rattle.certificate_laws.proofs.NearLemmas.{least_below}
use Rattle.certificate_laws.proofs.valid_certificates.Goals as goal

pub returns : goal.returns
returns c = record {
  conflicts = λ entries flags bytes are valid. (valid_rows entries flags bytes are valid).0;
  number = λ entries flags bytes are valid. (valid_rows entries flags bytes are valid).1;
  few = least_below;
}
