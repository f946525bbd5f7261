use Rattle.certificate.proofs.Places.{last}
use Rattle.certificate.proofs.finding.last_place.Goals as goal

pub returns : goal.returns
returns c = last c.args.byte c.args.bytes.now c.memrchr.result c.memrchr.ensures
