use Rattle.certificate.proofs.Places.{first}
use Rattle.certificate.proofs.finding.first_place.Goals as goal

pub returns : goal.returns
returns c = first c.args.byte c.args.bytes.now c.memchr.result c.memchr.ensures
