use Rattle.certificate_laws.proofs.KeptMoves.{moves_by_kept}
use Rattle.certificate_laws.proofs.kept_moves.Goals as goal

pub returns : goal.returns
returns c = moves_by_kept
