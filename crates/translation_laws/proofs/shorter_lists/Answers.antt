use Rattle.translation_laws.proofs.FrontLemmas.{segments-front, piece-front}
use Rattle.translation_laws.proofs.shorter_lists.Goals as goal

pub returns : goal.returns
returns c = record { pieces = segments-front; piece = piece-front }
