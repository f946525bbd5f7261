use Rattle.translation_laws.proofs.PieceLemmas.{pieces-are, pieces-only}
use Rattle.translation_laws.proofs.single_pieces.Goals as goal

pub returns : goal.returns
returns c = record { each = pieces-are; only = pieces-only }
