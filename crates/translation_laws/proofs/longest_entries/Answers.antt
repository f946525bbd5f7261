use Rattle.translation_laws.proofs.PieceLemmas.{longest-is, longest-only}
use Rattle.translation_laws.proofs.longest_entries.Goals as goal

pub returns : goal.returns
returns c = record { is = longest-is; only = longest-only }
