use Rattle.translation_laws.proofs.WindowLemmas.{segments-push}
use Rattle.translation_laws.proofs.Pushes.{segments-appended, pushes}
use Rattle.translation_laws.proofs.one_more_stroke.Goals as goal

pub returns : goal.returns
returns c = record { merged = segments-push; replaces = segments-appended; stay = λ entries x c. let both = pushes entries x c in (both.0, both.1) }
