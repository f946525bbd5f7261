use Rattle.steno_rules.specs.Windows.{window}
use Rattle.steno_rules.proofs.Prefixes.{apart_front}
use Rattle.translation_laws.proofs.WindowLemmas.{segments-window}
use Rattle.translation_laws.proofs.WindowEnds.{segments-few}
use Rattle.translation_laws.proofs.Pushes.{pushes-merge, window-pushed}
use Rattle.translation_laws.proofs.window_pieces_are_enough.Goals as goal

pub returns : goal.returns
returns c = record { are = segments-window; next = window-pushed; replaced = pushes-merge; apart = apart_front; few = λ entries x. segments-few entries (window entries x) }
