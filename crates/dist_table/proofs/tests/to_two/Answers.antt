use Rattle.std.proofs.Common.{◌≡◌, ℕ, List, Some, refl, sym, subst}
use Rattle.std.specs.Prelude.{slice_get}
use Rattle.graph_rules.specs.Graphs.{row}
use Rattle.dist_table.proofs.tests.to_two.Goals as goal

pub relax-requires-clause-walk : goal.relax-requires-clause-walk
relax-requires-clause-walk c =
    (sym c.requires.origin, (1, subst (λ (lists : List (List ℕ)). slice_get (row lists 0) 1 ≡ Some 2) (sym c.requires.lists) refl))
