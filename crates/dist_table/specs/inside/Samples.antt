-- The graph of the tests.
use Rattle.std.specs.Prelude.{◌≡◌, ℕ, List, [], ◌∷◌}
use Rattle.dist_table.specs.Tables.{TableView, PassView}

-- 0 leads to 1 and 2, 1 leads to 2
abbrev pub three_lists : List (List ℕ)
three_lists = (1 ∷ 2 ∷ []) ∷ (2 ∷ []) ∷ [] ∷ []

-- a table over that graph, and its pass
pub record IsOfThree (t : TableView) (p : PassView) : Type 0 where
  pub origin : t.origin ≡ 0
  pub lists : t.lists ≡ three_lists
  pub pass : p.table ≡ t
