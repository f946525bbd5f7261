-- Words that a search leaves when it is done, in whatever order it made its moves.
use Rattle.std.specs.Prelude.{ℕ, ◌≡◌, ◌<◌, ◌≤◌, List, length, slice_index}
use Rattle.graph_rules.specs.Graphs.{HasTarget, IsBest, Stands, moved}

-- the start's word is 0, each word stands, and each move of each reached number was relaxed with the number's least distance
pub record AreRelaxed (origin : ℕ) (lists : List (List ℕ)) (words : List ℕ) : Type 0 where
  pub count : length words ≡ length lists
  pub start : slice_index words origin ≡ 0
  pub stand : (s : ℕ) → s < length lists → Stands origin lists s (slice_index words s)
  pub moves : (s n t : ℕ) → IsBest origin lists s n → HasTarget lists s t → t < length lists → slice_index words t ≤ moved n s
