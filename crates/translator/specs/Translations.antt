-- A translator as its callers see it, and what a push answers.
--     Translation              the entries, and all strokes that were pushed so far
--     IsMerge old new merge    the last pieces of old are replaced by one, as the merge says, which makes new
use Rattle.std.specs.Prelude.{ℕ, ◌≡◌, List, [], ◌∷◌, ◌++◌, length}
use Rattle.stroke.specs.declared.pieces.Piece.{Piece}
use Rattle.translator.specs.declared.translator.Merge.{Merge}

pub record Translation : Type 0 where
  pub entries : List (List ℕ)
  pub strokes : List ℕ

-- as many last pieces of old as are replaced are taken away, and the piece is added
pub record IsMerge (old new : List Piece) (merge : Merge) : Type 0 where
  pub kept : List Piece
  pub taken : List Piece
  pub before : old ≡ kept ++ taken
  pub count : length taken ≡ merge.replaced
  pub after : new ≡ kept ++ merge.piece ∷ []
