-- What becomes of the boundaries between the parts of a typed sequence.
--     inner_boundaries parts            after how many strokes each boundary between two parts lies
--     IsCrossed pieces at entry place   a piece of this entry begins `place` strokes before the boundary and ends behind it
--     IsCover pieces at cover           what becomes of the boundary
--     cover_at pieces at                the same as a function
use Rattle.std.specs.Prelude.{ℕ, zero, suc, ◌≡◌, ◌+◌, ◌-◌, ◌<◌, ⊤, List, [], ◌∷◌, ◌++◌, length, map, take, sum_by, Option, Some, None, nat_le, if◌then◌else◌}
use Rattle.stroke.specs.declared.pieces.Piece.{Piece}
use Rattle.typed_view.specs.declared.boundaries.Cover.{Cover}
use Rattle.typed_view.specs.declared.boundaries.Cover.TheVariants.{Kept, Crossed}

-- after how many strokes each of these parts ends, where so many stand before them
abbrev pub ends_behind : ℕ → List ℕ → List ℕ
ends_behind before [] = []
ends_behind before (part ∷ parts) = (before + part) ∷ ends_behind (before + part) parts

-- the ends of all parts but the last
abbrev pub inner_boundaries : List ℕ → List ℕ
inner_boundaries parts = ends_behind 0 (take (length parts - 1) parts)

-- how many strokes these pieces have
abbrev pub piece_strokes : List Piece → ℕ
piece_strokes pieces = sum_by (λ piece. piece.len) pieces

pub record IsCrossed (pieces : List Piece) (at entry place : ℕ) : Type 0 where
  pub before : List Piece
  pub piece : Piece
  pub behind : List Piece
  pub split : pieces ≡ before ++ (piece ∷ behind)
  pub is_entry : piece.entry ≡ Some entry
  pub begins : piece_strokes before + place ≡ at
  pub after_start : 0 < place
  pub before_end : place < piece.len

abbrev pub IsCover : List Piece → ℕ → Cover → Type 0
IsCover pieces at Kept = (entry place : ℕ) → IsCrossed pieces at entry place → ⊥
IsCover pieces at (Crossed entry place) = IsCrossed pieces at entry place

-- ---- the same as a function

-- a boundary so many strokes after the start of a piece, and before its end
abbrev pub cover_in : Option ℕ → ℕ → Cover
cover_in entry zero = Kept
cover_in None (suc n) = Kept
cover_in (Some entry) (suc n) = Crossed entry (suc n)

abbrev pub cover_at : List Piece → ℕ → Cover
cover_at [] at = Kept
cover_at (piece ∷ pieces) at =
    if nat_le piece.len at then cover_at pieces (at - piece.len) else cover_in piece.entry at

-- what becomes of each inner boundary of these parts
abbrev pub covers_of : List ℕ → List Piece → List Cover
covers_of parts pieces = map (cover_at pieces) (inner_boundaries parts)

-- where an entry crosses the boundary, its number is one of these entries
abbrev pub IsCoverOf : List (List ℕ) → Cover → Type 0
IsCoverOf entries Kept = ⊤
IsCoverOf entries (Crossed entry place) = entry < length entries
