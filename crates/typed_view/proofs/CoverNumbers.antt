-- Which entries cross boundaries.
use Rattle.std.proofs.Common.{ℕ, zero, suc, ◌≡◌, ◌-◌, ◌<◌, List, [], ◌∷◌, All, length, map, subst, Option, Some, None, IfSome, Bool, true, false, nat_le, cond, arith}
use Rattle.std.proofs.lemmas.List.Elements.{All-cons}
use Rattle.stroke.specs.declared.pieces.Piece.{Piece}
use Rattle.typed_view.specs.Covers.{IsCoverOf, cover_at, cover_in, covers_of, inner_boundaries}
use Rattle.typed_view.specs.declared.boundaries.Cover.{Cover}
use Rattle.typed_view.specs.declared.boundaries.Cover.TheVariants.{Kept, Crossed}

-- the piece is one of these entries, or none
abbrev pub IsPieceOf : List (List ℕ) → Piece → Type 0
IsPieceOf entries piece = IfSome piece.entry (λ e. e < length entries)

in_piece : (entries : List (List ℕ)) (entry : Option ℕ) (at : ℕ) → IfSome entry (λ e. e < length entries) → IsCoverOf entries (cover_in entry at)
in_piece entries entry zero is = tt
in_piece entries None (suc at) is = tt
in_piece entries (Some entry) (suc at) is = is

at_boundary : (entries : List (List ℕ)) (pieces : List Piece) (at : ℕ) → All (IsPieceOf entries) pieces → IsCoverOf entries (cover_at pieces at)
at_boundary entries [] at are = tt
at_boundary entries (piece ∷ pieces) at are =
    by (nat_le piece.len at) (at_boundary entries pieces (at - piece.len) (λ k d below. are (suc k) d (omega (arith, below))))
  where
    by : (b : Bool) → IsCoverOf entries (cover_at pieces (at - piece.len)) → IsCoverOf entries (cond b (cover_at pieces (at - piece.len)) (cover_in piece.entry at))
    by true later = later
    by false later = in_piece entries piece.entry at (are 0 piece (omega arith))

at_all : (entries : List (List ℕ)) (pieces : List Piece) (boundaries : List ℕ) → All (IsPieceOf entries) pieces → All (IsCoverOf entries) (map (cover_at pieces) boundaries)
at_all entries pieces [] are = λ k d below. absurd (omega (arith, below))
at_all entries pieces (at ∷ boundaries) are =
    All-cons (IsCoverOf entries) (cover_at pieces at) (map (cover_at pieces) boundaries) (at_boundary entries pieces at are) (at_all entries pieces boundaries are)

-- where pieces are of these entries, so is what crosses boundaries
pub covers-of_entries : (entries : List (List ℕ)) (parts : List ℕ) (pieces : List Piece) → All (IsPieceOf entries) pieces → All (IsCoverOf entries) (covers_of parts pieces)
covers-of_entries entries parts pieces are = at_all entries pieces (inner_boundaries parts) are
