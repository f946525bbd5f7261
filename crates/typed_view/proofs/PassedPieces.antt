-- The boundaries of all parts, one after another.
use Rattle.std.proofs.Common.{ℕ, ◌≡◌, ◌+◌, ◌-◌, ◌<◌, ◌≤◌, ◌∙◌, List, [], ◌∷◌, ◌++◌, ap, sym, arith, drop, get_or, length, map, append_assoc, append-nil}
use Rattle.std.proofs.lemmas.List.{at_drop_all, drop_more}
use Rattle.stroke.specs.declared.pieces.Piece.{Piece}
use Rattle.typed_view.specs.Covers.{cover_at, ends_behind}
use Rattle.typed_view.specs.declared.boundaries.Cover.{Cover}
use Rattle.typed_view.proofs.Crossings.{cover_past}

-- the pieces from a place on, where this piece is passed
pub pass : (pieces : List Piece) (i : ℕ) (d : Piece) (left k : ℕ) → i < length pieces → (get_or pieces i d).len ≤ left
    → cover_at (drop (i + 1) pieces) (left - (get_or pieces i d).len + k) ≡ cover_at (drop i pieces) (left + k)
pass pieces i d left k inside long =
    let piece = get_or pieces i d in
    let others : List Piece = drop (i + 1) pieces in
    let shift : left + k - piece.len ≡ left - piece.len + k = omega (arith, long) in
    sym (ap (λ (l : List Piece). cover_at l (left + k)) (drop_more pieces i d inside) ∙ cover_past piece others (left + k) (omega (arith, long)) ∙ ap (cover_at others) shift)

-- the next boundary
pub next_end : (pieces : List Piece) (made : List Cover) (parts : List ℕ) (i before part : ℕ) (cover : Cover) → i < length parts → part ≡ get_or parts i 0
    → cover ≡ cover_at pieces (before + part)
    → (made ++ (cover ∷ [])) ++ map (cover_at pieces) (ends_behind (before + part) (drop (i + 1) parts)) ≡ made ++ map (cover_at pieces) (ends_behind before (drop i parts))
next_end pieces made parts i before part cover inside is cover_is =
    let others : List ℕ = drop (i + 1) parts in
    let ahead : drop i parts ≡ part ∷ others = drop_more parts i 0 inside ∙ ap (λ (n : ℕ). n ∷ others) (sym is) in
    append_assoc made (cover ∷ []) (map (cover_at pieces) (ends_behind (before + part) others))
    ∙ ap (λ (c : Cover). made ++ (c ∷ map (cover_at pieces) (ends_behind (before + part) others))) cover_is
    ∙ ap (λ (l : List ℕ). made ++ map (cover_at pieces) (ends_behind before l)) (sym ahead)

-- no boundary is left
pub no_ends : (pieces : List Piece) (made : List Cover) (parts : List ℕ) (i before : ℕ) → length parts ≤ i
    → made ++ map (cover_at pieces) (ends_behind before (drop i parts)) ≡ made
no_ends pieces made parts i before over =
    ap (λ (l : List Cover). made ++ l) (at_drop_all (λ (l : List ℕ). map (cover_at pieces) (ends_behind before l)) parts i over) ∙ append-nil made
