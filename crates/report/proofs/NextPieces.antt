-- The pieces of strokes as a program has them, one after another.
use Rattle.std.proofs.Common.{◌≡◌, ℕ, ◌+◌, ◌<◌, ◌≤◌, List, [], ◌++◌, length, take, drop, get_or, sym, ap, subst, ◌∙◌, arith, IfSome, length-append}
use Rattle.std.specs.List.{concat}
use Rattle.std.proofs.lemmas.List.{drop_at, get_or-map, length-map, take_at}
use Rattle.steno_rules.specs.Outlines.{entry_number}
use Rattle.steno_rules.specs.Segments.{segments}
use Rattle.stroke.specs.declared.pieces.Piece.{Piece}
use Rattle.stroke.specs.Pieces.{piece_of, pieces as pieces_of}
use Rattle.stroke.proofs.PieceFacts.{pieces-numbers}
use Rattle.report.proofs.Bars.{concat_next}

-- the piece at a place, where these strokes are left
pub record IsNext (entries : List (List ℕ)) (x : List ℕ) (i : ℕ) (rest : List ℕ) (piece : Piece) : Type 0 where
  pub inside : i < length (segments entries x)
  pub fits : piece.len ≤ length rest
  pub entry : IfSome piece.entry (λ e. e < length entries)
  pub number : piece.entry ≡ entry_number entries (get_or (segments entries x) i [])
  pub first : take piece.len rest ≡ get_or (segments entries x) i []
  pub others : drop piece.len rest ≡ concat (drop (i + 1) (segments entries x))

pub next_piece : (entries : List (List ℕ)) (x : List ℕ) (pieces : List Piece) (i : ℕ) (d : Piece) (rest : List ℕ) → pieces ≡ pieces_of entries x → i < length pieces →
    rest ≡ concat (drop i (segments entries x)) → IsNext entries x i rest (get_or pieces i d)
next_piece entries x pieces i d rest are below rest_is =
    let segs : List (List ℕ) = segments entries x in
    let inside : i < length segs = omega (arith, below, ap length are, length-map segs (piece_of entries)) in
    let piece_is : get_or pieces i d ≡ piece_of entries (get_or segs i []) = ap (λ (l : List Piece). get_or l i d) are ∙ get_or-map (piece_of entries) segs i [] d inside in
    let long : (get_or pieces i d).len ≡ length (get_or segs i []) = ap (λ (p : Piece). p.len) piece_is in
    let parts : rest ≡ get_or segs i [] ++ concat (drop (i + 1) segs) = rest_is ∙ concat_next segs i inside in
    record {
      inside = inside;
      fits = omega (arith, long, ap length parts, length-append (get_or segs i []) (concat (drop (i + 1) segs)));
      entry = subst (λ (l : List Piece). IfSome (get_or l i d).entry (λ e. e < length entries)) (sym are) (pieces-numbers entries x i d (omega (arith, below, ap length are)));
      number = ap (λ (p : Piece). p.entry) piece_is;
      first = ap (take (get_or pieces i d).len) parts ∙ take_at (get_or segs i []) (concat (drop (i + 1) segs)) (get_or pieces i d).len (sym long);
      others = ap (drop (get_or pieces i d).len) parts ∙ drop_at (get_or segs i []) (concat (drop (i + 1) segs)) (get_or pieces i d).len (sym long);
    }
