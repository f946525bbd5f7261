-- The list of pieces, as each push changes it.
use Rattle.std.proofs.Common.{◌≡◌, ℕ, ◌-◌, ◌≤◌, List, [], ◌∷◌, ◌++◌, length, take, sym, ap, ◌∙◌, arith, length-append}
use Rattle.std.proofs.lemmas.List.{length-map, length-take-le, take_at}
use Rattle.stroke.specs.declared.pieces.Piece.{Piece}
use Rattle.stroke.specs.Pieces.{piece_of, pieces as pieces_of}
use Rattle.steno_rules.specs.Segments.{segments}
use Rattle.translation_laws.proofs.WindowEnds.{segments-few}
use Rattle.translator.specs.declared.translator.Merge.{Merge}
use Rattle.translator.specs.Translations.{IsMerge}

-- As many pieces stand there as are replaced.
pub replaced_fits : (old new : List Piece) (merge : Merge) → IsMerge old new merge → merge.replaced ≤ length old
replaced_fits old new merge h = omega (arith, ap length h.before, length-append h.kept h.taken, h.count)

-- Done to the old pieces, the answer makes the new ones.
pub replaced_by : (old new : List Piece) (merge : Merge) → IsMerge old new merge → take (length old - merge.replaced) old ++ merge.piece ∷ [] ≡ new
replaced_by old new merge h =
    ap (λ l. l ++ merge.piece ∷ []) (ap (take (length old - merge.replaced)) h.before ∙ take_at h.kept h.taken (length old - merge.replaced) (omega (arith, ap length h.before, length-append h.kept h.taken, h.count)))
    ∙ sym h.after

-- A list has no more pieces than strokes.
pub pieces_few : (entries : List (List ℕ)) (x : List ℕ) (n : ℕ) → n ≤ length x → length (pieces_of entries (take n x)) ≤ n
pieces_few entries x n within = omega (arith, length-map (segments entries (take n x)) (piece_of entries), segments-few entries (take n x), length-take-le n x within)
