-- The lines of a trial, part by part.
use Rattle.std.proofs.Common.{◌≡◌, List, ℕ, [], ◌∷◌, ◌++◌, refl, append_assoc}
use Rattle.std.specs.Prelude.{codes}
use Rattle.text_rules.specs.Lines.{line}

-- the parts of a conflict's line, added one after another
pub conflict_added : (old place strokes words : List ℕ) →
    ((((((old ++ codes "place ") ++ place) ++ codes " strokes ") ++ strokes) ++ codes " words ") ++ words) ++ 10 ∷ []
    ≡ old ++ line (codes "place" ∷ place ∷ codes "strokes" ∷ strokes ∷ codes "words" ∷ words ∷ [])
conflict_added old place strokes words = simp (append_assoc) refl

-- those of a brief's line
pub brief_added : (old brief count : List ℕ) →
    ((((old ++ codes "try ") ++ brief) ++ codes " conflicts ") ++ count) ++ 10 ∷ [] ≡ old ++ line (codes "try" ∷ brief ∷ codes "conflicts" ∷ count ∷ [])
brief_added old brief count = simp (append_assoc) refl
