-- The lines of a row, part by part.
use Rattle.std.proofs.Common.{◌≡◌, ℕ, List, [], ◌∷◌, ◌++◌, refl, append_assoc}
use Rattle.std.specs.Prelude.{codes}
use Rattle.text_rules.specs.Lines.{line}

-- the parts of a pair's line, added one after another
pub pair_added : (old name outline place strokes : List ℕ) →
    (((((((old ++ name) ++ 32 ∷ []) ++ outline) ++ codes " place ") ++ place) ++ codes " strokes ") ++ strokes) ++ 10 ∷ []
    ≡ old ++ line (name ∷ outline ∷ codes "place" ∷ place ∷ codes "strokes" ∷ strokes ∷ [])
pair_added old name outline place strokes = simp (append_assoc) refl

-- the parts of a skipped key's line
pub key_added : (old number key : List ℕ) →
    ((((old ++ codes "skipped-key ") ++ number) ++ 32 ∷ []) ++ key) ++ 10 ∷ [] ≡ old ++ line (codes "skipped-key" ∷ number ∷ key ∷ [])
key_added old number key = simp (append_assoc) refl
