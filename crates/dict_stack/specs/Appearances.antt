-- The strokes of a stack, in order of their first appearance. The number of a stroke is its place.
use Rattle.std.specs.Prelude.{ℕ, List, [], ◌∷◌, ◌++◌, ◌==◌, Option, fold, position, if◌then◌else◌}
use Rattle.std.specs.List.{concat, list_any}

-- the list with x behind it, unless it has it
abbrev pub with_new : List ℕ → ℕ → List ℕ
with_new found x = if list_any (λ y. x == y) found then found else found ++ x ∷ []

-- the different strokes of all outlines, in order of their first appearance
abbrev pub strokes_of_all : List (List ℕ) → List ℕ
strokes_of_all outlines = fold with_new [] (concat outlines)

-- the number of a stroke among these
abbrev pub stroke_number_of : List ℕ → ℕ → Option ℕ
stroke_number_of strokes stroke = position (λ other. stroke == other) strokes
