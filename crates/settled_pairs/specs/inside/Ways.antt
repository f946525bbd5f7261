-- Ways to end a word while a piece stays.
--     IsWay entries words front w passed left z     z ends a word that begins with `front`, and the piece stays
--     HasNoWay ..                                   nothing does
--     IsFirstWay .. k                               k is the first such word
--     IsNearestWay entries words front w found      the fewest strokes that do, and the first word for them
use Rattle.std.specs.Prelude.{ℕ, ◌+◌, ◌<◌, ◌≤◌, ◌≡◌, true, List, [], ◌∷◌, ◌++◌, length, Some, ⊤}
use Rattle.steno_rules.specs.Outlines.{is_word, outline_of}
use Rattle.steno_rules.specs.Segments.{last_piece}
use Rattle.steno_rules.specs.Windows.{window}
use Rattle.outline_trie.specs.Tries.{IsNode, node_strokes}

-- the last piece of x has at most n strokes
abbrev pub IsLastWithin : List (List ℕ) → List ℕ → ℕ → Type 0
IsLastWithin entries x n = (p : List ℕ) → last_piece entries x ≡ Some p → length p ≤ n

-- z is written where the window is w and a piece ended `passed` strokes ago: no last piece reaches back into that piece
abbrev pub Passes : List (List ℕ) → List ℕ → ℕ → List ℕ → Type 0
Passes entries w passed [] = ⊤
Passes entries w passed (c ∷ z) =
    IsLastWithin entries (w ++ c ∷ []) (passed + 1) × Passes entries (window entries (w ++ c ∷ [])) (passed + 1) z

pub record IsWay (entries words : List (List ℕ)) (front w : List ℕ) (passed left : ℕ) (z : List ℕ) : Type 0 where
  pub long : length z ≡ left
  pub word : is_word words (front ++ z) ≡ true
  pub passes : Passes entries w passed z

abbrev pub HasNoWay : List (List ℕ) → List (List ℕ) → List ℕ → List ℕ → ℕ → ℕ → Type 0
HasNoWay entries words front w passed left = (z : List ℕ) → IsWay entries words front w passed left z → ⊥

-- no way begins with the stroke c
abbrev pub HasNoWayBy : List (List ℕ) → List (List ℕ) → List ℕ → List ℕ → ℕ → ℕ → ℕ → Type 0
HasNoWayBy entries words front w c passed left = (z : List ℕ) → IsWay entries words front w passed left (c ∷ z) → ⊥

-- the node of the window after the stroke c, which leaves the piece
pub record IsStepOn (entries : List (List ℕ)) (w : List ℕ) (c passed next : ℕ) : Type 0 where
  pub inside : IsNode entries next
  pub is : node_strokes entries next ≡ window entries (w ++ c ∷ [])
  pub within : IsLastWithin entries (w ++ c ∷ []) (passed + 1)

-- k is the number of the first word that a way ends
pub record IsFirstWay (entries words : List (List ℕ)) (front w : List ℕ) (passed left k : ℕ) : Type 0 where
  pub z : List ℕ
  pub way : IsWay entries words front w passed left z
  pub entry : k < length entries
  pub is : outline_of entries k ≡ front ++ z
  pub first : (other : ℕ) (y : List ℕ) → other < length entries → outline_of entries other ≡ front ++ y → IsWay entries words front w passed left y → k ≤ other

-- the fewest strokes of a way, and the first word that so few end
pub record IsNearestWay (entries words : List (List ℕ)) (front w : List ℕ) (found : ℕ × ℕ) : Type 0 where
  pub first : IsFirstWay entries words front w 0 found.0 found.1
  pub none_shorter : (left : ℕ) → left < found.0 → HasNoWay entries words front w 0 left
