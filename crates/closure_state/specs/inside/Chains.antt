-- The strokes by which the ends of a window have children.
use Rattle.match_window.specs.Ends.{next_window}
use Rattle.closure_state.specs.declared.chain.Chain.{Chain}
use Rattle.std.specs.Prelude.{ℕ, List, [], ◌∷◌, ◌+◌, ◌≡◌, ◌<◌, ◌≤◌, ◌⊎◌, ◌↔◌, AllPairs, length, nat_le, nat_eq, Option, Some, None, if◌then◌else◌, Contains}
use Rattle.outline_trie.specs.Tries.{IsNode, node_strokes, child_of}

-- the window of x and the stroke is that of y and the stroke, or both have at most d strokes
abbrev pub AreAlike : List (List ℕ) → ℕ → List ℕ → List ℕ → ℕ → Type 0
AreAlike entries d x y c = (next_window entries x c ≡ next_window entries y c) ⊎ ((length (next_window entries x c) ≤ d) × (length (next_window entries y c) ≤ d))

-- this for two nodes and all strokes
abbrev pub AreAlikeEnds : List (List ℕ) → ℕ → ℕ → ℕ → Type 0
AreAlikeEnds entries d node end = (c : ℕ) → AreAlike entries d (node_strokes entries node) (node_strokes entries end) c

-- the child is the node of the window of x and the stroke, which has more than d strokes
pub record LeadsTo (entries : List (List ℕ)) (d : ℕ) (x : List ℕ) (c child : ℕ) : Type 0 where
  pub inside : IsNode entries child
  pub is : node_strokes entries child ≡ next_window entries x c
  pub long : d < length (next_window entries x c)

-- The pairs are the strokes from `bound` on by which x leads to a node that isn't found from y as well.
pub record IsRest (entries : List (List ℕ)) (d : ℕ) (x y : List ℕ) (bound : ℕ) (rest : List (ℕ × ℕ)) : Type 0 where
  pub rising : AllPairs (λ a b. a.0 < b.0) rest
  pub from : (c child : ℕ) → Contains rest (c, child) → (bound ≤ c) × LeadsTo entries d x c child
  pub others : (c : ℕ) → bound ≤ c → ((child : ℕ) × Contains rest (c, child)) ⊎ AreAlike entries d x y c

-- This for two nodes and all strokes.
abbrev pub IsRestBefore : List (List ℕ) → ℕ → ℕ → ℕ → List (ℕ × ℕ) → Type 0
IsRestBefore entries d node end rest = IsRest entries d (node_strokes entries node) (node_strokes entries end) 0 rest

-- The least stroke from `bound` on by which x leads to a window of more than d strokes, with the node of that window.
abbrev pub IsLeastStroke : List (List ℕ) → ℕ → List ℕ → ℕ → Option (ℕ × ℕ) → Type 0
IsLeastStroke entries d x bound None = (c : ℕ) → bound ≤ c → length (next_window entries x c) ≤ d
IsLeastStroke entries d x bound (Some p) = (bound ≤ p.0) × LeadsTo entries d x p.0 p.1 × ((c : ℕ) → bound ≤ c → c < p.0 → length (next_window entries x c) ≤ d)

-- the first pair, or the other where its stroke is less
abbrev pub lesser : List (ℕ × ℕ) → Option (ℕ × ℕ) → Option (ℕ × ℕ)
lesser [] found = found
lesser (p ∷ rest) None = Some p
lesser (p ∷ rest) (Some q) = if nat_le p.0 q.0 then Some p else Some q

-- without the pair of that stroke at the front
abbrev pub past : ℕ → List (ℕ × ℕ) → List (ℕ × ℕ)
past c [] = []
past c (p ∷ rest) = if nat_eq p.0 c then rest else p ∷ rest

-- The children of a node by the strokes from `bound` on.
pub record AreChildrenFrom (entries : List (List ℕ)) (node bound : ℕ) (row : List (ℕ × ℕ)) : Type 0 where
  pub rising : AllPairs (λ a b. a.0 < b.0) row
  pub each : (code child : ℕ) → Contains row (code, child) ↔ ((bound ≤ code) × (child_of entries node code ≡ Some child))

-- The rows of a chain of ends that begins at x: two rows that are walked, and the ends below them.
pub record IsChainOfEnds (entries : List (List ℕ)) (x : List ℕ) (bound : ℕ) (chain : Chain) : Type 0 where
  pub mid : List ℕ
  pub first : IsRest entries chain.depth x mid bound chain.top.now
  pub second : IsRest entries chain.depth mid (node_strokes entries chain.below) bound chain.low.now

-- what is left of a chain after the stroke that was found, if any
abbrev pub IsChainAfter : List (List ℕ) → List ℕ → ℕ → Option (ℕ × ℕ) → Chain → Type 0
IsChainAfter entries x bound None chain = IsChainOfEnds entries x bound chain
IsChainAfter entries x bound (Some p) chain = IsChainOfEnds entries x (p.0 + 1) chain

-- The least stroke of a chain is found, and the rows are walked past it.
pub record IsChainStep (entries : List (List ℕ)) (x : List ℕ) (bound : ℕ) (found : Option (ℕ × ℕ)) (chain : Chain) : Type 0 where
  pub least : IsLeastStroke entries chain.depth x bound found
  pub left : IsChainAfter entries x bound found chain
