-- The children of a node.
--     child_count parents node count          how many children a node has among the first `count` nodes
--     children_among parents strokes node count    the children of a node among the first `count` nodes, each with its stroke, by rising numbers
use Rattle.std.specs.Prelude.{ℕ, zero, suc, ◌+◌, ◌++◌, ◌∷◌, [], ◌&&◌, not, Bool, nat_eq, get_or, List, if◌then◌else◌}

abbrev pub is_child : List ℕ → ℕ → ℕ → Bool
is_child parents node child = not (nat_eq child 0) && nat_eq (get_or parents child 0) node

abbrev pub children_among : List ℕ → List ℕ → ℕ → ℕ → List (ℕ × ℕ)
children_among parents strokes node zero = []
children_among parents strokes node (suc count) = children_among parents strokes node count ++ (if is_child parents node count then ((get_or strokes count 1, count) ∷ []) else [])

-- how many there are
abbrev pub child_count : List ℕ → ℕ → ℕ → ℕ
child_count parents node zero = 0
child_count parents node (suc count) = child_count parents node count + (if is_child parents node count then 1 else 0)
