-- Nodes by a node and a last stroke.
use Rattle.std.proofs.Common.{◌≡◌, ℕ, ◌-◌, ◌<◌, List, [], ◌∷◌, length, take, ap, ◌∙◌, arith}
use Rattle.outline_trie.specs.Tries.{IsLast, node_strokes}
use Rattle.outline_trie.proofs.LookLemmas.{root_is}
use Rattle.reading_laws.specs.ChosenReadings.{final_stroke}
use Rattle.reading_laws.proofs.HalfLemmas.{final_stroke-push}

-- The last stroke of a node, as a list.
pub final_stroke-node : (entries : List (List ℕ)) (node code : ℕ) → IsLast entries node code → final_stroke (node_strokes entries node) ≡ code ∷ []
final_stroke-node entries node code is =
    let x : List ℕ = node_strokes entries node in
    ap final_stroke is ∙ final_stroke-push (take (length x - 1) x) code

-- The root has none.
pub root_none : (entries : List (List ℕ)) (node : ℕ) → node ≡ 0 → 0 < length (node_strokes entries node) → ⊥
root_none entries node root some = omega (arith, some, ap (λ n. length (node_strokes entries n)) root, ap length (root_is entries))
