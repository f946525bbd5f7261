-- Where the last stroke of a state leads from a node.
use Rattle.std.proofs.Common.{◌≡◌, ℕ, ◌-◌, ◌≤◌, List, [], ◌++◌, length, take, drop, sym, ap, ◌∙◌, arith, Some, append-nil}
use Rattle.std.proofs.lemmas.Bool.{le-leb}
use Rattle.std.proofs.lemmas.List.{length_push}
use Rattle.steno_rules.specs.Nodes.{nodes}
use Rattle.steno_rules.specs.Outlines.{entry_number}
use Rattle.steno_rules.specs.StateNumbers.{longer}
use Rattle.steno_rules.proofs.NodeLemmas.{nodes-rising}
use Rattle.steno_rules.proofs.Numbers.{entry_number-outline_of}
use Rattle.closure_laws.specs.Examples.{last_stroke}
use Rattle.outline_trie.specs.Tries.{IsLast, IsNode, child_of, node_strokes, suffix_of}
use Rattle.outline_trie.proofs.LookLemmas.{root_is}
use Rattle.closure_state.specs.declared.state.State.{State}
use Rattle.closure_state.specs.NodeStates.{state_at}
use Rattle.state_numbering.specs.Following.{followed}
use Rattle.state_numbering.proofs.StrokeLemmas.{last_of}

-- From the root it leads to the node of the stroke alone,
pub follow_alone : (entries : List (List ℕ)) (node end code : ℕ) (s : State) → node ≡ 0 → node_strokes entries end ≡ longer (state_at entries s) →
    IsLast entries end code → suffix_of entries end 1 ≡ followed entries node s
follow_alone entries node end code s first long last =
    let some : 1 ≤ length (node_strokes entries end) = omega (arith, ap length last, length_push (take (length (node_strokes entries end) - 1) (node_strokes entries end)) code) in
    rw (le-leb 1 (length (node_strokes entries end)) some)
    (ap (λ z. entry_number (nodes entries) (drop (length z - 1) z)) long
    ∙ ap (λ l. entry_number (nodes entries) (l ++ last_stroke (state_at entries s))) (sym (ap (node_strokes entries) first ∙ root_is entries)))

-- from any node to its child,
pub follow_child : (entries : List (List ℕ)) (node end code : ℕ) (s : State) → node_strokes entries end ≡ longer (state_at entries s) →
    IsLast entries end code → child_of entries node code ≡ followed entries node s
follow_child entries node end code s long last =
    ap (λ l. entry_number (nodes entries) (node_strokes entries node ++ l))
    (sym (ap (λ x. drop (length x - 1) x) (sym long) ∙ last_of (node_strokes entries end) (take (length (node_strokes entries end) - 1) (node_strokes entries end)) code last))

-- and where there is no stroke nowhere.
pub follow_none : (entries : List (List ℕ)) (node end : ℕ) (s : State) → IsNode entries node → node_strokes entries end ≡ longer (state_at entries s) →
    end ≡ 0 → Some node ≡ followed entries node s
follow_none entries node end s inside long last =
    let none : last_stroke (state_at entries s) ≡ [] = ap (λ x. drop (length x - 1) x) (sym long ∙ ap (node_strokes entries) last ∙ root_is entries) in
    sym (ap (λ l. entry_number (nodes entries) (node_strokes entries node ++ l)) none ∙ ap (entry_number (nodes entries)) (append-nil (node_strokes entries node))
    ∙ entry_number-outline_of (nodes entries) node (nodes-rising entries) inside)
