-- What a row of children says of the windows of its strokes.
use Rattle.std.proofs.Common.{if◌then◌else◌, ◌≡◌, ℕ, ◌+◌, ◌-◌, ◌<◌, ◌≤◌, List, [], ◌∷◌, ◌++◌, length, drop, get_or, refl, sym, ap, subst, ◌∙◌, arith, true, inl, inr, Option, Some, None, nat_le, Contains}
use Rattle.std.specs.Prelude.{unwrap_or}
use Rattle.std.proofs.lemmas.Bool.Decides.{nat_tests}
use Rattle.std.proofs.lemmas.List.{length_push, drop_at, get_or_push}
use Rattle.steno_rules.specs.Outlines.{entry_number}
use Rattle.steno_rules.specs.Nodes.{nodes}
use Rattle.steno_rules.proofs.Lists.{none_in_nil, in_cons, in_first, in_later, pairs_tail, pairs_first}
use Rattle.outline_trie.specs.Tries.{IsNode, node_strokes, child_of, suffix_of, IsLast}
use Rattle.outline_trie.proofs.LookLemmas.{root_is}
use Rattle.match_window.specs.Ends.{IsEndOf, next_window}
use Rattle.match_window.specs.inside.Rows.{IsNodeOf}
use Rattle.match_window.proofs.ChainLemmas.{chain_child, chain_shorter, chain_root}
use Rattle.match_window.proofs.RowLemmas.{child_is, root_node}
use Rattle.closure_state.proofs.ChainLemmas.{Below, first_least}
use Rattle.closure_state.specs.inside.Chains.{AreChildrenFrom}

-- the last stroke of a list is one
pub snoc_last : (x y : List ℕ) (c e : ℕ) → x ++ c ∷ [] ≡ y ++ e ∷ [] → c ≡ e
snoc_last x y c e same =
    let long : length y ≡ length x = omega (arith, ap length same, length_push x c, length_push y e) in
    sym (get_or_push x c 0 (length x) refl) ∙ ap (λ l. get_or l (length x) 0) same ∙ get_or_push y e 0 (length x) long

-- The child by a node's last stroke,
pub by_last : (entries : List (List ℕ)) (node other stroke : ℕ) (found : Option ℕ) → IsLast entries other stroke → found ≡ child_of entries node stroke →
    (x : List ℕ) (code : ℕ) → node_strokes entries other ≡ x ++ code ∷ [] → found ≡ child_of entries node code
by_last entries node other stroke found last is x code ends = is ∙ ap (child_of entries node) (snoc_last _ x stroke code (sym last ∙ ends))

-- which each node but the root has.
pub by_none : (entries : List (List ℕ)) (other : ℕ) (x : List ℕ) (code : ℕ) → other ≡ 0 → node_strokes entries other ≡ x ++ code ∷ [] → ⊥
by_none entries other x code root ends = omega (arith, ap length ends, length_push x code, ap (λ n. length (node_strokes entries n)) root, ap length (root_is entries))

-- the node of the last stroke alone is the root's child by it
pub alone_child : (entries : List (List ℕ)) (node : ℕ) (x : List ℕ) (code : ℕ) → node_strokes entries node ≡ x ++ code ∷ [] → suffix_of entries node 1 ≡ child_of entries 0 code
alone_child entries node x code ends = subst (λ y. (if nat_le 1 (length y) then (entry_number (nodes entries) (drop (length y - 1) y)) else None) ≡ child_of entries 0 code) (sym ends) at_end
  where
    some : nat_le 1 (length (x ++ code ∷ [])) ≡ true
    some = let long : length (x ++ code ∷ []) ≡ length x + 1 = length_push x code in grind (arith, nat_tests)

    only : drop (length (x ++ code ∷ []) - 1) (x ++ code ∷ []) ≡ code ∷ []
    only = drop_at x (code ∷ []) (length (x ++ code ∷ []) - 1) (omega (arith, length_push x code))

    at_end : (if nat_le 1 (length (x ++ code ∷ [])) then (entry_number (nodes entries) (drop (length (x ++ code ∷ []) - 1) (x ++ code ∷ []))) else None) ≡ child_of entries 0 code
    at_end = rw (some, only) (ap (λ l. entry_number (nodes entries) (l ++ code ∷ [])) (sym (root_is entries)))

-- A child of a node has its strokes and one more.
pub child_ends : (entries : List (List ℕ)) (node code child : ℕ) → child_of entries node code ≡ Some child → node_strokes entries child ≡ node_strokes entries node ++ code ∷ []
child_ends entries node code child found = (child_is entries node code child found).is

-- Where a walk along the chain finds a child, that is the window,
pub window_found : (entries : List (List ℕ)) (node end code child : ℕ) → next_window entries (node_strokes entries node) code ≡ next_window entries (node_strokes entries end) code → child_of entries end code ≡ Some child →
    IsNodeOf entries (next_window entries (node_strokes entries node) code) child
window_found entries node end code child same found = let at = chain_child entries end code child found in record { inside = at.inside; is = at.is ∙ sym same }

-- and where it ends at the root, the window is that of the stroke alone.
pub window_alone : (entries : List (List ℕ)) (node opened code child : ℕ) (found : Option ℕ) (result : ℕ) → next_window entries (node_strokes entries node) code ≡ next_window entries (node_strokes entries 0) code →
    child_of entries opened code ≡ Some child → found ≡ suffix_of entries child 1 → result ≡ unwrap_or found 0 → IsNodeOf entries (next_window entries (node_strokes entries node) code) result
window_alone entries node opened code child found result same of told is = by found (told ∙ alone_child entries child (node_strokes entries opened) code (child_ends entries opened code child of)) is
  where
    by : (o : Option ℕ) → o ≡ child_of entries 0 code → result ≡ unwrap_or o 0 → IsNodeOf entries (next_window entries (node_strokes entries node) code) result
    by None none e = record { inside = subst (IsNode entries) (sym e) (root_node entries).inside; is = ap (node_strokes entries) e ∙ root_is entries ∙ sym (same ∙ ap (λ x. next_window entries x code) (root_is entries) ∙ chain_root entries code (sym none)) }
    by (Some k) some e = window_found entries node 0 code result same (sym some ∙ ap (λ n. Some n) (sym e))

-- Where an end has no child by a stroke, its shorter end has the same window.
pub same_shorter : (entries : List (List ℕ)) (node end code : ℕ) → IsEndOf entries node end → child_of entries node code ≡ None → next_window entries (node_strokes entries node) code ≡ next_window entries (node_strokes entries end) code
same_shorter entries node end code e none = chain_shorter entries node end code e none

-- ---- steps of a row

-- Nothing is left of a row.
pub row_done : (entries : List (List ℕ)) (opened bound c : ℕ) (row : List (ℕ × ℕ)) → AreChildrenFrom entries opened bound row → row ≡ [] → bound ≤ c → child_of entries opened c ≡ None
row_done entries opened bound c row children none from = by (child_of entries opened c) refl
  where
    by : (o : Option ℕ) → child_of entries opened c ≡ o → o ≡ None
    by None e = refl
    by (Some child) e = absurd (none_in_nil (c, child) (subst (λ l. Contains l (c, child)) none ((children.each c child).1 (from, e))))

-- The first child of a row is the next one.
pub record IsFirstChild (entries : List (List ℕ)) (opened bound : ℕ) (p : ℕ × ℕ) (rest : List (ℕ × ℕ)) : Type 0 where
  pub from : bound ≤ p.0
  pub child : child_of entries opened p.0 ≡ Some p.1
  pub before : (c : ℕ) → bound ≤ c → c < p.0 → child_of entries opened c ≡ None
  pub left : AreChildrenFrom entries opened (p.0 + 1) rest

pub row_first : (entries : List (List ℕ)) (opened bound : ℕ) (p : ℕ × ℕ) (rest : List (ℕ × ℕ)) → AreChildrenFrom entries opened bound (p ∷ rest) → IsFirstChild entries opened bound p rest
row_first entries opened bound p rest children =
    let first = (children.each p.0 p.1).0 (in_first p rest) in record {
      from = first.0;
      child = first.1;
      before = λ c from below. none_before c from below (child_of entries opened c) refl;
      left = record {
        rising = pairs_tail Below p rest children.rising;
        each = λ code child. (
          λ has. (let up : p.0 < code = pairs_first Below p rest (code, child) children.rising has in omega arith, ((children.each code child).0 (in_later p rest (code, child) has)).1),
          λ h. elim (in_cons p rest (code, child) ((children.each code child).1 (omega (arith, h.0, first.0), h.1))) [
            | inl is ↦ let same : p.0 ≡ code = ap (λ (q : ℕ × ℕ). q.0) is in absurd (omega (arith, h.0, same))
            | inr later ↦ later
          ],
        );
      };
    }
  where
    none_before : (c : ℕ) → bound ≤ c → c < p.0 → (o : Option ℕ) → child_of entries opened c ≡ o → o ≡ None
    none_before c from below None e = refl
    none_before c from below (Some child) e = let up = first_least p rest c child children.rising ((children.each c child).1 (from, e)) in absurd (omega (arith, up, below))

-- A child is a node.
pub child_inside : (entries : List (List ℕ)) (node code child : ℕ) → child_of entries node code ≡ Some child → IsNode entries child
child_inside entries node code child found = (child_is entries node code child found).inside
