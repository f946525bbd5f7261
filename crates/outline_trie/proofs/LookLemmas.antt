-- What the look-ups along a path find.
use Rattle.std.proofs.Common.{◌≡◌, ℕ, ◌+◌, ◌-◌, ◌<◌, ◌≤◌, List, [], ◌∷◌, ◌++◌, length, take, drop, get_or, refl, sym, ap, subst, ◌∙◌, arith, inl, inr, Option, Some, None, is_some, false, nat_le}
use Rattle.std.proofs.lemmas.Bool.{cases_lt, le-leb}
use Rattle.std.proofs.lemmas.Bool.Decides.{nat_tests, same_from_decides}
use Rattle.std.proofs.lemmas.Option.{none-some}
use Rattle.std.proofs.lemmas.List.{get_or_default, get_or_read, take-append-drop, take_more, length_push, drop-append-le, drop_all, take_all, take_at}
use Rattle.outline_trie.specs.inside.Tables.{IsStep, none_number, written_number}
use Rattle.outline_trie.specs.inside.Invariants.{IsTrie}
use Rattle.outline_trie.specs.Tries.{IsNode, AreChildren, child_of, node_strokes, suffix_of, IsParent, IsLast}
use Rattle.steno_rules.specs.Outlines.{is_entry, outline_of, entry_number}
use Rattle.steno_rules.specs.Windows.{is_prefix}
use Rattle.steno_rules.specs.Nodes.{nodes}
use Rattle.steno_rules.proofs.Entries.{is_entry-Decides}
use Rattle.steno_rules.proofs.Numbers.{entry_number-Some, entry_number-outline_of, number_test, none_there}
use Rattle.steno_rules.proofs.NodeLemmas.{nodes-rising, nodes-first, nodes-Contains}
use Rattle.steno_rules.proofs.Prefixes.{apart_front}
use Rattle.outline_trie.proofs.DepthLemmas.{node_short}

-- ---- what has a number

pub root_is : (entries : List (List ℕ)) → outline_of (nodes entries) 0 ≡ []
root_is entries = ap (λ ys. outline_of ys 0) (nodes-first entries).1

pub root_inside : (entries : List (List ℕ)) → 0 < length (nodes entries)
root_inside entries = omega (arith, ap length (nodes-first entries).1)

pub root_number : (entries : List (List ℕ)) → entry_number (nodes entries) [] ≡ Some 0
root_number entries = ap (entry_number (nodes entries)) (sym (root_is entries)) ∙ entry_number-outline_of (nodes entries) 0 (nodes-rising entries) (root_inside entries)

pub number_there : (entries : List (List ℕ)) (x : List ℕ) (node : ℕ) → node < length (nodes entries) → outline_of (nodes entries) node ≡ x → entry_number (nodes entries) x ≡ Some node
number_there entries x node inside is = ap (entry_number (nodes entries)) (sym is) ∙ entry_number-outline_of (nodes entries) node (nodes-rising entries) inside

-- A list is a node where it begins an entry.
pub node_test : (entries : List (List ℕ)) (x : List ℕ) → is_some (entry_number (nodes entries) x) ≡ is_prefix entries x
node_test entries x =
    let begun = nodes-Contains entries x in
    number_test (nodes entries) x ∙ same_from_decides (is_entry (nodes entries) x) (is_prefix entries x) (is_entry-Decides (nodes entries) x) (begun.1, begun.0)

-- a longer list is no node where its front is none
pub front_none : (entries : List (List ℕ)) (x y : List ℕ) → entry_number (nodes entries) x ≡ None → entry_number (nodes entries) (x ++ y) ≡ None
front_none entries x y none = none_there (entry_number (nodes entries) (x ++ y)) (node_test entries (x ++ y) ∙ apart_front entries x y (sym (node_test entries x) ∙ ap is_some none))

-- ---- along a list of strokes

-- a node of the first strokes of a list
pub record IsFound (entries : List (List ℕ)) (strokes : List ℕ) (count node : ℕ) : Type 0 where
  pub inside : node < length (nodes entries)
  pub is : outline_of (nodes entries) node ≡ take count strokes

pub found_none : (entries : List (List ℕ)) (strokes : List ℕ) → IsFound entries strokes 0 0
found_none entries strokes = record { inside = root_inside entries; is = root_is entries }

more_strokes : (entries : List (List ℕ)) (strokes : List ℕ) (count node stroke : ℕ) → IsFound entries strokes count node → count < length strokes → stroke ≡ get_or strokes count 0 →
    outline_of (nodes entries) node ++ stroke ∷ [] ≡ take (count + 1) strokes
more_strokes entries strokes count node stroke f inside is = ap (λ u. u ++ stroke ∷ []) f.is ∙ ap (λ c. take count strokes ++ c ∷ []) is ∙ sym (take_more strokes count 0 inside)

pub found_more : (entries : List (List ℕ)) (strokes : List ℕ) (count node stroke next : ℕ) → IsFound entries strokes count node → count < length strokes → stroke ≡ get_or strokes count 0 →
    child_of entries node stroke ≡ Some next → IsFound entries strokes (count + 1) next
found_more entries strokes count node stroke next f inside is found =
    let n = entry_number-Some (nodes entries) (outline_of (nodes entries) node ++ stroke ∷ []) next found in
    record { inside = n.0; is = n.1 ∙ more_strokes entries strokes count node stroke f inside is }

pub found_all : (entries : List (List ℕ)) (strokes : List ℕ) (count node : ℕ) → IsFound entries strokes count node → length strokes ≤ count → entry_number (nodes entries) strokes ≡ Some node
found_all entries strokes count node f all = number_there entries strokes node f.inside (f.is ∙ take_all count strokes all)

pub lost : (entries : List (List ℕ)) (strokes : List ℕ) (count node stroke : ℕ) → IsFound entries strokes count node → count < length strokes → stroke ≡ get_or strokes count 0 →
    child_of entries node stroke ≡ None → entry_number (nodes entries) strokes ≡ None
lost entries strokes count node stroke f inside is none =
    ap (entry_number (nodes entries)) (sym (take-append-drop (count + 1) strokes))
    ∙ front_none entries (take (count + 1) strokes) (drop (count + 1) strokes) (ap (entry_number (nodes entries)) (sym (more_strokes entries strokes count node stroke f inside is)) ∙ none)

-- ---- up to the parent

pub parent_is : (entries : List (List ℕ)) (node parent stroke : ℕ) → IsStep (nodes entries) node parent stroke → IsParent entries node parent
parent_is entries node parent stroke s = record { before = s.before; front = front (node_strokes entries parent) (node_strokes entries node) s.is }
  where
    front : (u x : List ℕ) → x ≡ u ++ stroke ∷ [] → u ≡ take (length x - 1) x
    front u x is = sym (ap (λ v. take (length v - 1) v) is ∙ take_at u (stroke ∷ []) (length (u ++ stroke ∷ []) - 1) (omega (arith, length_push u stroke)))

pub last_is : (entries : List (List ℕ)) (node parent stroke : ℕ) → IsStep (nodes entries) node parent stroke → IsLast entries node stroke
last_is entries node parent stroke s = s.is ∙ ap (λ u. u ++ stroke ∷ []) (parent_is entries node parent stroke s).front

-- ---- the last strokes of a node

too_many : (a b : ℕ) → b < a → nat_le a b ≡ false
too_many a b h = grind (arith, nat_tests)

pub suffix_none : (entries : List (List ℕ)) (node : ℕ) → suffix_of entries node 0 ≡ Some 0
suffix_none entries node =
    rw (le-leb 0 (length (node_strokes entries node)) (omega arith), drop_all (length (node_strokes entries node) - 0) (node_strokes entries node) (omega arith)) (root_number entries)

pub suffix_of_root : (entries : List (List ℕ)) (node len : ℕ) → node ≡ 0 → 0 < len → suffix_of entries node len ≡ None
suffix_of_root entries node len first some = rw (too_many len (length (node_strokes entries node)) (omega (arith, ap (λ n. length (node_strokes entries n)) first, ap length (root_is entries)))) refl

-- the ends of a node, by those of its parent
ends : (u x : List ℕ) (stroke len : ℕ) → x ≡ u ++ stroke ∷ [] → 0 < len → len ≤ length x → drop (length x - len) x ≡ drop (length u - (len - 1)) u ++ stroke ∷ []
ends u x stroke len is some fits =
    ap (λ v. drop (length v - len) v) is
    ∙ ap (λ n. drop n (u ++ stroke ∷ [])) (same (length (u ++ stroke ∷ [])) (length u) (length_push u stroke))
    ∙ drop-append-le (length u - (len - 1)) u (stroke ∷ []) (omega arith)
  where
    same : (a b : ℕ) → a ≡ b + 1 → a - len ≡ b - (len - 1)
    same a b e = omega arith

pub suffix_more : (entries : List (List ℕ)) (node parent stroke len begun : ℕ) → IsStep (nodes entries) node parent stroke → 0 < len → suffix_of entries parent (len - 1) ≡ Some begun →
    suffix_of entries node len ≡ child_of entries begun stroke
suffix_more entries node parent stroke len begun s some found = elim (cases_lt (length (node_strokes entries node)) len) [
  | inl more ↦ absurd (none-some begun (sym (rw (too_many (len - 1) (length (node_strokes entries parent)) (omega (arith, long))) refl) ∙ found))
  | inr fits ↦
      let found' : entry_number (nodes entries) (drop (length (node_strokes entries parent) - (len - 1)) (node_strokes entries parent)) ≡ Some begun =
      rw (le-leb (len - 1) (length (node_strokes entries parent)) (omega (arith, long))) at found in
      let at = entry_number-Some (nodes entries) (drop (length (node_strokes entries parent) - (len - 1)) (node_strokes entries parent)) begun found' in
      rw (le-leb len (length (node_strokes entries node)) fits) (ap (entry_number (nodes entries)) (ends (node_strokes entries parent) (node_strokes entries node) stroke len s.is some fits ∙ ap (λ u. u ++ stroke ∷ []) (sym at.1)))
]
  where
    long : length (node_strokes entries node) ≡ length (node_strokes entries parent) + 1
    long = ap length s.is ∙ length_push (node_strokes entries parent) stroke

pub suffix_lost : (entries : List (List ℕ)) (node parent stroke len : ℕ) → IsStep (nodes entries) node parent stroke → 0 < len → suffix_of entries parent (len - 1) ≡ None → suffix_of entries node len ≡ None
suffix_lost entries node parent stroke len s some lost_above = elim (cases_lt (length (node_strokes entries node)) len) [
  | inl more ↦ rw (too_many len (length (node_strokes entries node)) more) refl
  | inr fits ↦
      let none : entry_number (nodes entries) (drop (length (node_strokes entries parent) - (len - 1)) (node_strokes entries parent)) ≡ None =
      rw (le-leb (len - 1) (length (node_strokes entries parent)) (omega (arith, long))) at lost_above in
      rw (le-leb len (length (node_strokes entries node)) fits) (ap (entry_number (nodes entries)) (ends (node_strokes entries parent) (node_strokes entries node) stroke len s.is some fits)
      ∙ front_none entries (drop (length (node_strokes entries parent) - (len - 1)) (node_strokes entries parent)) (stroke ∷ []) none)
]
  where
    long : length (node_strokes entries node) ≡ length (node_strokes entries parent) + 1
    long = ap length s.is ∙ length_push (node_strokes entries parent) stroke

-- ---- by the fields of a trie

module _ (told now : List (List ℕ)) (parents strokes depths numbers : List ℕ) (rows : List (List (ℕ × ℕ))) (longest : ℕ) (t : IsTrie told parents strokes depths numbers rows longest) (is : told ≡ now) (node : ℕ) (inside : IsNode now node) where
  trie_now : IsTrie now parents strokes depths numbers rows longest
  trie_now = subst (λ es. IsTrie es parents strokes depths numbers rows longest) is t

  pub row_children : (row : List (ℕ × ℕ)) → row ≡ get_or rows node [] → AreChildren now node row
  row_children row read = subst (AreChildren now node) (sym read) (trie_now.children node inside)

  number_read : (number : ℕ) → number ≡ get_or numbers node number → number ≡ written_number (entry_number now (node_strokes now node))
  number_read number read = get_or_read numbers node number (omega (arith, trie_now.numbered.long)) read 0 ∙ trie_now.numbered.number node inside

  told_number : (o : Option ℕ) (number : ℕ) → entry_number now (node_strokes now node) ≡ o → number ≡ written_number o → (number ≡ none_number → None ≡ o) × ((number ≡ none_number → ⊥) → Some number ≡ o)
  told_number None number h e = (λ none. refl, λ some. absurd (some e))
  told_number (Some n) number h e =
      let found = entry_number-Some now (node_strokes now node) n h in
      (λ none. absurd (omega (arith, found.0, trie_now.few)), λ some. ap Some e)

  pub entry_none : (number : ℕ) → number ≡ get_or numbers node number → number ≡ none_number → None ≡ entry_number now (node_strokes now node)
  entry_none number read none = (told_number (entry_number now (node_strokes now node)) number refl (number_read number read)).0 none

  pub entry_some : (number : ℕ) → number ≡ get_or numbers node number → (number ≡ none_number → ⊥) → Some number ≡ entry_number now (node_strokes now node)
  entry_some number read some = (told_number (entry_number now (node_strokes now node)) number refl (number_read number read)).1 some

  -- a node is its parent and its stroke, as they were read
  pub step_now : 0 < node → (parent stroke : ℕ) → parent ≡ get_or parents node parent → stroke ≡ get_or strokes node stroke → IsStep (nodes now) node parent stroke
  step_now later parent stroke read told =
      subst (λ p. IsStep (nodes now) node p stroke) (sym (get_or_read parents node parent (omega (arith, trie_now.table.parents_long)) read 0))
      (subst (λ s. IsStep (nodes now) node (get_or parents node 0) s) (sym (get_or_read strokes node stroke (omega (arith, trie_now.table.strokes_long)) told 1)) (trie_now.table.step node later inside))

  pub stroke_there : get_or strokes node 1 ≡ get_or strokes node (get_or strokes node 1)
  stroke_there = get_or_default strokes node 1 (get_or strokes node 1) (omega (arith, trie_now.table.strokes_long))

  -- no node has more strokes than the trie tells of the longest entry
  pub depth_short : (depth : ℕ) → depth ≡ get_or depths node depth → depth ≤ 64
  depth_short depth read =
      omega (
        arith,
        get_or_read depths node depth (omega (arith, trie_now.table.depths_long)) read 0,
        trie_now.table.depth node inside,
        node_short now node inside,
        trie_now.most,
        trie_now.short,
      )
