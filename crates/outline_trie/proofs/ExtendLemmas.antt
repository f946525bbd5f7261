-- The columns while the nodes of one entry are made.
use Rattle.std.proofs.Common.{◌≡◌, ℕ, suc, ◌+◌, ◌-◌, ◌<◌, ◌≤◌, List, [], ◌∷◌, ◌++◌, length, take, get_or, set, sym, ap, subst, ◌∙◌, arith, inl, inr, take_all, length-take, add-one, None, All, nat_eq}
use Rattle.std.proofs.lemmas.Bool.{cases_eq}
use Rattle.std.proofs.lemmas.List.Sums.{common_prefix_len-le}
use Rattle.outline_trie.proofs.OrderLemmas.{shared_same}
use Rattle.std.proofs.lemmas.List.{length_push, take_more, length-take-le, get_or-take, get_or_default}
use Rattle.outline_trie.specs.inside.Tables.{shared, outline_before, IsTable, IsNumbered, none_number, ancestor}
use Rattle.steno_rules.specs.Outlines.{AreRising, AreEntries, outline_of, entry_number}
use Rattle.steno_rules.specs.Nodes.{nodes}
use Rattle.steno_rules.proofs.NodeLemmas.{nodes-rising, nodes-first}
use Rattle.outline_trie.proofs.GrowLemmas.{grown, not_begun, one_stroke_more, shared_nodes, all_grown}
use Rattle.outline_trie.proofs.LengthLemmas.{length_grown_at, length_more, length_rises, last_node}
use Rattle.outline_trie.proofs.TableLemmas.{IsAbove, table_more, numbered_more, numbered_set, entry_number-None, rising_take, new_outline, up_is}

-- the columns of the nodes X, of which one is the first strokes of an outline
pub record IsExtending (before X : List (List ℕ)) (e : List ℕ) (count : ℕ) (parents strokes depths numbers : List ℕ) (node : ℕ) : Type 0 where
  pub table : IsTable X parents strokes depths
  pub numbered : IsNumbered before X numbers
  pub inside : node < length X
  pub is : outline_of X node ≡ take count e

module _ (entries : List (List ℕ)) (k : ℕ) (are : AreEntries entries) (inside : k < length entries) where
  abbrev e : List ℕ
  e = outline_of entries k

  abbrev begun : ℕ
  begun = shared (outline_before entries k) e

  -- a stroke more than the shared ones is no earlier entry
  new_number : (j : ℕ) → begun ≤ j → j < length e → entry_number (take k entries) (take (suc j) e) ≡ None
  new_number j from to = entry_number-None (take k entries) (take (suc j) e) (λ n within is.
      let below : n < k = omega (arith, length-take k entries) in
      not_begun entries k j (take (suc j) e) are.rising inside from to
      (record { i = n; below = below; is = sym is ∙ get_or-take k entries n [] below })
      (sym (take_all (length (take (suc j) e)) (take (suc j) e) (omega arith))))

  pub extend_start : (from : ℕ) (parents strokes depths numbers : List ℕ) (node : ℕ) → from ≡ begun → IsTable (nodes (take k entries)) parents strokes depths →
      IsNumbered (take k entries) (nodes (take k entries)) numbers → node < length (nodes (take k entries)) → outline_of (nodes (take k entries)) node ≡ take from e →
      IsExtending (take k entries) (nodes (grown entries k from)) e from parents strokes depths numbers node
  extend_start from parents strokes depths numbers node is t h within top =
      subst (λ X. IsExtending (take k entries) X e from parents strokes depths numbers node) (sym (ap (λ j. nodes (grown entries k j)) is ∙ shared_nodes entries k are.rising inside))
      (record { table = t; numbered = h; inside = within; is = top })

  pub extend_more : (j : ℕ) (parents strokes depths numbers : List ℕ) (node stroke depth next : ℕ) → begun ≤ j → j < length e → stroke ≡ get_or e j 0 → depth ≡ j + 1 → next ≡ length parents →
      IsExtending (take k entries) (nodes (grown entries k j)) e j parents strokes depths numbers node →
      IsExtending (take k entries) (nodes (grown entries k (j + 1))) e (j + 1) (parents ++ node ∷ []) (strokes ++ stroke ∷ []) (depths ++ depth ∷ []) (numbers ++ none_number ∷ []) next
  extend_more j parents strokes depths numbers node stroke depth next from to is deep last x =
      rw (add-one j) (subst (λ X. IsExtending (take k entries) X e (suc j) (parents ++ node ∷ []) (strokes ++ stroke ∷ []) (depths ++ depth ∷ []) (numbers ++ none_number ∷ []) next)
      (sym (one_stroke_more entries k are.rising inside j from to)) (record {
        table = table_more (nodes (grown entries k j)) parents strokes depths node stroke depth (take (suc j) e) x.table x.inside taken (deep ∙ sym long);
        numbered = numbered_more (take k entries) (nodes (grown entries k j)) numbers (take (suc j) e) x.numbered (new_number j from to);
        inside = omega (arith, last, x.table.parents_long, length_push (nodes (grown entries k j)) (take (suc j) e));
        is = new_outline (nodes (grown entries k j)) (take (suc j) e) next (last ∙ x.table.parents_long);
      }))
    where
      long : length (take (suc j) e) ≡ j + 1
      long = length-take-le (suc j) e (omega arith) ∙ sym (add-one j)

      taken : take (suc j) e ≡ outline_of (nodes (grown entries k j)) node ++ stroke ∷ []
      taken = ap (λ n. take n e) (sym (add-one j)) ∙ take_more e j 0 to ∙ ap (λ c. take j e ++ c ∷ []) (sym is) ∙ ap (λ u. u ++ stroke ∷ []) (sym x.is)

  pub extend_bound : (j : ℕ) → begun ≤ j → j ≤ length e → length (nodes (grown entries k j)) ≤ length (nodes entries)
  extend_bound j from to =
      omega (arith, length_grown_at entries k are inside j from to, length_more entries k are inside, length_rises entries (length entries - (k + 1)) (k + 1) are (omega arith))

  -- while strokes are left, so are nodes
  pub extend_below : (j : ℕ) → begun ≤ j → j < length e → length (nodes (grown entries k j)) < length (nodes entries)
  extend_below j from to =
      omega (arith, length_grown_at entries k are inside j from (omega arith), length_more entries k are inside, length_rises entries (length entries - (k + 1)) (k + 1) are (omega arith))

  pub extend_end : (j : ℕ) (parents strokes depths numbers : List ℕ) (node : ℕ) → j ≡ length e → IsExtending (take k entries) (nodes (grown entries k j)) e j parents strokes depths numbers node →
      IsExtending (take k entries) (nodes (take (k + 1) entries)) e (length e) parents strokes depths numbers node
  extend_end j parents strokes depths numbers node all x =
      subst (λ X. IsExtending (take k entries) X e (length e) parents strokes depths numbers node) (ap nodes (all_grown entries k are.rising inside))
      (subst (λ i. IsExtending (take k entries) (nodes (grown entries k i)) e i parents strokes depths numbers node) all x)

  -- the node above which the new ones hang
  pub top_is : (parents strokes depths : List ℕ) → IsTable (nodes (take k entries)) parents strokes depths →
      IsAbove (nodes (take k entries)) (length (nodes (take k entries)) - 1) (length (outline_before entries k) - begun) (ancestor parents (length parents - 1) (length (outline_before entries k) - begun))
  top_is parents strokes depths t =
      subst (λ n. IsAbove (nodes (take k entries)) (length (nodes (take k entries)) - 1) (length (outline_before entries k) - begun) (ancestor parents (n - 1) (length (outline_before entries k) - begun))) (sym t.parents_long)
      (up_is (nodes (take k entries)) parents strokes depths (length (outline_before entries k) - begun) (length (nodes (take k entries)) - 1) t
      (ap (λ ys. outline_of ys 0) (nodes-first (take k entries)).1) (omega (arith, ap length (nodes-first (take k entries)).1))
      (omega (arith, ap length (last_node entries k are (omega arith)))))

  -- what the climb found
  pub top_at : (parents strokes depths ps : List ℕ) (levels at : ℕ) → IsTable (nodes (take k entries)) parents strokes depths → ps ≡ parents → levels ≡ length (outline_before entries k) - begun → at ≡ ancestor ps (length ps - 1) levels →
      (at < length (nodes (take k entries))) × (outline_of (nodes (take k entries)) at ≡ take begun e)
  top_at parents strokes depths ps levels at t same count found =
      let above = top_is parents strokes depths t in
      let is : at ≡ ancestor parents (length parents - 1) (length (outline_before entries k) - begun) = found ∙ ap (λ xs. ancestor xs (length xs - 1) levels) same ∙ ap (ancestor parents (length parents - 1)) count in
      let last = last_node entries k are (omega arith) in
      let both = common_prefix_len-le nat_eq (outline_before entries k) e in (
        rw is above.inside,
        ap (outline_of (nodes (take k entries))) is ∙ above.is ∙ ap (λ xs. take (length xs - (length (outline_before entries k) - begun)) xs) last
            ∙ ap (λ n. take n (outline_before entries k)) (rest (length (outline_before entries k)) begun both.0) ∙ shared_same (outline_before entries k) e,
      )
    where
      rest : (a b : ℕ) → b ≤ a → a - (a - b) ≡ b
      rest a b le = omega arith

  -- the entry is numbered
  pub add_numbers : (numbers : List ℕ) (node : ℕ) → IsNumbered (take k entries) (nodes (take (k + 1) entries)) numbers → node < length (nodes (take (k + 1) entries)) →
      outline_of (nodes (take (k + 1) entries)) node ≡ e → IsNumbered (take (k + 1) entries) (nodes (take (k + 1) entries)) (set numbers node k)
  add_numbers numbers node h within is =
      subst (λ es. IsNumbered es (nodes (take (k + 1) entries)) (set numbers node k)) (sym (take_more entries k [] inside))
      (subst (λ n. IsNumbered (take k entries ++ e ∷ []) (nodes (take (k + 1) entries)) (set numbers node n)) (length-take-le k entries (omega arith))
      (numbered_set (take k entries) (nodes (take (k + 1) entries)) numbers e node (rising_take entries k are.rising)
      (subst AreRising (take_more entries k [] inside) (rising_take entries (k + 1) are.rising)) (nodes-rising (take (k + 1) entries)) h within is))

-- each parent is a node
pub parents_below : (X : List (List ℕ)) (parents strokes depths : List ℕ) → IsTable X parents strokes depths → All (λ p. p < length parents) parents
parents_below X parents strokes depths t node d inside = elim (cases_eq node 0) [
  | inl first ↦ omega (arith, get_or_default parents node d 0 inside, ap (λ n. get_or parents n 0) first, t.root)
  | inr later ↦ omega (arith, get_or_default parents node d 0 inside, (t.step node (omega arith) (omega (arith, t.parents_long))).before)
]
