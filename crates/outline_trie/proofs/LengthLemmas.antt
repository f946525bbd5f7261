-- How many nodes there are after each entry, and which is the last.
use Rattle.std.proofs.Common.{◌≡◌, ℕ, zero, suc, ◌+◌, ◌-◌, ◌<◌, ◌≤◌, List, [], ◌∷◌, ◌++◌, length, take, refl, sym, ap, subst, ◌∙◌, arith, inl, inr, Less, take_all, length-append, add-one, add-zero}
use Rattle.std.proofs.lemmas.Bool.{cases_lt}
use Rattle.std.proofs.lemmas.List.{get_or_push}
use Rattle.std.proofs.lemmas.List.Sums.{common_prefix_len-le}
use Rattle.outline_trie.specs.inside.Tables.{shared, outline_before}
use Rattle.steno_rules.specs.Outlines.{outline_cmp, AreEntries, outline_of}
use Rattle.steno_rules.specs.Nodes.{nodes}
use Rattle.outline_trie.proofs.OrderLemmas.{front_not_above, shared_same}
use Rattle.outline_trie.proofs.GrowLemmas.{grown, one_stroke_more, shared_nodes, all_grown}

shared_le : (prev e : List ℕ) → shared prev e ≤ length e
shared_le prev e = (common_prefix_len-le _ prev e).1

-- an outline has a stroke more than it shares with one below it
shared_less : (prev e : List ℕ) → outline_cmp prev e ≡ Less → shared prev e < length e
shared_less prev e below = elim (cases_lt (shared prev e) (length e)) [
  | inl less ↦ less
  | inr all ↦
      let same : shared prev e ≡ length e = omega (arith, shared_le prev e) in
      absurd (front_not_above e prev (sym (take_all (length e) e (omega arith)) ∙ sym (subst (λ n. take n prev ≡ take n e) same (shared_same prev e))) below)
]

pub shared_short : (entries : List (List ℕ)) (k : ℕ) → AreEntries entries → k < length entries → shared (outline_before entries k) (outline_of entries k) < length (outline_of entries k)
shared_short entries zero are inside = are.not_empty 0 [] inside
shared_short entries (suc k) are inside = shared_less (outline_of entries k) (outline_of entries (suc k)) (are.rising k (suc k) [] (omega arith) inside)

module _ (entries : List (List ℕ)) (k : ℕ) (are : AreEntries entries) (inside : k < length entries) where
  abbrev before : ℕ
  before = shared (outline_before entries k) (outline_of entries k)

  -- after m strokes more than the shared ones
  length_grown : (m : ℕ) → before + m ≤ length (outline_of entries k) → length (nodes (grown entries k (before + m))) ≡ length (nodes (take k entries)) + m
  length_grown zero within = rw (add-zero before, add-zero (length (nodes (take k entries)))) (ap length (shared_nodes entries k are.rising inside))
  length_grown (suc m) within =
      ap (λ j. length (nodes (grown entries k j))) (sums before m)
      ∙ ap length (one_stroke_more entries k are.rising inside (before + m) (omega arith) (omega arith))
      ∙ length-append (nodes (grown entries k (before + m))) (take (suc (before + m)) (outline_of entries k) ∷ [])
      ∙ ap (λ n. n + 1) (length_grown m (omega arith)) ∙ sum (length (nodes (take k entries))) m
    where
      sums : (a b : ℕ) → a + suc b ≡ suc (a + b)
      sums a b = omega arith

      sum : (a b : ℕ) → a + b + 1 ≡ a + suc b
      sum a b = omega arith

  pub length_grown_at : (j : ℕ) → before ≤ j → j ≤ length (outline_of entries k) → length (nodes (grown entries k j)) ≡ length (nodes (take k entries)) + (j - before)
  length_grown_at j from to = subst (λ i. length (nodes (grown entries k i)) ≡ length (nodes (take k entries)) + (j - before)) sum (length_grown (j - before) (omega arith))
    where
      sum : before + (j - before) ≡ j
      sum = omega arith

  -- what one entry adds
  pub length_more : length (nodes (take (k + 1) entries)) ≡ length (nodes (take k entries)) + (length (outline_of entries k) - before)
  length_more =
      ap (λ es. length (nodes es)) (sym (all_grown entries k are.rising inside))
      ∙ length_grown_at (length (outline_of entries k)) (shared_le (outline_before entries k) (outline_of entries k)) (omega arith)

  -- the last node is the entry
  pub last_grown : outline_of (nodes (take (k + 1) entries)) (length (nodes (take (k + 1) entries)) - 1) ≡ outline_of entries k
  last_grown = by (length (outline_of entries k)) refl
    where
      at_end : (xs : List (List ℕ)) (w : List ℕ) → outline_of (xs ++ w ∷ []) (length (xs ++ w ∷ []) - 1) ≡ w
      at_end xs w = get_or_push xs w [] (length (xs ++ w ∷ []) - 1) (omega (arith, length-append xs (w ∷ [])))

      by : (n : ℕ) → length (outline_of entries k) ≡ n → outline_of (nodes (take (k + 1) entries)) (length (nodes (take (k + 1) entries)) - 1) ≡ outline_of entries k
      by zero none = absurd (omega (arith, shared_short entries k are inside))
      by (suc j) is =
          let split : nodes (take (k + 1) entries) ≡ nodes (grown entries k j) ++ outline_of entries k ∷ [] =
          ap nodes (sym (all_grown entries k are.rising inside)) ∙ ap (λ i. nodes (grown entries k i)) is
          ∙ one_stroke_more entries k are.rising inside j (omega (arith, shared_short entries k are inside)) (omega arith)
          ∙ ap (λ w. nodes (grown entries k j) ++ w ∷ []) (take_all (suc j) (outline_of entries k) (omega arith)) in
          rw split (at_end (nodes (grown entries k j)) (outline_of entries k))

pub last_node : (entries : List (List ℕ)) (k : ℕ) → AreEntries entries → k ≤ length entries → outline_of (nodes (take k entries)) (length (nodes (take k entries)) - 1) ≡ outline_before entries k
last_node entries zero are within = refl
last_node entries (suc k) are within = rw (sym (add-one k)) (last_grown entries k are (omega arith))

-- no fewer nodes with more entries
pub length_rises : (entries : List (List ℕ)) (m k : ℕ) → AreEntries entries → k + m ≡ length entries → length (nodes (take k entries)) ≤ length (nodes entries)
length_rises entries zero k are all = rw (take_all k entries (omega arith)) (omega arith)
length_rises entries (suc m) k are all = omega (arith, length_more entries k are (omega arith), length_rises entries m (k + 1) are (omega arith))
