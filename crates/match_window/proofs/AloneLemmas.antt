-- The column of last strokes alone.
use Rattle.std.proofs.Common.{◌≡◌, ◌≢◌, ℕ, ◌+◌, ◌-◌, ◌≤◌, List, [], ◌∷◌, ◌++◌, length, drop, get_or, refl, sym, ap, ◌∙◌, arith, Bool, true, false, cond, nat_le, Option, Some, None, inl, inr, length-drop}
use Rattle.std.specs.Prelude.{unwrap_or}
use Rattle.std.proofs.lemmas.Bool.{cases_lt}
use Rattle.std.proofs.lemmas.Bool.Decides.{nat_tests}
use Rattle.std.proofs.lemmas.List.{length_push, get_or_push, get_or_append_left, get_or_read}
use Rattle.steno_rules.specs.Outlines.{entry_number}
use Rattle.steno_rules.specs.Nodes.{nodes}
use Rattle.steno_rules.proofs.Numbers.{entry_number-Some}
use Rattle.outline_trie.specs.Tries.{IsNode, node_strokes, suffix_of}
use Rattle.outline_trie.proofs.LookLemmas.{root_is}
use Rattle.match_window.specs.inside.Alone.{AreAloneBelow, AreAlone}

-- At first there is none.
pub alone_none : (entries : List (List ℕ)) (alone : List ℕ) → alone ≡ [] → AreAloneBelow entries 0 alone
alone_none entries alone none = record { long = ap length none; each = λ node below. absurd (omega arith) }

-- One node more.
pub alone_more : (entries : List (List ℕ)) (count : ℕ) (alone new : List ℕ) (found : Option ℕ) (one : ℕ) → AreAloneBelow entries count alone → found ≡ suffix_of entries count 1 → one ≡ unwrap_or found 0 → new ≡ alone ++ one ∷ [] →
    AreAloneBelow entries (count + 1) new
alone_more entries count alone new found one h is read grown = record {
  long = ap length grown ∙ length_push alone one ∙ ap (λ n. n + 1) h.long;
  each = λ node below. elim (cases_lt node count) [
    | inl lt ↦ ap (λ l. get_or l node 0) grown ∙ get_or_append_left alone (one ∷ []) 0 node (omega (arith, h.long)) ∙ h.each node lt
    | inr ge ↦
        let same : count ≡ node = omega arith in
        ap (λ l. get_or l node 0) grown ∙ get_or_push alone one 0 node (h.long ∙ same) ∙ read ∙ ap (λ o. unwrap_or o 0) is ∙ ap (λ n. unwrap_or (suffix_of entries n 1) 0) same
  ];
}

-- one stroke isn't the root
no_root : (entries : List (List ℕ)) (node : ℕ) → suffix_of entries node 1 ≢ Some 0
no_root entries node = by (nat_le 1 (length (node_strokes entries node))) refl
  where
    by : (b : Bool) → nat_le 1 (length (node_strokes entries node)) ≡ b → cond b (entry_number (nodes entries) (drop (length (node_strokes entries node) - 1) (node_strokes entries node))) None ≡ Some 0 → ⊥
    by true test h =
        let x : List ℕ = node_strokes entries node in
        let at = entry_number-Some (nodes entries) (drop (length x - 1) x) 0 h in
        let some : 1 ≤ length x = grind (arith, nat_tests, test) in
        omega (arith, some, length-drop (length x - 1) x, ap length at.1, ap length (root_is entries))
    by false test h = cc

-- What is read of the column.
pub alone_zero : (entries : List (List ℕ)) (alone : List ℕ) (node found : ℕ) → AreAlone entries alone → IsNode entries node → found ≡ get_or alone node found → (found ≡ 0 → None ≡ suffix_of entries node 1) × ((found ≡ 0 → ⊥) → Some found ≡ suffix_of entries node 1)
alone_zero entries alone node found h inside read = by (suffix_of entries node 1) refl (get_or_read alone node found (omega (arith, h.long)) read 0 ∙ h.each node inside)
  where
    by : (o : Option ℕ) → suffix_of entries node 1 ≡ o → found ≡ unwrap_or o 0 → (found ≡ 0 → None ≡ o) × ((found ≡ 0 → ⊥) → Some found ≡ o)
    by None is e = (λ none. refl, λ some. absurd (some e))
    by (Some n) is e = (λ none. absurd (no_root entries node (is ∙ ap (λ k. Some k) (sym e ∙ none))), λ some. ap (λ k. Some k) e)
