-- The fork of a number, from its node and its place in the node's part.
use Rattle.std.proofs.Common.{◌≡◌, ℕ, zero, suc, ◌+◌, ◌-◌, ◌<◌, ◌≤◌, List, [], ◌∷◌, ◌++◌, length, get_or, flat_map, refl, sym, ap, subst, ◌∙◌, arith, Bool, true, false, true≢false, ◌&&◌, nat_le, if◌then◌else◌, Some, None, is_some}
use Rattle.std.proofs.lemmas.Bool.Decides.{nat_tests}
use Rattle.std.proofs.lemmas.List.{length-drop}
use Rattle.std.proofs.lemmas.List.FromFn.{get_or-map-range_with_len}
use Rattle.steno_rules.specs.Nodes.{nodes}
use Rattle.steno_rules.specs.Outlines.{AreWords, entry_number}
use Rattle.steno_rules.specs.States.{is_open}
use Rattle.steno_rules.specs.StateNumbers.{last_strokes}
use Rattle.steno_rules.proofs.Numbers.{entry_number-Some}
use Rattle.steno_rules.proofs.Words.{is_prefix-open}
use Rattle.outline_trie.specs.Tries.{IsNode, node_strokes, suffix_of}
use Rattle.outline_trie.proofs.LookLemmas.{node_test}
use Rattle.reading_laws.specs.Forks.{Fork, Same, Differ, End, has_open_words}
use Rattle.reading_laws.specs.ForkNumbers.{forks_of, fork_at, fork_start, end_number}
use Rattle.reading_laws.specs.ChosenReadings.{open_fork}
use Rattle.reading_laws.proofs.ForkNumberLemmas.{end_is, fork_in_part}
use Rattle.free_parse.specs.inside.Forks.{IsNodesFork, fork_of, open_in_part}
use Rattle.free_parse.specs.inside.Parts.{IsOwner}

-- a fork, or the end where its open words can't be open
if_open : List (List ℕ) → Fork → Fork
if_open words s = if has_open_words words s then s else End

-- behind all forks is the end
past : (xs : List Fork) (n : ℕ) → length xs ≤ n → get_or (xs ++ End ∷ []) n End ≡ End
past [] zero l = refl
past [] (suc n) l = refl
past (x ∷ xs) zero l = absurd (omega (arith, l))
past (x ∷ xs) (suc n) l = past xs n (omega (arith, l))

-- A number from that of the end on has no fork with open words.
pub past_end : (entries words : List (List ℕ)) (n : ℕ) → end_number entries ≤ n → End ≡ open_fork entries words n
past_end entries words n l = sym (ap (λ s. if has_open_words words s then s else End) (past (flat_map forks_of (nodes entries)) n (omega (arith, l, end_is entries))))

-- The fork of a number is that of its place in its node's part.
pub fork_of_owner : (entries words : List (List ℕ)) (n node : ℕ) → IsOwner entries n node → open_in_part entries words node (n - fork_start (nodes entries) node) ≡ open_fork entries words n
fork_of_owner entries words n node h =
    let j : ℕ = n - fork_start (nodes entries) node in
    let whole : fork_start (nodes entries) node + j ≡ n = omega (arith, h.from) in
    ap (λ s. if has_open_words words s then s else End) (sym (subst (λ k. fork_at entries k ≡ get_or (forks_of (node_strokes entries node)) j End) whole (fork_in_part entries node j h.node_is (omega (arith, h.from, h.to)))))

-- the places of a part
at_second : (z : List ℕ) (k : ℕ) → k < length z → get_or (forks_of z) (suc k) End ≡ Differ z (last_strokes k z)
at_second z k l = get_or-map-range_with_len (λ i. Differ z (last_strokes i z)) 0 (length z) k k End l (omega arith)

shut : (b c : Bool) → b ≡ false → (b && c) ≡ false
shut b c h = rw h refl

shut_second : (b c : Bool) → b ≡ true → c ≡ false → (b && c) ≡ false
shut_second b c h k = rw (h, k) refl

both_open : (b c : Bool) → b ≡ true → c ≡ true → (b && c) ≡ true
both_open b c h k = rw (h, k) refl

if_shut : (words : List (List ℕ)) (s : Fork) → has_open_words words s ≡ false → (if has_open_words words s then s else End) ≡ End
if_shut words s h = rw h refl

if_not : (words : List (List ℕ)) (s : Fork) → has_open_words words s ≡ true → (if has_open_words words s then s else End) ≡ s
if_not words s h = rw h refl

-- A node that can't be open has none.
pub shut_part : (entries words : List (List ℕ)) (node place : ℕ) → place ≤ length (node_strokes entries node) → is_open words (node_strokes entries node) ≡ false → End ≡ open_in_part entries words node place
shut_part entries words node zero l h = sym (if_shut words (Same (node_strokes entries node)) h)
shut_part entries words node (suc k) l h =
    let z : List ℕ = node_strokes entries node in
    let s : Fork = Differ z (last_strokes k z) in
    sym (ap (λ r. if has_open_words words r then r else End) (at_second z k (omega (arith, l))) ∙ if_shut words s (shut (is_open words z) (is_open words (last_strokes k z)) h))

-- the place of a fork of two open words
second_place : (entries words : List (List ℕ)) (node place : ℕ) → (place ≡ 0 → ⊥) → place ≤ length (node_strokes entries node) →
    open_in_part entries words node place ≡ (let s = Differ (node_strokes entries node) (last_strokes (place - 1) (node_strokes entries node)) in if has_open_words words s then s else End)
second_place entries words node place some l =
    let z : List ℕ = node_strokes entries node in
    let one : suc (place - 1) ≡ place = by place some in
    ap (λ r. if has_open_words words r then r else End) (subst (λ p. get_or (forks_of z) p End ≡ Differ z (last_strokes (place - 1) z)) one (at_second z (place - 1) (omega (arith, l, one))))
  where
    by : (p : ℕ) → (p ≡ 0 → ⊥) → suc (p - 1) ≡ p
    by zero some = absurd (some refl)
    by (suc k) some = omega arith

-- the end of a node that is searched
suffix_is : (entries : List (List ℕ)) (node k : ℕ) → k ≤ length (node_strokes entries node) → suffix_of entries node k ≡ entry_number (nodes entries) (last_strokes k (node_strokes entries node))
suffix_is entries node k l = let enough : nat_le k (length (node_strokes entries node)) ≡ true = grind (arith, nat_tests) in rw enough refl

pub record IsFoundEnd (entries : List (List ℕ)) (node k shorter : ℕ) : Type 0 where
  pub node_is : IsNode entries shorter
  pub is : node_strokes entries shorter ≡ last_strokes k (node_strokes entries node)
  pub long : length (node_strokes entries shorter) ≡ k

found_end : (entries : List (List ℕ)) (node k shorter : ℕ) → k ≤ length (node_strokes entries node) → Some shorter ≡ suffix_of entries node k → IsFoundEnd entries node k shorter
found_end entries node k shorter l found =
    let z : List ℕ = node_strokes entries node in
    let at = entry_number-Some (nodes entries) (last_strokes k z) shorter (sym (suffix_is entries node k l) ∙ sym found) in
    record { node_is = at.0; is = at.1; long = ap length at.1 ∙ length-drop (length z - k) z ∙ omega (arith, l) }

-- Both are open.
pub decode_found : (entries words : List (List ℕ)) (node place shorter : ℕ) → (place ≡ 0 → ⊥) → place ≤ length (node_strokes entries node) → is_open words (node_strokes entries node) ≡ true →
    Some shorter ≡ suffix_of entries node (place - 1) → is_open words (node_strokes entries shorter) ≡ true → fork_of entries node (Some shorter) ≡ open_in_part entries words node place
decode_found entries words node place shorter some l opens found also =
    let z : List ℕ = node_strokes entries node in
    let at = found_end entries node (place - 1) shorter (omega (arith, l)) found in
    let s : Fork = Differ z (last_strokes (place - 1) z) in
    let short : is_open words (last_strokes (place - 1) z) ≡ true = subst (λ x. is_open words x ≡ true) at.is also in
    ap (λ q. Differ z q) at.is ∙ sym (second_place entries words node place some l ∙ if_not words s (both_open (is_open words z) (is_open words (last_strokes (place - 1) z)) opens short))

-- The shorter one can't be open.
pub decode_shut : (entries words : List (List ℕ)) (node place shorter : ℕ) → (place ≡ 0 → ⊥) → place ≤ length (node_strokes entries node) → is_open words (node_strokes entries node) ≡ true →
    Some shorter ≡ suffix_of entries node (place - 1) → is_open words (node_strokes entries shorter) ≡ false → End ≡ open_in_part entries words node place
decode_shut entries words node place shorter some l opens found also =
    let z : List ℕ = node_strokes entries node in
    let at = found_end entries node (place - 1) shorter (omega (arith, l)) found in
    let s : Fork = Differ z (last_strokes (place - 1) z) in
    let short : is_open words (last_strokes (place - 1) z) ≡ false = subst (λ x. is_open words x ≡ false) at.is also in
    sym (second_place entries words node place some l ∙ if_shut words s (shut_second (is_open words z) (is_open words (last_strokes (place - 1) z)) opens short))

-- Nor can it where it is no node.
pub decode_none : (entries words : List (List ℕ)) (node place : ℕ) → AreWords entries words → (place ≡ 0 → ⊥) → place ≤ length (node_strokes entries node) → is_open words (node_strokes entries node) ≡ true →
    None ≡ suffix_of entries node (place - 1) → End ≡ open_in_part entries words node place
decode_none entries words node place are some l opens found =
    let z : List ℕ = node_strokes entries node in
    let q : List ℕ = last_strokes (place - 1) z in
    let none : entry_number (nodes entries) q ≡ None = sym (suffix_is entries node (place - 1) (omega (arith, l))) ∙ sym found in
    sym (second_place entries words node place some l ∙ if_shut words (Differ z q) (shut_second (is_open words z) (is_open words q) opens (by (is_open words q) refl none)))
  where
    by : (b : Bool) → is_open words (last_strokes (place - 1) (node_strokes entries node)) ≡ b → entry_number (nodes entries) (last_strokes (place - 1) (node_strokes entries node)) ≡ None → b ≡ false
    by false e none = refl
    by true e none = absurd (true≢false (sym (is_prefix-open entries words (last_strokes (place - 1) (node_strokes entries node)) are e) ∙ sym (node_test entries (last_strokes (place - 1) (node_strokes entries node))) ∙ ap is_some none))

-- What is found are nodes.
pub nodes_found : (entries : List (List ℕ)) (node place shorter : ℕ) → IsNode entries node → (place ≡ 0 → ⊥) → place ≤ length (node_strokes entries node) →
    Some shorter ≡ suffix_of entries node (place - 1) → IsNodesFork entries (record { longer = node; shorter = Some shorter })
nodes_found entries node place shorter inside some l found =
    let at = found_end entries node (place - 1) shorter (omega (arith, l)) found in
    record { longer = inside; shorter = (at.node_is, omega (arith, at.long, l, positive place some)) }
  where
    positive : (p : ℕ) → (p ≡ 0 → ⊥) → 1 ≤ p
    positive zero some = absurd (some refl)
    positive (suc p) some = omega arith
