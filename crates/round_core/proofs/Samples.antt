-- The graph of the tests whose numbers have their targets by a rule: n numbers with d targets each.
use Rattle.std.proofs.Common.{◌≡◌, ℕ, suc, ◌+◌, ◌*◌, ◌%◌, ◌<◌, ◌≤◌, List, [], ◌∷◌, length, get_or, drop, map, Some, sym, ap, subst, ◌∙◌, arith}
use Rattle.std.specs.List.{range_with_len}
use Rattle.std.specs.Prelude.{slice_get}
use Rattle.std.proofs.Math.Nat.{mod-lt}
use Rattle.std.proofs.lemmas.List.FromFn.{length-map-range_with_len, get_or-map-range_with_len}
use Rattle.std.proofs.lemmas.Option.{slice_get_within, get_or_from_slice_get}
use Rattle.graph_rules.specs.Graphs.{HasTarget}
use Rattle.graph_rules.proofs.Distances.{source_below}
use Rattle.round_core.proofs.Places.{drop_at, drop_past}

abbrev pub rule_row : ℕ → ℕ → ℕ → ℕ → ℕ → ℕ → List ℕ
rule_row n d f t h s = map (λ i. (s * f + i * t + h) % n) (range_with_len 0 d)

abbrev pub rule_lists : ℕ → ℕ → ℕ → ℕ → ℕ → List (List ℕ)
rule_lists n d f t h = map (λ s. rule_row n d f t h s) (range_with_len 0 n)

pub lists_count : (n d f t h : ℕ) → length (rule_lists n d f t h) ≡ n
lists_count n d f t h = length-map-range_with_len (λ s. rule_row n d f t h s) 0 n

pub row_at : (n d f t h s : ℕ) → s < n → get_or (rule_lists n d f t h) s [] ≡ rule_row n d f t h s
row_at n d f t h s lt = get_or-map-range_with_len (λ q. rule_row n d f t h q) 0 n s s [] lt (omega arith)

pub row_length : (n d f t h s : ℕ) → length (rule_row n d f t h s) ≡ d
row_length n d f t h s = length-map-range_with_len (λ i. (s * f + i * t + h) % n) 0 d

pub row_done : (n d f t h s place : ℕ) → d ≤ place → drop place (rule_row n d f t h s) ≡ []
row_done n d f t h s place le = drop_past place (rule_row n d f t h s) (let l = row_length n d f t h s in omega (arith, l, le))

pub row_next : (n d f t h s place x : ℕ) → place < d → x ≡ (s * f + place * t + h) % n → drop place (rule_row n d f t h s) ≡ x ∷ drop (place + 1) (rule_row n d f t h s)
row_next n d f t h s place x lt is =
    drop_at (rule_row n d f t h s) place (let l = row_length n d f t h s in omega (arith, l, lt))
    ∙ ap (λ y. y ∷ drop (suc place) (rule_row n d f t h s)) (get_or-map-range_with_len (λ i. (s * f + i * t + h) % n) 0 d place place 0 lt (omega arith) ∙ sym is)
    ∙ ap (λ k. x ∷ drop k (rule_row n d f t h s)) (let e : suc place ≡ place + 1 = omega arith in e)

pub target_below : (n d f t h s u : ℕ) → HasTarget (rule_lists n d f t h) s u → u < length (rule_lists n d f t h)
target_below n d f t h s u has =
    let count = lists_count n d f t h in
    let below : s < n = (let l = source_below (rule_lists n d f t h) s u has in omega (arith, l, count)) in
    let there = subst (λ r. slice_get r has.0 ≡ Some u) (row_at n d f t h s below) has.1 in
    let within : has.0 < d = (let l = slice_get_within (rule_row n d f t h s) has.0 u there in let k = row_length n d f t h s in omega (arith, l, k)) in
    let is = sym (get_or_from_slice_get (rule_row n d f t h s) has.0 u 0 there) ∙ get_or-map-range_with_len (λ i. (s * f + i * t + h) % n) 0 d has.0 has.0 0 within (omega arith) in
    let some : 0 < n = omega (arith, below) in let least = mod-lt (s * f + has.0 * t + h) some in
    omega (arith, is, least, count)
