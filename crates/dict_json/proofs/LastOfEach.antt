-- What is left of reversed entries that were sorted by outline and then freed of the later ones of each outline.
use Rattle.std.proofs.Common.{◌≡◌, ℕ, List, [], ◌∷◌, map, reverse, refl, sym, ap, ap₂, subst, ◌∙◌, Bool, false, cond, nat_eq, Some, Contains, find, inl, inr, Less, is_eq}
use Rattle.std.specs.List.{AllByRecursion, dedup}
use Rattle.std.specs.List.Sorted.{IsPermutation, IsSortedBy, IsStableBy}
use Rattle.std.specs.Cmp.Lexicographic.{pointwise, bytes_decides, nat_list_cmp_total, texts_ties, on_texts_equal}
use Rattle.std.proofs.lemmas.List.Kept.{Any-dedup, Contains-from_dedup}
use Rattle.std.proofs.lemmas.List.Sorted.{Contains-permutation, IsPermutation-sym, IsPermutation-trans, IsPermutation-reverse}
use Rattle.std.specs.Option.{option_map_or}
use Rattle.steno_rules.specs.Outlines.{outline_cmp}
use Rattle.steno_rules.proofs.Lists.{none_in_nil, in_cons, in_first, in_later, in_map, in_map_of}
use Rattle.steno_rules.proofs.Rising.{Rises, pairs_of_rises, rising_same}
use Rattle.steno_rules.specs.Nodes.{in_order}
use Rattle.dict_json.specs.Dictionaries.{Entry, entry_outlines, has_outline, standing, last_of_each}
use Rattle.dict_json.proofs.FirstOfEach.{Before, find-kept, is_before, is_same, rises-kept}
use Rattle.steno_rules.proofs.InOrder.{in_order-rising, in_order-Contains}

-- the outline of an entry, by which entries are ordered
abbrev pub outline_of : Entry → List ℕ
outline_of e = e.outline

-- the two have one outline
abbrev is_one : Entry → Entry → Bool
is_one = is_same outline_of

-- of rising outlines a later one isn't the first
later_is_other : (x : List ℕ) (xs : List (List ℕ)) (z : List ℕ) → AllByRecursion (λ y. outline_cmp x y ≡ Less) xs → Contains xs z → pointwise nat_eq x z ≡ false
later_is_other x [] z all h = absurd (none_in_nil z h)
later_is_other x (y ∷ ys) z all h = elim (in_cons y ys z h) [
  | inl is ↦ texts_ties x z ∙ ap is_eq (subst (λ l. outline_cmp x l ≡ Less) is all.0)
  | inr later ↦ later_is_other x ys z all.1 later
]

-- so each rising entry is the one of its outline
find_own : (xs : List Entry) (e : Entry) → Rises Before (entry_outlines xs) → Contains xs e → find (has_outline e.outline) xs ≡ Some e
unfolding Rises
find_own [] e h has = absurd (none_in_nil e has)
find_own (x ∷ xs) e h has = elim (in_cons x xs e has) [
  | inl is ↦ ap (λ b. cond b (Some x) (find (has_outline e.outline) xs)) ((bytes_decides x.outline e.outline).1 (ap (λ (z : Entry). z.outline) is)) ∙ ap Some is
  | inr later ↦ ap (λ b. cond b (Some x) (find (has_outline e.outline) xs)) (later_is_other x.outline (entry_outlines xs) e.outline h.0 (in_map_of (λ (z : Entry). z.outline) xs e later)) ∙ find_own xs e h.1 later
]

map_back : (f : List ℕ → Entry) (xs : List Entry) → ((x : Entry) → Contains xs x → f x.outline ≡ x) → map f (entry_outlines xs) ≡ xs
map_back f [] same = refl
map_back f (x ∷ xs) same = ap₂ (λ y l. y ∷ l) (same x (in_first x xs)) (map_back f xs (λ y has. same y (in_later x xs y has)))

-- what is left are the last ones of each outline
module _ (entries turned sorted : List Entry) (is : turned ≡ reverse entries) (moved : IsPermutation turned sorted) (up : IsSortedBy (is_before outline_of) sorted) (stable : IsStableBy (is_before outline_of) turned sorted) where
  rises : Rises Before (entry_outlines (dedup is_one sorted))
  rises = rises-kept outline_of sorted up

  elements : IsPermutation entries sorted
  elements = IsPermutation-trans entries turned sorted (subst (IsPermutation entries) (sym is) (IsPermutation-reverse entries)) moved

  from_entries : (z : List ℕ) → Contains (entry_outlines (dedup is_one sorted)) z → Contains (entry_outlines entries) z
  from_entries z h =
      let found = in_map (λ (e : Entry). e.outline) (dedup is_one sorted) z h in
      let there = Contains-permutation sorted entries found.0 (IsPermutation-sym entries sorted elements) (Contains-from_dedup is_one sorted found.0 found.1) in
      subst (Contains (entry_outlines entries)) found.2 (in_map_of (λ (e : Entry). e.outline) entries found.0 there)

  of_entries : (z : List ℕ) → Contains (entry_outlines entries) z → Contains (entry_outlines (dedup is_one sorted)) z
  of_entries z h =
      let found = in_map (λ (e : Entry). e.outline) entries z h in
      let kept = Any-dedup (on_texts_equal (λ (e : Entry). e.outline)) sorted found.0 (Contains-permutation entries sorted found.0 elements found.1) in
      subst (Contains (entry_outlines (dedup is_one sorted))) (sym ((bytes_decides found.0.outline kept.1.outline).0 kept.4) ∙ found.2) (in_map_of (λ (e : Entry). e.outline) (dedup is_one sorted) kept.1 (kept.0, kept.2, kept.3))

  outlines : in_order (entry_outlines entries) ≡ entry_outlines (dedup is_one sorted)
  outlines = rising_same outline_cmp nat_list_cmp_total _ _ (in_order-rising (entry_outlines entries)) (pairs_of_rises Before _ rises) (λ z. (λ h. of_entries z ((in_order-Contains (entry_outlines entries) z).0 h), λ h. (in_order-Contains (entry_outlines entries) z).1 (from_entries z h)))

  stands : (e : Entry) → Contains (dedup is_one sorted) e → record { outline = e.outline; text = standing entries e.outline } ≡ e
  stands e has =
      let found = ap (find (has_outline e.outline)) (sym is) ∙ sym (find-kept outline_of e turned sorted stable) ∙ find_own (dedup is_one sorted) e rises has in
      ap (λ o. record { outline = e.outline; text = option_map_or (λ (z : Entry). z.text) o [] }) found

  pub dedup-last_of_each : dedup is_one sorted ≡ last_of_each entries
  dedup-last_of_each = sym (map_back _ (dedup is_one sorted) stands) ∙ ap (map (λ outline. record { outline = outline; text = standing entries outline })) (sym outlines)
