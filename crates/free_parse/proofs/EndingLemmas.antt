-- The least stroke by which two open words are words, among the children of one of them.
use Rattle.std.proofs.Common.{◌≡◌, ◌≢◌, ℕ, ◌+◌, ◌<◌, List, [], ◌∷◌, ◌++◌, length, get_or, take, drop, take-append-drop, filter, flat_map, refl, sym, ap, ap₂, subst, ◌∙◌, arith, Bool, true, false, true≢false, ◌&&◌, cond, if◌then◌else◌, Some, None, Contains, append_assoc}
use Rattle.std.proofs.lemmas.List.{length_push, map-append, take_more, get_or_default}
use Rattle.std.proofs.lemmas.List.Elements.{Contains-get_or}
use Rattle.steno_rules.specs.Nodes.{nodes}
use Rattle.steno_rules.specs.Outlines.{AreWords, entry_number, is_entry, is_word}
use Rattle.steno_rules.specs.States.{strokes_in}
use Rattle.steno_rules.proofs.Lists.{in_map_of}
use Rattle.steno_rules.proofs.NodeLemmas.{nodes-Contains}
use Rattle.steno_rules.proofs.Numbers.{none_there, number_test}
use Rattle.steno_rules.proofs.Prefixes.{is_prefix-entry}
use Rattle.steno_rules.proofs.Words.{word_is_entry}
use Rattle.closure_laws.proofs.RisingMaps.{Agree, same_within}
use Rattle.closure_laws.proofs.StrokeLemmas.{strokes_in-rising}
use Rattle.closure_state.proofs.RowLemmas.{child_ends, child_inside}
use Rattle.outline_trie.specs.Tries.{AreChildren, child_of, node_strokes}
use Rattle.outline_trie.proofs.LookLemmas.{number_there}
use Rattle.reading_laws.specs.ChosenReadings.{final_stroke, last_strokes_by}
use Rattle.reading_laws.specs.Forks.{Differ}
use Rattle.reading_laws.proofs.ForkNumberLemmas.{stroke_of_word}
use Rattle.reading_laws.proofs.ForkLemmas.{both}
use Rattle.reading_laws.proofs.HalfLemmas.{final_stroke-push}
use Rattle.free_parse.specs.inside.Forks.{IsEnding}
use Rattle.free_parse.proofs.MoveLemmas.{codes, rising_codes}

-- ---- entries

-- What is no node is no entry.
pub no_entry : (entries : List (List ℕ)) (x : List ℕ) → None ≡ entry_number (nodes entries) x → None ≡ entry_number entries x
no_entry entries x none = by (is_entry entries x) refl
  where
    by : (b : Bool) → is_entry entries x ≡ b → None ≡ entry_number entries x
    by false e = sym (none_there (entry_number entries x) (number_test entries x ∙ e))
    by true e =
        let there = (nodes-Contains entries x).1 (is_prefix-entry entries x e) in
        let found = number_there entries x there.0 there.1 (get_or_default (nodes entries) there.0 [] x there.1 ∙ there.2) in
        let wrong : None ≡ Some there.0 = none ∙ found in
        absurd (true≢false cc)

-- ---- filters

-- both words end with the stroke
abbrev pub ends_both : List (List ℕ) → List ℕ → List ℕ → ℕ → Bool
ends_both words p q c = is_word words (p ++ c ∷ []) && is_word words (q ++ c ∷ [])

filtered : (f : ℕ → Bool) (xs : List ℕ) → filter f xs ≡ flat_map (λ c. if f c then (c ∷ []) else []) xs
filtered f [] = refl
filtered f (x ∷ xs) = by (f x) (filtered f xs)
  where
    by : (b : Bool) → filter f xs ≡ flat_map (λ c. if f c then (c ∷ []) else []) xs → cond b (x ∷ filter f xs) (filter f xs) ≡ (if b then (x ∷ []) else []) ++ flat_map (λ c. if f c then (c ∷ []) else []) xs
    by true rest = ap (λ l. x ∷ l) rest
    by false rest = rest

passes_of : (f : ℕ → Bool) (c : ℕ) → (if f c then (c ∷ []) else []) ≢ [] → f c ≡ true
passes_of f c some = by (f c) some
  where
    by : (b : Bool) → (if b then (c ∷ []) else []) ≢ [] → b ≡ true
    by true some = refl
    by false some = absurd (some refl)

-- the stroke is that of a child
there_of_word : (entries words : List (List ℕ)) (longer : ℕ) (kids : List (ℕ × ℕ)) (c : ℕ) → AreWords entries words → AreChildren entries longer kids → is_word words (node_strokes entries longer ++ c ∷ []) ≡ true → Contains (codes kids) c
unfolding codes
there_of_word entries words longer kids c are children word =
    let x : List ℕ = node_strokes entries longer ++ c ∷ [] in
    let there = (nodes-Contains entries x).1 (is_prefix-entry entries x (word_is_entry entries words x are word)) in
    let same : node_strokes entries there.0 ≡ x = get_or_default (nodes entries) there.0 [] x there.1 ∙ there.2 in
    in_map_of (λ (p : ℕ × ℕ). p.0) kids (c, there.0) ((children.each c there.0).1 (number_there entries x there.0 there.1 same))

-- The strokes by which both are words are those of children.
pub ends_among : (entries words : List (List ℕ)) (longer : ℕ) (q : List ℕ) (kids : List (ℕ × ℕ)) → AreWords entries words → AreChildren entries longer kids →
    filter (ends_both words (node_strokes entries longer) q) (codes kids) ≡ filter (ends_both words (node_strokes entries longer) q) (strokes_in words)
unfolding Agree
ends_among entries words longer q kids are children =
    let p : List ℕ = node_strokes entries longer in
    let f : ℕ → Bool = ends_both words p q in
    filtered f (codes kids)
    ∙ same_within (length (codes kids) + length (strokes_in words)) (λ c. if f c then (c ∷ []) else []) (codes kids) (strokes_in words) (omega arith) (rising_codes kids children.rising) (strokes_in-rising words)
    (λ c some. (
      λ h. stroke_of_word words p c (both (is_word words (p ++ c ∷ [])) (is_word words (q ++ c ∷ [])) (passes_of f c some)).0,
      λ h. there_of_word entries words longer kids c are children (both (is_word words (p ++ c ∷ [])) (is_word words (q ++ c ∷ [])) (passes_of f c some)).0,
    ))
    ∙ sym (filtered f (strokes_in words))

-- ---- the loop

-- no child so far ends both
abbrev pub NoneEnds : List (List ℕ) → List (List ℕ) → ℕ → ℕ → List (ℕ × ℕ) → Type 0
NoneEnds entries words longer shorter kids = filter (ends_both words (node_strokes entries longer) (node_strokes entries shorter)) (codes kids) ≡ []

filter_push : (f : ℕ → Bool) (xs ys : List ℕ) → filter f xs ≡ [] → filter f (xs ++ ys) ≡ filter f ys
filter_push f [] ys none = refl
filter_push f (x ∷ xs) ys none = by (f x) refl (filter_push f xs ys)
  where
    by : (b : Bool) → f x ≡ b → (filter f xs ≡ [] → filter f (xs ++ ys) ≡ filter f ys) → cond b (x ∷ filter f (xs ++ ys)) (filter f (xs ++ ys)) ≡ filter f ys
    by true e rest = let wrong : x ∷ filter f xs ≡ [] = subst (λ b. cond b (x ∷ filter f xs) (filter f xs) ≡ []) e none in absurd (true≢false cc)
    by false e rest = rest (subst (λ b. cond b (x ∷ filter f xs) (filter f xs) ≡ []) e none)

one_passes : (f : ℕ → Bool) (c : ℕ) (xs : List ℕ) → f c ≡ true → take 1 (filter f (c ∷ xs)) ≡ c ∷ []
one_passes f c xs h = by (f c) h
  where
    by : (b : Bool) → b ≡ true → take 1 (cond b (c ∷ filter f xs) (filter f xs)) ≡ c ∷ []
    by true e = refl
    by false e = absurd (true≢false (sym e))

one_fails : (f : ℕ → Bool) (c : ℕ) → f c ≡ false → filter f (c ∷ []) ≡ []
one_fails f c h = by (f c) h
  where
    by : (b : Bool) → b ≡ false → cond b (c ∷ []) [] ≡ []
    by false e = refl
    by true e = absurd (true≢false e)

-- what a child's test says of its code
test_of_child : (entries words : List (List ℕ)) (longer shorter code child : ℕ) (b : Bool) → child_of entries longer code ≡ Some child →
    b ≡ (is_word words (node_strokes entries child) && is_word words (node_strokes entries shorter ++ final_stroke (node_strokes entries child))) → ends_both words (node_strokes entries longer) (node_strokes entries shorter) code ≡ b
test_of_child entries words longer shorter code child b found is =
    let ends = child_ends entries longer code child found in
    let last : final_stroke (node_strokes entries child) ≡ code ∷ [] = ap final_stroke ends ∙ final_stroke-push (node_strokes entries longer) code in
    sym (is ∙ ap₂ (λ v e. is_word words v && is_word words (node_strokes entries shorter ++ e)) ends last)

-- one child more that doesn't end both
pub none_more : (entries words : List (List ℕ)) (longer shorter : ℕ) (before : List (ℕ × ℕ)) (pair : ℕ × ℕ) → NoneEnds entries words longer shorter before → child_of entries longer pair.0 ≡ Some pair.1 →
    false ≡ (is_word words (node_strokes entries pair.1) && is_word words (node_strokes entries shorter ++ final_stroke (node_strokes entries pair.1))) → NoneEnds entries words longer shorter (before ++ pair ∷ [])
unfolding codes
none_more entries words longer shorter before pair none found fails =
    let f : ℕ → Bool = ends_both words (node_strokes entries longer) (node_strokes entries shorter) in
    ap (filter f) (map-append (λ (p : ℕ × ℕ). p.0) before (pair ∷ []))
    ∙ filter_push f (codes before) (pair.0 ∷ []) none ∙ one_fails f pair.0 (test_of_child entries words longer shorter pair.0 pair.1 false found fails)

-- The first child that does.
pub first_found : (entries words : List (List ℕ)) (longer shorter : ℕ) (kids before rest : List (ℕ × ℕ)) (pair : ℕ × ℕ) → AreWords entries words → AreChildren entries longer kids → kids ≡ before ++ pair ∷ rest →
    NoneEnds entries words longer shorter before → child_of entries longer pair.0 ≡ Some pair.1 →
    true ≡ (is_word words (node_strokes entries pair.1) && is_word words (node_strokes entries shorter ++ final_stroke (node_strokes entries pair.1))) → IsEnding entries words longer shorter pair.1
unfolding codes
first_found entries words longer shorter kids before rest pair are children split none found ends =
    let p : List ℕ = node_strokes entries longer in
    let q : List ℕ = node_strokes entries shorter in
    let f : ℕ → Bool = ends_both words p q in
    let is = child_ends entries longer pair.0 pair.1 found in
    let last : final_stroke (node_strokes entries pair.1) ≡ pair.0 ∷ [] = ap final_stroke is ∙ final_stroke-push p pair.0 in
    let all : filter f (codes kids) ≡ filter f (pair.0 ∷ codes rest) =
    ap (λ l. filter f (codes l)) split ∙ ap (filter f) (map-append (λ (p : ℕ × ℕ). p.0) before (pair ∷ rest)) ∙ filter_push f (codes before) (pair.0 ∷ codes rest) none in
    record {
      node = child_inside entries longer pair.0 pair.1 found;
      some = omega (arith, ap length is, length_push p pair.0);
      strokes = is ∙ ap (λ e. p ++ e) (sym last);
      least = ap (take 1) (sym (ends_among entries words longer q kids are children) ∙ all) ∙ one_passes f pair.0 (codes rest) (test_of_child entries words longer shorter pair.0 pair.1 true found ends) ∙ sym last;
    }

-- No child does.
pub none_found : (entries words : List (List ℕ)) (longer shorter : ℕ) (kids : List (ℕ × ℕ)) → AreWords entries words → AreChildren entries longer kids → NoneEnds entries words longer shorter kids →
    last_strokes_by words (Differ (node_strokes entries longer) (node_strokes entries shorter)) ≡ []
none_found entries words longer shorter kids are children none = ap (take 1) (sym (ends_among entries words longer (node_strokes entries shorter) kids are children) ∙ none)

-- ---- the test

-- Where the first holds, both hold where the second does,
pub and_true : (a b r : Bool) → true ≡ a → r ≡ b → r ≡ (a && b)
and_true a b r h k = k ∙ ap (λ x. x && b) h

-- and where the second doesn't, not both do.
pub and_false : (a b : Bool) → b ≡ false → false ≡ (a && b)
and_false true b h = sym h
and_false false b h = refl

-- ---- the children by their places

-- Before the first child none ends both.
pub none_at_start : (entries words : List (List ℕ)) (longer shorter : ℕ) → NoneEnds entries words longer shorter []
unfolding codes
none_at_start entries words longer shorter = refl

-- The child at a place.
pub child_at : (entries : List (List ℕ)) (longer : ℕ) (kids : List (ℕ × ℕ)) (i : ℕ) → AreChildren entries longer kids → i < length kids →
    child_of entries longer (get_or kids i (0, 0)).0 ≡ Some (get_or kids i (0, 0)).1
child_at entries longer kids i children inside = (children.each (get_or kids i (0, 0)).0 (get_or kids i (0, 0)).1).0 (Contains-get_or kids i (0, 0) inside)

-- A child has a stroke.
pub child_some : (entries : List (List ℕ)) (longer code child : ℕ) → child_of entries longer code ≡ Some child → 0 < length (node_strokes entries child)
child_some entries longer code child found = omega (arith, ap length (child_ends entries longer code child found), length_push (node_strokes entries longer) code)

-- The children before a place, the child there, and those behind it.
pub split_at : (kids : List (ℕ × ℕ)) (i : ℕ) → i < length kids → kids ≡ take i kids ++ get_or kids i (0, 0) ∷ drop (i + 1) kids
split_at kids i inside =
    sym (take-append-drop (i + 1) kids) ∙ ap (λ l. l ++ drop (i + 1) kids) (take_more kids i (0, 0) inside) ∙ append_assoc (take i kids) (get_or kids i (0, 0) ∷ []) (drop (i + 1) kids)
