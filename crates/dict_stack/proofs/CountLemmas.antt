-- How many outlines the first of some sorted candidates have.
use Rattle.std.proofs.Common.{◌≡◌, ℕ, ◌+◌, ◌-◌, ◌<◌, ◌≤◌, List, [], ◌∷◌, ◌++◌, length, get_or, take, refl, sym, ap, ap₂, subst, ◌∙◌, arith, Bool, true, false, not, cond, nat_eq, min}
use Rattle.std.specs.Ordering.{is_lt}
use Rattle.std.specs.List.Sorted.{IsSortedBy}
use Rattle.std.specs.Cmp.Lexicographic.{pointwise}
use Rattle.std.proofs.lemmas.List.{length_push, length-take, get_or-take, take_more}
use Rattle.steno_rules.specs.Outlines.{outline_cmp}
use Rattle.dict_stack.specs.inside.Candidates.{candidate_outline, AreSorted, is_end}
use Rattle.dict_stack.specs.declared.candidates.Candidate.{Candidate}
use Rattle.dict_stack.proofs.EndLemmas.{is_end_push, is_end-front}
use Rattle.dict_stack.proofs.ColumnLemmas.{ordered, outlines_push}

-- the front of a sorted list is sorted
pub sorted_take : {X : Type 0} (lt : X → X → Bool) (n : ℕ) (xs : List X) → IsSortedBy lt xs → IsSortedBy lt (take n xs)
sorted_take lt n xs sorted k d low below =
    let short : length (take n xs) ≡ min n (length xs) = length-take n xs in
    ap₂ lt (get_or-take n xs (k + 1) d (omega (arith, short, below))) (get_or-take n xs k d (omega (arith, short, below))) ∙ sorted k d low (omega (arith, short, below))

-- The candidates up to the next one.
pub next_sorted : (cs : List Candidate) (i : ℕ) (c : Candidate) → AreSorted cs → i < length cs → c ≡ get_or cs i c → AreSorted (take i cs ++ c ∷ [])
next_sorted cs i c sorted below is = subst AreSorted (take_more cs i c below ∙ ap (λ d. take i cs ++ d ∷ []) (sym is)) (sorted_take (λ a b. is_lt (outline_cmp (candidate_outline a) (candidate_outline b))) (i + 1) cs sorted)

-- The last outline of sorted candidates is that of the last.
pub end_of_last : (front : List Candidate) (last : Candidate) (x : List ℕ) → AreSorted (front ++ last ∷ []) → is_end (ordered (front ++ last ∷ [])) x ≡ pointwise nat_eq (candidate_outline last) x
end_of_last front last x sorted = ap (λ l. is_end l x) (outlines_push front last sorted) ∙ by (is_end (ordered front) (candidate_outline last)) refl
  where
    by : (b : Bool) → is_end (ordered front) (candidate_outline last) ≡ b → is_end (cond b (ordered front) (ordered front ++ candidate_outline last ∷ [])) x ≡ pointwise nat_eq (candidate_outline last) x
    by true is = let split = is_end-front (ordered front) (candidate_outline last) is in ap (λ l. is_end l x) split.1 ∙ is_end_push split.0 (candidate_outline last) x
    by false is = is_end_push (ordered front) (candidate_outline last) x

-- One more candidate adds an outline unless it has the last one.
pub count_more : (cs : List Candidate) (i : ℕ) (c : Candidate) → AreSorted cs → i < length cs → c ≡ get_or cs i c →
    length (ordered (take (i + 1) cs)) ≡ length (ordered (take i cs)) + cond (is_end (ordered (take i cs)) (candidate_outline c)) 0 1
count_more cs i c sorted below is =
    ap (λ l. length (ordered l)) (take_more cs i c below ∙ ap (λ d. take i cs ++ d ∷ []) (sym is))
    ∙ ap length (outlines_push (take i cs) c (next_sorted cs i c sorted below is))
    ∙ by (is_end (ordered (take i cs)) (candidate_outline c))
  where
    by : (b : Bool) → length (cond b (ordered (take i cs)) (ordered (take i cs) ++ candidate_outline c ∷ [])) ≡ length (ordered (take i cs)) + cond b 0 1
    by true = omega arith
    by false = length_push (ordered (take i cs)) (candidate_outline c)

-- The last outline of those before the next is that of the one before it.
pub end_before : (cs : List Candidate) (i : ℕ) (before : Candidate) (x : List ℕ) → AreSorted cs → 0 < i → i ≤ length cs → before ≡ get_or cs (i - 1) before →
    is_end (ordered (take i cs)) x ≡ pointwise nat_eq (candidate_outline before) x
end_before cs i before x sorted some within is =
    let j : i ≡ (i - 1) + 1 = omega arith in
    let whole : take i cs ≡ take (i - 1) cs ++ before ∷ [] = ap (λ n. take n cs) j ∙ take_more cs (i - 1) before (omega arith) ∙ ap (λ d. take (i - 1) cs ++ d ∷ []) (sym is) in
    ap (λ l. is_end (ordered l) x) whole ∙ end_of_last (take (i - 1) cs) before x (next_sorted cs (i - 1) before sorted (omega arith) is)

-- a test turned round
not_is : (b c : Bool) → not b ≡ c → b ≡ not c
not_is true c h = ap not h
not_is false c h = ap not h

-- A next candidate whose outline is another than the one before adds an outline.
pub count_other : (cs : List Candidate) (i : ℕ) (before c : Candidate) (other : Bool) → AreSorted cs → 0 < i → i < length cs → before ≡ get_or cs (i - 1) before → c ≡ get_or cs i c →
    other ≡ not (pointwise nat_eq (candidate_outline before) (candidate_outline c)) → length (ordered (take (i + 1) cs)) ≡ length (ordered (take i cs)) + cond other 1 0
count_other cs i before c other sorted some below before_is is test =
    count_more cs i c sorted below is
    ∙ ap (λ b. length (ordered (take i cs)) + cond b 0 1) (end_before cs i before (candidate_outline c) sorted some (omega arith) before_is ∙ not_is (pointwise nat_eq (candidate_outline before) (candidate_outline c)) other (sym test))
    ∙ by other
  where
    by : (b : Bool) → length (ordered (take i cs)) + cond (not b) 0 1 ≡ length (ordered (take i cs)) + cond b 1 0
    by true = refl
    by false = refl

-- The first candidate does.
pub count_first : (cs : List Candidate) (i : ℕ) (c : Candidate) → AreSorted cs → i < length cs → c ≡ get_or cs i c → i ≡ 0 → length (ordered (take (i + 1) cs)) ≡ length (ordered (take i cs)) + 1
count_first cs i c sorted below is first =
    count_more cs i c sorted below is ∙ ap (λ b. length (ordered (take i cs)) + cond b 0 1) (ap (λ n. is_end (ordered (take n cs)) (candidate_outline c)) first)
