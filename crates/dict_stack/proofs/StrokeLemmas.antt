-- One more stroke, and the strokes of one more outline.
use Rattle.std.proofs.Common.{◌≡◌, ℕ, ◌+◌, ◌<◌, ◌≤◌, ◌==◌, List, [], ◌∷◌, ◌++◌, length, get_or, take, fold, sym, ap, ◌∙◌, arith, Bool, true, false, cond}
use Rattle.std.specs.List.{concat, list_any}
use Rattle.std.proofs.lemmas.List.{length_push, append-nil, take_more}
use Rattle.std.proofs.lemmas.List.Sums.{fold-append}
use Rattle.std.proofs.lemmas.List.Folds.{concat-append}
use Rattle.dict_stack.specs.Appearances.{with_new, strokes_of_all}

-- one more stroke adds at most one
pub with_new-few : (found : List ℕ) (x : ℕ) → length (with_new found x) ≤ length found + 1
with_new-few found x = by (list_any (λ y. x == y) found)
  where
    by : (b : Bool) → length (cond b found (found ++ x ∷ [])) ≤ length found + 1
    by true = omega arith
    by false = omega (arith, length_push found x)

-- The strokes of the next outline follow those of the outlines before it.
pub strokes_more : (outlines : List (List ℕ)) (i : ℕ) (outline : List ℕ) → i < length outlines → outline ≡ get_or outlines i outline →
    fold with_new (strokes_of_all (take i outlines)) outline ≡ strokes_of_all (take (i + 1) outlines)
strokes_more outlines i outline below is =
    sym (fold-append with_new [] (concat (take i outlines)) outline)
    ∙ ap (fold with_new []) (ap (λ l. concat (take i outlines) ++ l) (sym (append-nil outline)) ∙ sym (concat-append (take i outlines) (outline ∷ [])) ∙ ap concat (ap (λ o. take i outlines ++ o ∷ []) is ∙ sym (take_more outlines i outline below)))
