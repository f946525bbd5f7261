-- Parts with bars between them, one after another.
use Rattle.std.proofs.Common.{◌≡◌, ℕ, ◌+◌, ◌<◌, List, [], ◌∷◌, ◌++◌, length, map, take, drop, flat_map, get_or, sym, ap, ◌∙◌, arith, append_assoc, append-nil, cond}
use Rattle.std.specs.Prelude.{codes}
use Rattle.std.specs.List.{concat}
use Rattle.std.proofs.lemmas.Grind.{flat_map-append}
use Rattle.std.proofs.lemmas.List.{length-map, length-take-le, drop_more, map-append, take_more}
use Rattle.std.proofs.lemmas.Bool.Decides.{Decides-ltb}
use Rattle.text_rules.specs.Lines.{barred}
use Rattle.report.specs.inside.Bars.{bar_at}

-- one text more behind some
bar_push : (x : List ℕ) (xs : List (List ℕ)) (y : List ℕ) → barred ((x ∷ xs) ++ y ∷ []) ≡ barred (x ∷ xs) ++ (codes " | " ++ y)
bar_push x xs y =
    ap (λ l. x ++ l) (flat_map-append (λ t. codes " | " ++ t) xs (y ∷ []) ∙ ap (λ l. flat_map (λ t. codes " | " ++ t) xs ++ l) (append-nil (codes " | " ++ y)))
    ∙ sym (append_assoc x (flat_map (λ t. codes " | " ++ t) xs) (codes " | " ++ y))

-- a bar stands before each later part
bar_some : (n : ℕ) → 0 < n → bar_at n ≡ codes " | "
bar_some n some = ap (λ b. cond b (codes " | ") []) ((Decides-ltb 0 n).1 some)

-- by whether there are some
bar_next : (xs : List (List ℕ)) (y : List ℕ) → barred (xs ++ y ∷ []) ≡ barred xs ++ (bar_at (length xs) ++ y)
bar_next [] y = append-nil y
bar_next (x ∷ xs) y = bar_push x xs y ∙ ap (λ l. barred (x ∷ xs) ++ (l ++ y)) (sym (bar_some (length (x ∷ xs)) (omega arith)))

-- The next of the parts that are made of a list.
pub barred_next : {X : Type 0} (f : X → List ℕ) (xs : List X) (i : ℕ) (d : X) → i < length xs →
    barred (map f (take (i + 1) xs)) ≡ barred (map f (take i xs)) ++ (bar_at i ++ f (get_or xs i d))
barred_next f xs i d inside =
    let long : length (map f (take i xs)) ≡ i = length-map (take i xs) f ∙ length-take-le i xs (omega arith) in
    ap (λ l. barred (map f l)) (take_more xs i d inside)
    ∙ ap barred (map-append f (take i xs) (get_or xs i d ∷ []))
    ∙ bar_next (map f (take i xs)) (f (get_or xs i d))
    ∙ ap (λ n. barred (map f (take i xs)) ++ (bar_at n ++ f (get_or xs i d))) long

-- What was added to a page, and a bar and a part.
pub page_next : {X : Type 0} (f : X → List ℕ) (xs : List X) (i : ℕ) (d : X) (old page bar next part : List ℕ) → i < length xs → page ≡ old ++ barred (map f (take i xs)) →
    bar ≡ page ++ bar_at i → next ≡ bar ++ part → part ≡ f (get_or xs i d) → next ≡ old ++ barred (map f (take (i + 1) xs))
page_next f xs i d old page bar next part inside is bar_is next_is part_is =
    next_is ∙ ap (λ l. l ++ part) (bar_is ∙ ap (λ l. l ++ bar_at i) is) ∙ ap (λ l. ((old ++ barred (map f (take i xs))) ++ bar_at i) ++ l) part_is
    ∙ append_assoc (old ++ barred (map f (take i xs))) (bar_at i) (f (get_or xs i d))
    ∙ append_assoc old (barred (map f (take i xs))) (bar_at i ++ f (get_or xs i d))
    ∙ ap (λ l. old ++ l) (sym (barred_next f xs i d inside))

-- the parts that are left
pub concat_next : (xs : List (List ℕ)) (i : ℕ) → i < length xs → concat (drop i xs) ≡ get_or xs i [] ++ concat (drop (i + 1) xs)
concat_next xs i inside = ap concat (drop_more xs i [] inside)
