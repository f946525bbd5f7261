-- The lines of skipped keys, dictionary by dictionary.
use Rattle.std.proofs.Common.{◌≡◌, ℕ, ◌+◌, ◌<◌, List, [], ◌∷◌, ◌++◌, length, drop, flat_map, get_or, ap, ap₂, sym, ◌∙◌}
use Rattle.std.specs.List.{enumerate_from}
use Rattle.std.proofs.lemmas.List.{drop_more}
use Rattle.std.proofs.lemmas.List.Concat.{flat_map-cons}
use Rattle.report.specs.Reports.{skipped_from, skipped_line}

first : (n : ℕ) (x : List (List ℕ)) (xs : List (List (List ℕ))) → skipped_from n (x ∷ xs) ≡ flat_map (skipped_line n) x ++ skipped_from (n + 1) xs
first n x xs = flat_map-cons (λ (d : ℕ × List (List ℕ)). flat_map (skipped_line d.0) d.1) (n, x) (enumerate_from (n + 1) xs)

-- The lines of the next dictionary, as the program has its number and its keys.
pub skipped_next : (xs : List (List (List ℕ))) (i n number : ℕ) (keys : List (List ℕ)) → i < length xs → number ≡ n → keys ≡ get_or xs i [] →
    skipped_from n (drop i xs) ≡ flat_map (skipped_line number) keys ++ skipped_from (n + 1) (drop (i + 1) xs)
skipped_next xs i n number keys inside number_is keys_is =
    ap (skipped_from n) (drop_more xs i [] inside) ∙ first n (get_or xs i []) (drop (i + 1) xs)
    ∙ ap₂ (λ (m : ℕ) (ks : List (List ℕ)). flat_map (skipped_line m) ks ++ skipped_from (n + 1) (drop (i + 1) xs)) (sym number_is) (sym keys_is)
