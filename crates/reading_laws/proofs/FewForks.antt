-- How many numbers forks need: no more than states, where there is an entry.
use Rattle.std.proofs.Common.{◌≡◌, ℕ, ◌+◌, ◌≤◌, List, [], ◌∷◌, length, take, take_all, refl, subst, arith, ◌⊎◌, inl, inr}
use Rattle.std.specs.List.{sum_by}
use Rattle.std.proofs.lemmas.List.Sums.{sum_by-cons}
use Rattle.steno_rules.specs.Outlines.{AreRising, outline_cmp}
use Rattle.steno_rules.specs.Nodes.{nodes}
use Rattle.steno_rules.specs.StateNumbers.{number_count, part_size}
use Rattle.steno_rules.proofs.Lists.{pairs_first, in_first}
use Rattle.steno_rules.proofs.NodeLemmas.{nodes-first, nodes-rising}
use Rattle.steno_rules.proofs.Numbers.{not_below_self}
use Rattle.std.specs.declared.cmp.Ordering.TheVariants.{Less}
use Rattle.reading_laws.specs.ForkNumbers.{fork_count}

sizes : (zs : List (List ℕ)) → sum_by (λ z. length z + 1) zs ≤ sum_by (λ z. part_size (length z)) zs
sizes [] = omega arith
sizes (z ∷ zs) = omega (arith, sizes zs, sum_by-cons (λ (z : List ℕ). length z + 1) z zs, sum_by-cons (λ (z : List ℕ). part_size (length z)) z zs)

not_first : (z : List ℕ) → outline_cmp [] z ≡ Less → 1 ≤ length z
not_first [] h = absurd (not_below_self [] h)
not_first (c ∷ z) h = omega arith

all_sizes : (ns : List (List ℕ)) (zs : List (List ℕ)) → ns ≡ [] ∷ zs → AreRising ns → (sum_by (λ z. length z + 1) ns + 1 ≡ 2) ⊎ (sum_by (λ z. length z + 1) ns + 1 ≤ sum_by (λ z. part_size (length z)) ns)
all_sizes ns [] is rising = inl (rw is refl)
all_sizes ns (z ∷ zs) is rising =
    let some : 1 ≤ length z = not_first z (pairs_first (λ a b. outline_cmp a b ≡ Less) [] (z ∷ zs) z (subst AreRising is rising) (in_first z zs)) in
    inr (rw is (by some (sizes zs) (sum_by-cons (λ (z : List ℕ). length z + 1) [] (z ∷ zs)) (sum_by-cons (λ (z : List ℕ). length z + 1) z zs) (sum_by-cons (λ (z : List ℕ). part_size (length z)) [] (z ∷ zs)) (sum_by-cons (λ (z : List ℕ). part_size (length z)) z zs)))
  where
    by : {a b c d e f n : ℕ} → 1 ≤ n → a ≤ b → c ≡ 1 + d → d ≡ n + 1 + a → e ≡ part_size 0 + f → f ≡ part_size n + b → c + 1 ≤ e
    by some less c d e f = omega (arith, some, less, c, d, e, f)

-- There are two numbers, or no more than numbers of states.
pub few_forks : (entries : List (List ℕ)) → (fork_count entries ≡ 2) ⊎ (fork_count entries ≤ number_count entries)
few_forks entries =
    let first = nodes-first entries in
    let all : take (length (nodes entries)) (nodes entries) ≡ nodes entries = take_all (length (nodes entries)) (nodes entries) (omega arith) in
    rw all (all_sizes (nodes entries) first.0 first.1 (nodes-rising entries))
