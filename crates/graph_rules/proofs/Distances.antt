-- Least distances: where a shortest walk comes from, and how far a number can be at most.
use Rattle.std.proofs.Common.{◌≡◌, ◌≢◌, refl, ℕ, zero, suc, ◌<◌, ◌≤◌, ◌⊎◌, Bool, true, false, true≢false, List, [], ◌∷◌, length, get_or, set, replicate, sym, ap, subst, ◌∙◌, arith, inl, inr}
use Rattle.std.proofs.lemmas.Bool.{cases_lt}
use Rattle.std.proofs.lemmas.Bool.Decides.{eqb_tells}
use Rattle.std.proofs.lemmas.List.{get_or_past, get_or-set_other, length-set, length-replicate}
use Rattle.std.proofs.lemmas.Option.{slice_get_within}
use Rattle.graph_rules.specs.Graphs.{row, HasTarget, IsBest}
use Rattle.graph_rules.proofs.SettledLemmas.{best_once}

pub same_or_not : (a b : ℕ) → (a ≡ b) ⊎ (a ≢ b)
same_or_not a b = elim (eqb_tells a b) [ inl h ↦ inl h.1 | inr h ↦ inr h.1 ]

-- a number with a target is one of the graph
pub source_below : (ls : List (List ℕ)) (p t : ℕ) → HasTarget ls p t → p < length ls
source_below ls p t h = elim (cases_lt p (length ls)) [
  | inl lt ↦ lt
  | inr ge ↦ absurd (let within = slice_get_within (row ls p) h.0 t h.1 in let none = ap length (get_or_past ls p [] ge) in omega (arith, none, within))
]

-- the last move of a shortest walk comes from a number that is one move nearer
pub back : (o : ℕ) (ls : List (List ℕ)) (s n : ℕ) → IsBest o ls s (suc n) → (p : ℕ) × IsBest o ls p n × HasTarget ls p s
back o ls s n h = (
  h.walk.0,
  record { walk = h.walk.1; least = λ m walk. (let longer = h.least (suc m) (h.walk.0, walk, h.walk.2) in omega (arith, longer)) },
  h.walk.2,
)

-- ---- no number is as far as there are numbers

-- how many flags are set
abbrev count_set : List Bool → ℕ
count_set [] = 0
count_set (true ∷ flags) = suc (count_set flags)
count_set (false ∷ flags) = count_set flags

count_most : (flags : List Bool) → count_set flags ≤ length flags
count_most [] = omega arith
count_most (true ∷ flags) = let rest = count_most flags in omega (arith, rest)
count_most (false ∷ flags) = let rest = count_most flags in omega (arith, rest)

count_more : (flags : List Bool) (s : ℕ) → s < length flags → get_or flags s false ≡ false → count_set (set flags s true) ≡ suc (count_set flags)
count_more [] s below free = absurd (omega (arith, below))
count_more (true ∷ flags) zero below free = absurd (true≢false free)
count_more (false ∷ flags) zero below free = refl
count_more (true ∷ flags) (suc s) below free = ap suc (count_more flags s (omega (arith, below)) free)
count_more (false ∷ flags) (suc s) below free = count_more flags s (omega (arith, below)) free

count_none : (n : ℕ) → count_set (replicate n false) ≡ 0
count_none zero = refl
count_none (suc n) = count_none n

none_set : (n s : ℕ) → get_or (replicate n false) s false ≡ true → ⊥
none_set zero s is = true≢false (sym is)
none_set (suc n) zero is = true≢false (sym is)
none_set (suc n) (suc s) is = none_set n s is

-- n flags are set, each at a number that is nearer than n
record Marked (o : ℕ) (ls : List (List ℕ)) (n : ℕ) : Type 0 where
  flags : List Bool
  count : length flags ≡ length ls
  many : count_set flags ≡ n
  near : (s : ℕ) → get_or flags s false ≡ true → (m : ℕ) × (m < n) × IsBest o ls s m

mark : (o : ℕ) (ls : List (List ℕ)) (s n : ℕ) → s < length ls → IsBest o ls s n → Marked o ls n → Marked o ls (suc n)
mark o ls s n below best h = record {
  flags = set h.flags s true;
  count = length-set h.flags s true ∙ h.count;
  many = count_more h.flags s (let count = h.count in omega (arith, count, below)) (free (get_or h.flags s false) refl) ∙ ap suc h.many;
  near = λ q is. elim (same_or_not q s) [
    | inl same ↦ (n, omega arith, subst (λ x. IsBest o ls x n) (sym same) best)
    | inr other ↦ (let old = h.near q (sym (get_or-set_other h.flags s q true false other) ∙ is) in let lt = old.1 in (old.0, omega (arith, lt), old.2))
  ];
}
  where
    free : (b : Bool) → get_or h.flags s false ≡ b → get_or h.flags s false ≡ false
    free false is = is
    free true is = absurd (let old = h.near s is in let same = best_once o ls s old.0 n old.2 best in let lt = old.1 in omega (arith, same, lt))

marked : (o : ℕ) (ls : List (List ℕ)) (s n : ℕ) → s < length ls → IsBest o ls s n → Marked o ls (suc n)
marked o ls s zero below best = mark o ls s 0 below best (record {
  flags = replicate (length ls) false;
  count = length-replicate (length ls) false;
  many = count_none (length ls);
  near = λ q is. absurd (none_set (length ls) q is);
})
marked o ls s (suc n) below best = let nearer = back o ls s n best in mark o ls s (suc n) below best (marked o ls nearer.0 n (source_below ls nearer.0 s nearer.2) nearer.1)

-- a least distance is less than the number of numbers
pub best_below : (o : ℕ) (ls : List (List ℕ)) (s n : ℕ) → s < length ls → IsBest o ls s n → n < length ls
best_below o ls s n below best =
    let h = marked o ls s n below best in
    let most = count_most h.flags in let count = h.count in let many = h.many in
    omega (arith, most, count, many)
