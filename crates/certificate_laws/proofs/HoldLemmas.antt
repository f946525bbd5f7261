-- Checks that all hold.
use Rattle.std.proofs.Common.{◌≡◌, ℕ, ◌+◌, ◌-◌, List, [], ◌∷◌, ◌++◌, map, refl, sym, subst, Bool, true, false, not, cond, true≢false, Option, Some, None, Contains, inl, inr}
use Rattle.std.specs.Prelude.{◌&&◌}
use Rattle.std.specs.List.{list_all, list_any}
use Rattle.steno_rules.proofs.Lists.{in_cons, in_first, in_later, none_in_nil}
pub use Rattle.std.proofs.lemmas.Bool.{and_parts as both, and_from as both_back, or_cases as either}
use Rattle.certificate_laws.specs.Checks.{Check, accepted, first_failure, outcome_by}
use Rattle.certificate_laws.specs.inside.Holding.{AllHold}

pub AllHold-append : (xs ys : List Check) → AllHold (xs ++ ys) → AllHold xs × AllHold ys
AllHold-append [] ys h = (tt, h)
AllHold-append (x ∷ xs) ys h = let rest = AllHold-append xs ys h.1 in ((h.0, rest.0), rest.1)

pub AllHold-join : (xs ys : List Check) → AllHold xs → AllHold ys → AllHold (xs ++ ys)
AllHold-join [] ys a b = b
AllHold-join (x ∷ xs) ys a b = (a.0, AllHold-join xs ys a.1 b)

-- where none is the first to fail all hold
pub none_fails : (checks : List Check) → first_failure None checks ≡ None → AllHold checks
none_fails [] e = tt
none_fails (c ∷ cs) e = by c.holds refl e (none_fails cs)
  where
    by : (b : Bool) → c.holds ≡ b → cond (not (b && true)) (Some c) (first_failure None cs) ≡ None → (first_failure None cs ≡ None → AllHold cs) → (c.holds ≡ true) × AllHold cs
    by true is e' rest = (is, rest e')
    by false is e' rest = absurd (true≢false cc)

-- what is accepted fails nowhere, and tells the number
pub accepted_holds : (n m : ℕ) (checks : List Check) → outcome_by None n (first_failure None checks) ≡ accepted m → AllHold checks × (n ≡ m)
accepted_holds n m checks e = by (first_failure None checks) refl e
  where
    by : (o : Option Check) → first_failure None checks ≡ o → outcome_by None n o ≡ accepted m → AllHold checks × (n ≡ m)
    by None is e' = let same : n ≡ m = cc in (none_fails checks is, same)
    by (Some c) is e' = absurd (true≢false cc)

pub holds_in : {A : Type 0} (f : A → Check) (xs : List A) (x : A) → AllHold (map f xs) → Contains xs x → (f x).holds ≡ true
holds_in f [] x h there = absurd (none_in_nil x there)
holds_in f (y ∷ ys) x h there = elim (in_cons y ys x there) [
  | inl is ↦ subst (λ z. (f z).holds ≡ true) is h.0
  | inr later ↦ holds_in f ys x h.1 later
]

pub list_all_in : {A : Type 0} (p : A → Bool) (xs : List A) (x : A) → list_all p xs ≡ true → Contains xs x → p x ≡ true
list_all_in p [] x h there = absurd (none_in_nil x there)
list_all_in p (y ∷ ys) x h there =
    let two = both (p y) (list_all p ys) h in elim (in_cons y ys x there) [
      | inl is ↦ subst (λ z. p z ≡ true) is two.0
      | inr later ↦ list_all_in p ys x two.1 later
    ]

pub list_any_in : {A : Type 0} (p : A → Bool) (xs : List A) → list_any p xs ≡ true → (x : A) × Contains xs x × (p x ≡ true)
list_any_in p [] h = absurd (true≢false (sym h))
list_any_in p (y ∷ ys) h = elim (either (p y) (list_any p ys) h) [
  | inl is ↦ (y, in_first y ys, is)
  | inr later ↦ (let r = list_any_in p ys later in (r.0, in_later y ys r.0 r.1, r.2))
]
