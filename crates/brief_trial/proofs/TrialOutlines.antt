-- What stands at each number of a trial stack, which is the stack with the brief at its place.
use Rattle.std.proofs.Common.{Option, None, is_some, ◌≡◌, ℕ, suc, ◌+◌, ◌-◌, ◌<◌, ◌≤◌, ◌∙◌, List, [], ◌∷◌, ◌++◌, length, get_or, refl, sym, ap, subst, arith, Bool, true, false, true≢false, Contains, ◌⊎◌, Some, Ordering, Less, Equal, Greater, inl, inr, length-append}
use Rattle.std.specs.Cmp.Lexicographic.{nat_list_cmp_total}
use Rattle.std.proofs.Math.Seq.{get_or-append_seam}
use Rattle.std.proofs.Math.ListN.{get_or-append}
use Rattle.std.proofs.lemmas.List.{get_or-append-add, get_or_default}
use Rattle.std.specs.Prelude.{◌||◌, nat_lt}
use Rattle.std.proofs.lemmas.Bool.Decides.{Decides-ltb, nat_tests}
use Rattle.steno_rules.specs.Nodes.{by_order, insert_new}
use Rattle.steno_rules.specs.Outlines.{AreRising, entry_number, is_entry, outline_cmp, outline_of}
use Rattle.steno_rules.proofs.Entries.{is_entry-Decides}
use Rattle.steno_rules.proofs.Lists.{in_first, in_later}
use Rattle.steno_rules.proofs.NodeLemmas.{same_of_equal}
use Rattle.steno_rules.proofs.Numbers.{entry_number-Some, entry_number-outline_of, number_test}
use Rattle.brief_trial.proofs.TrialStacks.{held_entries, with_rising}

-- all is the entries with x between two parts of them
record IsBetween (entries all : List (List ℕ)) (x : List ℕ) : Type 0 where
  front : List (List ℕ)
  back : List (List ℕ)
  parts : entries ≡ front ++ back
  is : all ≡ front ++ (x ∷ back)

-- what isn't there is inserted somewhere
new-between : (entries : List (List ℕ)) (x : List ℕ) → (Contains entries x → ⊥) → IsBetween entries (insert_new entries x) x
new-between [] x new = record { front = []; back = []; parts = refl; is = refl }
new-between (y ∷ ys) x new = by (outline_cmp x y) refl (new-between ys x (λ there. new (in_later y ys x there)))
  where
    by : (o : Ordering) → outline_cmp x y ≡ o → IsBetween ys (insert_new ys x) x → IsBetween (y ∷ ys) (by_order o (x ∷ y ∷ ys) (y ∷ ys) (y ∷ insert_new ys x)) x
    by Less is rest = record { front = []; back = y ∷ ys; parts = refl; is = refl }
    by Equal is rest = absurd (new (subst (Contains (y ∷ ys)) (sym (same_of_equal x y is)) (in_first y ys)))
    by Greater is rest = record { front = y ∷ rest.front; back = rest.back; parts = ap (λ l. y ∷ l) rest.parts; is = ap (λ l. y ∷ l) rest.is }

-- its number is the length of the first part
number-between : (entries all : List (List ℕ)) (x : List ℕ) (e : ℕ) (h : IsBetween entries all x) → AreRising all → entry_number all x ≡ Some e → length h.front ≡ e
number-between entries all x e h rising numbered =
    let here : outline_of all (length h.front) ≡ x = ap (λ (l : List (List ℕ)). outline_of l (length h.front)) h.is ∙ get_or-append_seam h.front x h.back [] in
    let within : length h.front < length all = omega (arith, ap length h.is, length-append h.front (x ∷ h.back)) in
    let found : Some (length h.front) ≡ Some e = sym (entry_number-outline_of all (length h.front) rising within) ∙ ap (entry_number all) here ∙ numbered in
    cc (found)

-- the outline of a number
pub record IsAt (entries all : List (List ℕ)) (n place : ℕ) : Type 0 where
  pub within : place < length entries
  pub is : outline_of entries place ≡ outline_of all n

before-between : (entries all : List (List ℕ)) (x : List ℕ) (n : ℕ) (h : IsBetween entries all x) → n < length h.front → IsAt entries all n n
before-between entries all x n h less = record {
  within = omega (arith, less, ap length h.parts, length-append h.front h.back);
  is = ap (λ (l : List (List ℕ)). outline_of l n) h.parts ∙ get_or-append h.front h.back [] n less
      ∙ sym (get_or-append h.front (x ∷ h.back) [] n less) ∙ sym (ap (λ (l : List (List ℕ)). outline_of l n) h.is);
}

behind-between : (entries all : List (List ℕ)) (x : List ℕ) (n j : ℕ) (h : IsBetween entries all x) → n ≡ length h.front + suc j → n < length all → IsAt entries all n (length h.front + j)
behind-between entries all x n j h is below = record {
  within = omega (arith, is, below, ap length h.parts, length-append h.front h.back, ap length h.is, length-append h.front (x ∷ h.back));
  is = ap (λ (l : List (List ℕ)). outline_of l (length h.front + j)) h.parts ∙ get_or-append-add h.front h.back j []
      ∙ sym (get_or-append-add h.front (x ∷ h.back) (suc j) []) ∙ sym (ap (λ (l : List (List ℕ)). outline_of l (length h.front + suc j)) h.is) ∙ sym (ap (outline_of all) is);
}

-- The brief stands at its own number.
pub own-outline : (entries : List (List ℕ)) (x : List ℕ) (e n : ℕ) → entry_number (insert_new entries x) x ≡ Some e → n ≡ e → x ≡ outline_of (insert_new entries x) n
own-outline entries x e n numbered is = sym (ap (outline_of (insert_new entries x)) is ∙ (entry_number-Some (insert_new entries x) x e numbered).1)

-- the entries have it at a number, or don't have it
held_cases : (entries : List (List ℕ)) (x : List ℕ) (held : Bool) → held ≡ is_entry entries x → ((k : ℕ) × (entry_number entries x ≡ Some k)) ⊎ ((held ≡ false) × (Contains entries x → ⊥))
held_cases entries x held is = by (entry_number entries x) refl
  where
    by : (o : Option ℕ) → entry_number entries x ≡ o → ((k : ℕ) × (entry_number entries x ≡ Some k)) ⊎ ((held ≡ false) × (Contains entries x → ⊥))
    by (Some k) found = inl (k, found)
    by None none =
        let apart : is_entry entries x ≡ false = sym (number_test entries x) ∙ ap is_some none in
        inr (is ∙ apart, λ there. true≢false (sym ((is_entry-Decides entries x).1 there) ∙ apart))

-- Before the brief, and everywhere where the entries have it, stands what stands there in the entries.
pub same-number : (entries : List (List ℕ)) (x : List ℕ) (held : Bool) (e n : ℕ) → AreRising entries → held ≡ is_entry entries x → entry_number (insert_new entries x) x ≡ Some e
    → n < length (insert_new entries x) → (held || nat_lt n e) ≡ true → IsAt entries (insert_new entries x) n n
same-number entries x held e n rising held_is numbered below kept = elim (held_cases entries x held held_is) [
  | inl there ↦ let same = held_entries entries x there.0 rising there.1 in record { within = omega (arith, below, ap length same); is = sym (ap (λ (l : List (List ℕ)). outline_of l n) same) }
  | inr new ↦
      let h = new-between entries x new.1 in
      let place = number-between entries (insert_new entries x) x e h (with_rising entries x rising) numbered in
      before-between entries (insert_new entries x) x n h (less h.front new.0 place kept)
]
  where
    less : (front : List (List ℕ)) → held ≡ false → length front ≡ e → (held || nat_lt n e) ≡ true → n < length front
    less front apart place kept =
        let before : nat_lt n e ≡ true = sym (ap (λ b. b || nat_lt n e) apart) ∙ kept in
        subst (λ (k : ℕ). n < k) (sym place) ((Decides-ltb n e).0 before)

-- an entry that doesn't keep its number stands behind a new brief
apart_cases : (held : Bool) (n e : ℕ) → (held || nat_lt n e) ≡ false → (held ≡ false) × (e ≤ n)
apart_cases true n e apart = absurd (true≢false apart)
apart_cases false n e apart = (refl, grind (arith, nat_tests, apart))

-- Behind a new brief all entries stand one later.
pub later-number : (entries : List (List ℕ)) (x : List ℕ) (held : Bool) (e n : ℕ) → AreRising entries → held ≡ is_entry entries x → entry_number (insert_new entries x) x ≡ Some e
    → n < length (insert_new entries x) → (held || nat_lt n e) ≡ false → (n ≡ e → ⊥) → IsAt entries (insert_new entries x) n (n - 1)
later-number entries x held e n rising held_is numbered below moved other =
    let cases = apart_cases held n e moved in
    let apart = cases.0 in
    let later : e < n = omega (arith, cases.1, other) in
    let new : Contains entries x → ⊥ = λ there. true≢false (sym ((is_entry-Decides entries x).1 there) ∙ sym held_is ∙ apart) in
    let h = new-between entries x new in
    let place = number-between entries (insert_new entries x) x e h (with_rising entries x rising) numbered in
    subst (IsAt entries (insert_new entries x) n) (omega (arith, place, later)) (behind-between entries (insert_new entries x) x n (n - 1 - length h.front) h (omega (arith, place, later)) below)

-- What is read at a number of the entries is the outline there.
pub outline-read : (xs entries : List (List ℕ)) (i : ℕ) (x : List ℕ) → xs ≡ entries → x ≡ get_or xs i x → i < length entries → x ≡ outline_of entries i
outline-read xs entries i x same is within = is ∙ ap (λ (l : List (List ℕ)). get_or l i x) same ∙ get_or_default entries i x [] within
