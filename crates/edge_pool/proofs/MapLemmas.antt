-- A finite map by places, after a change.
use Rattle.std.proofs.Common.{◌≡◌, ◌≢◌, ℕ, zero, suc, ◌+◌, ◌-◌, ◌<◌, ◌≤◌, refl, sym, ap, ◌∙◌, arith, Bool, true, false, true≢false, nat_eq, cond, inl, inr, Some, None, is_some}
use Rattle.std.specs.Ordering.{nat_cmp, eq_by_cmp}
use Rattle.std.specs.Cmp.{nat_cmp_total}
use Rattle.std.specs.FinMap as map
use Rattle.std.proofs.lemmas.Bool.{cases_eq}
use Rattle.std.proofs.lemmas.Bool.Decides.{nat_tests}

pub same_test : (a b : ℕ) → eq_by_cmp nat_cmp a b ≡ nat_eq a b
same_test a b = grind (arith, nat_tests)

pub same_number : (a b : ℕ) → a ≡ b → nat_eq a b ≡ true
same_number a b h = grind (arith, nat_tests)

pub other_number : (a b : ℕ) → a ≢ b → nat_eq a b ≡ false
other_number a b h = grind (arith, nat_tests)

pub told_same : (a b : ℕ) → nat_eq a b ≡ true → a ≡ b
told_same a b h = grind (arith, nat_tests)

most_one_more : (b : Bool) (n : ℕ) → cond b n (n + 1) ≤ n + 1
most_one_more true n = omega arith
most_one_more false n = omega arith

module _ {X : Type 0} where
  pub get_inserted : (m : map.FinMap nat_cmp X) (p : ℕ) (x : X) → map.get (map.insert m p x) p ≡ Some x
  get_inserted m p x = map.get-insert nat_cmp_total m p x p ∙ rw (same_test p p, same_number p p refl) refl

  pub get_beside_inserted : (m : map.FinMap nat_cmp X) (p : ℕ) (x : X) (q : ℕ) → q ≢ p → map.get (map.insert m p x) q ≡ map.get m q
  get_beside_inserted m p x q apart = map.get-insert nat_cmp_total m p x q ∙ rw (same_test q p, other_number q p apart) refl

  pub get_removed : (m : map.FinMap nat_cmp X) (p : ℕ) → map.get (map.remove m p) p ≡ None
  get_removed m p = map.get-remove nat_cmp_total m p p ∙ rw (same_test p p, same_number p p refl) refl

  pub get_beside_removed : (m : map.FinMap nat_cmp X) (p q : ℕ) → q ≢ p → map.get (map.remove m p) q ≡ map.get m q
  get_beside_removed m p q apart = map.get-remove nat_cmp_total m p q ∙ rw (same_test q p, other_number q p apart) refl

  pub maps_same : (m n : map.FinMap nat_cmp X) → ((q : ℕ) → map.get m q ≡ map.get n q) → m ≡ n
  maps_same m n each = map.same_map nat_cmp_total map.nat_cmp-IsAntisymmetric m n each

  -- a map that answers as another did, but at one place
  pub is_inserted : (m n : map.FinMap nat_cmp X) (p : ℕ) (x : X) → map.get m p ≡ Some x → ((q : ℕ) → q ≢ p → map.get m q ≡ map.get n q) → m ≡ map.insert n p x
  is_inserted m n p x here beside = maps_same m (map.insert n p x) (λ q. elim (cases_eq q p) [
    | inl same ↦ rw same (here ∙ sym (get_inserted n p x))
    | inr apart ↦ beside q apart ∙ sym (get_beside_inserted n p x q apart)
  ])

  pub is_removed : (m n : map.FinMap nat_cmp X) (p : ℕ) → map.get m p ≡ None → ((q : ℕ) → q ≢ p → map.get m q ≡ map.get n q) → m ≡ map.remove n p
  is_removed m n p here beside = maps_same m (map.remove n p) (λ q. elim (cases_eq q p) [
    | inl same ↦ rw same (here ∙ sym (get_removed n p))
    | inr apart ↦ beside q apart ∙ sym (get_beside_removed n p q apart)
  ])

  pub insert_twice : (m : map.FinMap nat_cmp X) (p : ℕ) (x y : X) → map.insert (map.insert m p x) p y ≡ map.insert m p y
  insert_twice m p x y = is_inserted (map.insert (map.insert m p x) p y) m p y (get_inserted (map.insert m p x) p y)
      (λ q apart. get_beside_inserted (map.insert m p x) p y q apart ∙ get_beside_inserted m p x q apart)

  pub insert_removed : (m : map.FinMap nat_cmp X) (p : ℕ) (x : X) → map.insert (map.remove m p) p x ≡ map.insert m p x
  insert_removed m p x = is_inserted (map.insert (map.remove m p) p x) m p x (get_inserted (map.remove m p) p x)
      (λ q apart. get_beside_inserted (map.remove m p) p x q apart ∙ get_beside_removed m p q apart)

  pub len-inserted-le : (m : map.FinMap nat_cmp X) (p : ℕ) (x : X) → map.len (map.insert m p x) ≤ map.len m + 1
  len-inserted-le m p x = rw (map.len-insert nat_cmp_total m p x) (most_one_more (map.contains_key m p) (map.len m))

  pub len-replaced : (m : map.FinMap nat_cmp X) (p : ℕ) (x y : X) → map.get m p ≡ Some y → map.len (map.insert m p x) ≡ map.len m
  len-replaced m p x y is = map.len-insert nat_cmp_total m p x ∙ rw is refl

  -- what has an entry isn't empty
  has_one : (m : map.FinMap nat_cmp X) (p : ℕ) (x : X) (n : ℕ) → map.get m p ≡ Some x → map.len m ≡ n → 0 < n
  has_one m p x zero is none =
      let nowhere : map.get m p ≡ None = rw (map.empty_of_len m none) (map.get-empty nat_cmp p) in
      let wrong : Some x ≡ None = sym is ∙ nowhere in
      absurd (true≢false (ap is_some wrong))
  has_one m p x (suc n) is some = omega arith

  pub len-removed : (m : map.FinMap nat_cmp X) (p : ℕ) (x : X) → map.get m p ≡ Some x → map.len (map.remove m p) + 1 ≡ map.len m
  len-removed m p x is = by (map.len (map.remove m p)) (map.len-remove nat_cmp_total m p ∙ rw is refl) (has_one m p x (map.len m) is refl)
    where
      by : (n : ℕ) → n ≡ map.len m - 1 → 0 < map.len m → n + 1 ≡ map.len m
      by n e pos = omega arith
