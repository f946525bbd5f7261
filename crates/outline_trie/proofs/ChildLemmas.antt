-- The children of a node, by the columns.
use Rattle.std.proofs.Common.{◌≡◌, ℕ, zero, suc, ◌<◌, ◌≤◌, List, [], ◌∷◌, ◌++◌, length, get_or, refl, sym, ap, subst, ◌∙◌, arith, inl, inr, Less, Equal, Greater, Ordering, ◌⊎◌, Option, Some, None, Contains, Bool, true, false, cond, not, ◌&&◌, nat_eq, AllPairs}
use Rattle.std.specs.Ordering.{nat_cmp, ordering_then}
use Rattle.std.proofs.lemmas.Bool.{cases_eq}
use Rattle.std.proofs.lemmas.Bool.Decides.{nat_tests}
use Rattle.std.proofs.lemmas.List.{get_or_default, length_push, same_from_push, append-nil}
use Rattle.std.proofs.lemmas.List.Elements.{Contains-append_cases, Contains-append_left, Contains-append_right}
use Rattle.outline_trie.specs.inside.Tables.{IsTable}
use Rattle.outline_trie.specs.inside.Children.{is_child, children_among}
use Rattle.outline_trie.specs.Tries.{AreChildren, child_of}
use Rattle.steno_rules.specs.Outlines.{outline_cmp, outline_of, entry_number}
use Rattle.steno_rules.specs.Nodes.{nodes}
use Rattle.steno_rules.proofs.Numbers.{entry_number-Some, entry_number-outline_of, outline_of-once}
use Rattle.steno_rules.proofs.NodeLemmas.{nodes-rising, nodes-first}
use Rattle.outline_trie.proofs.OrderLemmas.{nat_cmp_same}
use Rattle.steno_rules.proofs.Lists.{none_in_nil, in_one, in_first, in_if, pairs_push}

-- ---- who is among the children

-- a child and its stroke
pub record IsKid (parents strokes : List ℕ) (node count : ℕ) (pair : ℕ × ℕ) : Type 0 where
  pub below : pair.1 < count
  pub later : 0 < pair.1
  pub parent : get_or parents pair.1 0 ≡ node
  pub stroke : pair.0 ≡ get_or strokes pair.1 1

told_child : (parents : List ℕ) (node child : ℕ) → is_child parents node child ≡ true → (0 < child) × (get_or parents child 0 ≡ node)
told_child parents node child h = plain child (get_or parents child 0) h
  where
    plain : (c p : ℕ) → (not (nat_eq c 0) && nat_eq p node) ≡ true → (0 < c) × (p ≡ node)
    plain c p h = grind (arith, nat_tests)

child_told : (parents : List ℕ) (node child : ℕ) → 0 < child → get_or parents child 0 ≡ node → is_child parents node child ≡ true
child_told parents node child later is = plain child (get_or parents child 0) later is
  where
    plain : (c p : ℕ) → 0 < c → p ≡ node → (not (nat_eq c 0) && nat_eq p node) ≡ true
    plain c p h e = grind (arith, nat_tests)

pub child_pair : (parents strokes : List ℕ) (node count : ℕ) (pair : ℕ × ℕ) → Contains (children_among parents strokes node count) pair → IsKid parents strokes node count pair
child_pair parents strokes node zero pair h = absurd (none_in_nil pair h)
child_pair parents strokes node (suc count) pair h =
    by (Contains-append_cases (children_among parents strokes node count) (cond (is_child parents node count) ((get_or strokes count 1, count) ∷ []) []) pair h) (child_pair parents strokes node count pair)
  where
    new : (p : ℕ × ℕ) → (get_or strokes count 1, count) ≡ p → is_child parents node count ≡ true → IsKid parents strokes node (suc count) p
    new p same is = subst (IsKid parents strokes node (suc count)) same (record {
      below = omega arith;
      later = (told_child parents node count is).0;
      parent = (told_child parents node count is).1;
      stroke = refl;
    })

    by : Contains (children_among parents strokes node count) pair ⊎ Contains (cond (is_child parents node count) ((get_or strokes count 1, count) ∷ []) []) pair →
        (Contains (children_among parents strokes node count) pair → IsKid parents strokes node count pair) → IsKid parents strokes node (suc count) pair
    by (inl old) rest = let k = rest old in record { below = omega (arith, k.below); later = k.later; parent = k.parent; stroke = k.stroke }
    by (inr one) rest =
        let both = in_if (is_child parents node count) ((get_or strokes count 1, count) ∷ []) pair one in
        new pair (in_one (get_or strokes count 1, count) pair both.1) both.0

pub of_child : (parents strokes : List ℕ) (node count child : ℕ) → child < count → 0 < child → get_or parents child 0 ≡ node → Contains (children_among parents strokes node count) (get_or strokes child 1, child)
of_child parents strokes node zero child below later is = absurd (omega arith)
of_child parents strokes node (suc count) child below later is = elim (cases_eq child count) [
  | inl last ↦
      Contains-append_right (children_among parents strokes node count) (cond (is_child parents node count) ((get_or strokes count 1, count) ∷ []) []) (get_or strokes child 1, child)
      (subst (λ c. Contains {X = ℕ × ℕ} (cond (is_child parents node count) ((get_or strokes count 1, count) ∷ []) []) (get_or strokes c 1, c)) (sym last)
      (rw (child_told parents node count (omega arith) (ap (λ c. get_or parents c 0) (sym last) ∙ is)) (in_first (get_or strokes count 1, count) [])))
  | inr other ↦
      Contains-append_left (children_among parents strokes node count) (cond (is_child parents node count) ((get_or strokes count 1, count) ∷ []) []) (get_or strokes child 1, child)
      (of_child parents strokes node count child (omega arith) later is)
]

-- ---- their order

less_told : (a b : ℕ) → nat_cmp a b ≡ Less → a < b
less_told a b h = grind (arith, nat_tests)

then_less : (o : Ordering) → ordering_then o Equal ≡ Less → o ≡ Less
then_less Less h = refl
then_less Equal h = h
then_less Greater h = h

last_below : (u : List ℕ) (a b : ℕ) → outline_cmp (u ++ a ∷ []) (u ++ b ∷ []) ≡ Less → a < b
last_below [] a b h = less_told a b (then_less (nat_cmp a b) h)
last_below (c ∷ u) a b h = last_below u a b (subst (λ o. ordering_then o (outline_cmp (u ++ a ∷ []) (u ++ b ∷ [])) ≡ Less) (nat_cmp_same c) h)

module _ (entries : List (List ℕ)) (parents strokes depths : List ℕ) (t : IsTable (nodes entries) parents strokes depths) (node : ℕ) where
  abbrev X : List (List ℕ)
  X = nodes entries

  -- a child is its parent and its stroke
  child_is : (count : ℕ) (pair : ℕ × ℕ) → IsKid parents strokes node count pair → pair.1 < length X → outline_of X pair.1 ≡ outline_of X node ++ pair.0 ∷ []
  child_is count pair k inside =
      let s = t.step pair.1 k.later inside in
      s.is ∙ ap (λ p. outline_of X p ++ get_or strokes pair.1 1 ∷ []) k.parent ∙ ap (λ c. outline_of X node ++ c ∷ []) (sym k.stroke)

  children_rise : (count : ℕ) → count ≤ length X → AllPairs (λ a b. a.0 < b.0) (children_among parents strokes node count)
  children_rise zero within = λ i j d before inside. absurd (omega arith)
  children_rise (suc count) within = by (is_child parents node count) refl (children_rise count (omega arith))
    where
      by : (b : Bool) → is_child parents node count ≡ b → AllPairs (λ a b. a.0 < b.0) (children_among parents strokes node count) →
          AllPairs (λ a b. a.0 < b.0) (children_among parents strokes node count ++ cond b ((get_or strokes count 1, count) ∷ []) [])
      by false is rest = rw (append-nil (children_among parents strokes node count)) rest
      by true is rest = pairs_push (λ a b. a.0 < b.0) (children_among parents strokes node count) (get_or strokes count 1, count) rest (λ x has.
          let k = child_pair parents strokes node count x has in
          let here = told_child parents node count is in
          last_below (outline_of X node) x.0 (get_or strokes count 1) (
          rw (← child_is count x k (omega (arith, k.below)), ← child_is (suc count) (get_or strokes count 1, count) (record { below = omega arith; later = here.0; parent = here.1; stroke = refl }) (omega arith))
          (nodes-rising entries x.1 count [] k.below (omega arith))
          ))

  child_found : (pair : ℕ × ℕ) → Contains (children_among parents strokes node (length X)) pair → child_of entries node pair.0 ≡ Some pair.1
  child_found pair has =
      let k = child_pair parents strokes node (length X) pair has in
      ap (entry_number X) (sym (child_is (length X) pair k k.below)) ∙ entry_number-outline_of X pair.1 (nodes-rising entries) k.below

  root_is : outline_of X 0 ≡ []
  root_is = ap (λ ys. outline_of ys 0) (nodes-first entries).1

  found_child : (code child : ℕ) → node < length X → child_of entries node code ≡ Some child → Contains (children_among parents strokes node (length X)) (code, child)
  found_child code child inside h =
      let found = entry_number-Some X (outline_of X node ++ code ∷ []) child h in
      let later : 0 < child = not_root child found.1 in
      let s = t.step child later found.0 in
      let both = same_from_push (outline_of X (get_or parents child 0)) (outline_of X node) (get_or strokes child 1) code (sym s.is ∙ found.1) in
      let above : get_or parents child 0 ≡ node = outline_of-once X (get_or parents child 0) node (nodes-rising entries) (omega (arith, s.before, found.0)) inside both.0 in
      subst (λ c. Contains (children_among parents strokes node (length X)) (c, child)) both.1 (of_child parents strokes node (length X) child found.0 later above)
    where
      not_root : (c : ℕ) → outline_of X c ≡ outline_of X node ++ code ∷ [] → 0 < c
      not_root zero same = absurd (omega (arith, ap length (sym root_is ∙ same), length_push (outline_of X node) code))
      not_root (suc c) same = omega arith

  pub children_are : node < length X → AreChildren entries node (children_among parents strokes node (length X))
  children_are inside = record {
    rising = children_rise (length X) (omega arith);
    each = λ code child. (child_found (code, child), found_child code child inside);
  }

-- ---- a child is found in a row

pub child_there : (entries : List (List ℕ)) (node : ℕ) (row : List (ℕ × ℕ)) → AreChildren entries node row → (place code : ℕ) (pair : ℕ × ℕ) → place < length row → pair ≡ get_or row place pair → pair.0 ≡ code →
    child_of entries node code ≡ Some pair.1
child_there entries node row c place code pair inside is key =
    subst (λ k. child_of entries node k ≡ Some pair.1) key ((c.each pair.0 pair.1).0 (place, inside, sym is))

no_child : (entries : List (List ℕ)) (node code : ℕ) (o : Option ℕ) → child_of entries node code ≡ o → ((child : ℕ) → child_of entries node code ≡ Some child → ⊥) → o ≡ None
no_child entries node code None is none = refl
no_child entries node code (Some child) is none = absurd (none child is)

pub child_none : (entries : List (List ℕ)) (node : ℕ) (row : List (ℕ × ℕ)) → AreChildren entries node row → (code : ℕ) → ((k : ℕ) → k < length row → (get_or row k (0, 0)).0 ≡ code → ⊥) → child_of entries node code ≡ None
child_none entries node row c code none = no_child entries node code (child_of entries node code) refl (λ child is.
    let has = (c.each code child).1 is in
    none has.0 has.1 (ap (λ p. p.0) (get_or_default row has.0 (0, 0) (code, child) has.1 ∙ has.2)))
