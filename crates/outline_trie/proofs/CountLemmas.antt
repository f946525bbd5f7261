-- How many children each node has, and the rows as they fill.
use Rattle.std.proofs.Common.{◌≡◌, ◌≢◌, ℕ, zero, suc, ◌+◌, ◌-◌, ◌<◌, ◌≤◌, List, [], ◌∷◌, ◌++◌, length, get_or, set, replicate, sum, refl, sym, ap, ◌∙◌, arith, inl, inr, Bool, true, false, cond, not, ◌&&◌, nat_eq, length-set, length-append, get_or-set_same, get_or-set_other, add-one}
use Rattle.std.proofs.lemmas.Bool.{cases_eq}
use Rattle.std.proofs.lemmas.Bool.Decides.{nat_tests}
use Rattle.std.proofs.lemmas.List.{append-nil, append_assoc, set_at, length-replicate, get_or-replicate}
use Rattle.std.proofs.lemmas.List.Sums.{sum_by-set}
use Rattle.edge_pool.specs.Pools.{zeros}
use Rattle.outline_trie.specs.inside.Children.{is_child, children_among, child_count}

is_its_child : (parents : List ℕ) (node child : ℕ) → 0 < child → get_or parents child 0 ≡ node → is_child parents node child ≡ true
is_its_child parents node child later is = plain child (get_or parents child 0) later is
  where
    plain : (c p : ℕ) → 0 < c → p ≡ node → (not (nat_eq c 0) && nat_eq p node) ≡ true
    plain c p h e = grind (arith, nat_tests)

is_no_child : (parents : List ℕ) (node child : ℕ) → get_or parents child 0 ≢ node → is_child parents node child ≡ false
is_no_child parents node child other = plain child (get_or parents child 0) other
  where
    plain : (c p : ℕ) → p ≢ node → (not (nat_eq c 0) && nat_eq p node) ≡ false
    plain c p h = grind (arith, nat_tests)

pub count_child : (parents : List ℕ) (node child : ℕ) → 0 < child → get_or parents child 0 ≡ node → child_count parents node (child + 1) ≡ child_count parents node child + 1
count_child parents node child later is = rw (add-one child, is_its_child parents node child later is) refl

pub count_other : (parents : List ℕ) (node child : ℕ) → get_or parents child 0 ≢ node → child_count parents node (child + 1) ≡ child_count parents node child
count_other parents node child other = rw (add-one child, is_no_child parents node child other) (omega arith)

-- ---- counting

-- the children among the first nodes are counted
pub record IsCounted (parents counts : List ℕ) (count : ℕ) : Type 0 where
  pub long : length counts ≡ length parents
  pub each : (p : ℕ) → p < length parents → get_or counts p 0 ≡ child_count parents p count
  pub total : sum counts ≤ count

pub count_more : (parents counts : List ℕ) (child parent more : ℕ) → IsCounted parents counts child → 0 < child → get_or parents child 0 ≡ parent → parent < length parents → more ≡ get_or counts parent 0 + 1 →
    IsCounted parents (set counts parent more) (child + 1)
count_more parents counts child parent more h later is inside one = record {
  long = length-set counts parent more ∙ h.long;
  each = λ p within. elim (cases_eq p parent) [
    | inl same ↦
        ap (λ q. get_or (set counts parent more) q 0) same ∙ get_or-set_same counts parent more 0 (omega (arith, h.long)) ∙ one
        ∙ ap (λ n. n + 1) (h.each parent inside) ∙ sym (ap (λ q. child_count parents q (child + 1)) same ∙ count_child parents parent child later is)
    | inr other ↦ get_or-set_other counts parent p more 0 other ∙ h.each p within ∙ sym (count_other parents p child (λ e. other (sym e ∙ is)))
  ];
  total = omega (arith, h.total, one, sum_by-set (λ x. x) counts parent more 0 (omega (arith, h.long)));
}

-- ---- filling the rows

pub count_rises : (parents : List ℕ) (node more count : ℕ) → child_count parents node count ≤ child_count parents node (count + more)
count_rises parents node zero count = omega (arith, ap (child_count parents node) (add_nothing count))
  where
    add_nothing : (n : ℕ) → n + 0 ≡ n
    add_nothing n = omega arith
count_rises parents node (suc more) count = omega (arith, count_rises parents node more count, ap (child_count parents node) (later count more), step (is_child parents node (count + more)))
  where
    later : (a b : ℕ) → a + suc b ≡ suc (a + b)
    later a b = omega arith

    step : (b : Bool) → 0 ≤ cond b 1 0
    step b = omega arith

-- the children among the first nodes stand in the rows, and zeros behind them
pub record IsFilled (parents strokes filled : List ℕ) (rows : List (List (ℕ × ℕ))) (count : ℕ) : Type 0 where
  pub long : length rows ≡ length parents
  pub filled_long : length filled ≡ length parents
  pub row : (p : ℕ) → p < length parents → get_or rows p [] ≡ children_among parents strokes p count ++ zeros (child_count parents p (length parents) - child_count parents p count)
  pub place : (p : ℕ) → p < length parents → get_or filled p 0 ≡ child_count parents p count

pub length-children_among : (parents strokes : List ℕ) (node count : ℕ) → length (children_among parents strokes node count) ≡ child_count parents node count
length-children_among parents strokes node zero = refl
length-children_among parents strokes node (suc count) =
    length-append (children_among parents strokes node count) (cond (is_child parents node count) ((get_or strokes count 1, count) ∷ []) [])
    ∙ ap (λ n. n + length {A = ℕ × ℕ} (cond (is_child parents node count) ((get_or strokes count 1, count) ∷ []) [])) (length-children_among parents strokes node count)
    ∙ ap (λ n. child_count parents node count + n) (one (is_child parents node count))
  where
    one : (b : Bool) → length {A = ℕ × ℕ} (cond b ((get_or strokes count 1, count) ∷ []) []) ≡ cond b 1 0
    one true = refl
    one false = refl

children_child : (parents strokes : List ℕ) (node child : ℕ) → 0 < child → get_or parents child 0 ≡ node → children_among parents strokes node (child + 1) ≡ children_among parents strokes node child ++ (get_or strokes child 1, child) ∷ []
children_child parents strokes node child later is = rw (add-one child, is_its_child parents node child later is) refl

children_other : (parents strokes : List ℕ) (node child : ℕ) → get_or parents child 0 ≢ node → children_among parents strokes node (child + 1) ≡ children_among parents strokes node child
children_other parents strokes node child other = rw (add-one child, is_no_child parents node child other, append-nil (children_among parents strokes node child)) refl

zeros_more : (n m : ℕ) → n ≡ suc m → zeros n ≡ (0, 0) ∷ zeros m
zeros_more n m is = ap zeros is

module _ (parents strokes filled : List ℕ) (rows : List (List (ℕ × ℕ))) (child parent stroke place : ℕ) (h : IsFilled parents strokes filled rows child) (later : 0 < child) (within : child < length parents)
    (is : get_or parents child 0 ≡ parent) (inside : parent < length parents) (told : stroke ≡ get_or strokes child 1) (at : place ≡ get_or filled parent 0) where
  abbrev all : ℕ
  all = child_count parents parent (length parents)

  abbrev so_far : ℕ
  so_far = child_count parents parent child

  room : so_far + 1 ≤ all
  room = omega (arith, count_child parents parent child later is, count_rises parents parent (length parents - (child + 1)) (child + 1), ap (child_count parents parent) (sum (length parents) child within))
    where
      sum : (a b : ℕ) → b < a → b + 1 + (a - (b + 1)) ≡ a
      sum a b lt = omega arith

  place_is : place ≡ so_far
  place_is = at ∙ h.place parent inside

  row_long : length (get_or rows parent []) ≡ all
  row_long = ap length (h.row parent inside) ∙ length-append (children_among parents strokes parent child) (zeros (all - so_far)) ∙ sums (length (children_among parents strokes parent child)) (length (zeros (all - so_far)))
      (length-children_among parents strokes parent child) (length-replicate (all - so_far) (0, 0))
    where
      sums : (a b : ℕ) → a ≡ so_far → b ≡ all - so_far → a + b ≡ all
      sums a b e f = omega (arith, room)

  pub fill_place : place < length (get_or rows parent [])
  fill_place = omega (arith, row_long, room, place_is)

  new_row : set (get_or rows parent []) place (stroke, child) ≡ children_among parents strokes parent (child + 1) ++ zeros (all - child_count parents parent (child + 1))
  new_row =
      ap (λ row. set row place (stroke, child)) (h.row parent inside ∙ ap (λ z. children_among parents strokes parent child ++ z) (zeros_more (all - so_far) (all - (so_far + 1)) (omega (arith, room))))
      ∙ set_at (children_among parents strokes parent child) (0, 0) (zeros (all - (so_far + 1))) (stroke, child) place (length-children_among parents strokes parent child ∙ sym place_is)
      ∙ sym (append_assoc (children_among parents strokes parent child) ((stroke, child) ∷ []) (zeros (all - (so_far + 1))))
      ∙ ap (λ s. (children_among parents strokes parent child ++ (s, child) ∷ []) ++ zeros (all - (so_far + 1))) told
      ∙ ap (λ ks. ks ++ zeros (all - (so_far + 1))) (sym (children_child parents strokes parent child later is))
      ∙ ap (λ n. children_among parents strokes parent (child + 1) ++ zeros (all - n)) (sym (count_child parents parent child later is))

  pub fill_more : IsFilled parents strokes (set filled parent (place + 1)) (set rows parent (set (get_or rows parent []) place (stroke, child))) (child + 1)
  fill_more = record {
    long = length-set rows parent (set (get_or rows parent []) place (stroke, child)) ∙ h.long;
    filled_long = length-set filled parent (place + 1) ∙ h.filled_long;
    row = λ p below. elim (cases_eq p parent) [
      | inl same ↦ here p same
      | inr other ↦
          get_or-set_other rows parent p (set (get_or rows parent []) place (stroke, child)) [] other ∙ h.row p below
          ∙ ap (λ n. children_among parents strokes p child ++ zeros (child_count parents p (length parents) - n)) (sym (count_other parents p child (λ e. other (sym e ∙ is))))
          ∙ ap (λ ks. ks ++ zeros (child_count parents p (length parents) - child_count parents p (child + 1))) (sym (children_other parents strokes p child (λ e. other (sym e ∙ is))))
    ];
    place = λ p below. elim (cases_eq p parent) [
      | inl same ↦
          ap (λ q. get_or (set filled parent (place + 1)) q 0) same ∙ get_or-set_same filled parent (place + 1) 0 (omega (arith, h.filled_long)) ∙ ap (λ n. n + 1) place_is
          ∙ sym (ap (λ q. child_count parents q (child + 1)) same ∙ count_child parents parent child later is)
      | inr other ↦ get_or-set_other filled parent p (place + 1) 0 other ∙ h.place p below ∙ sym (count_other parents p child (λ e. other (sym e ∙ is)))
    ];
  }
    where
      here : (p : ℕ) → p ≡ parent → get_or (set rows parent (set (get_or rows parent []) place (stroke, child))) p [] ≡ children_among parents strokes p (child + 1) ++ zeros (child_count parents p (length parents) - child_count parents p (child + 1))
      here p same =
          ap (λ q. get_or (set rows parent (set (get_or rows parent []) place (stroke, child))) q []) same
          ∙ get_or-set_same rows parent (set (get_or rows parent []) place (stroke, child)) [] (omega (arith, h.long)) ∙ new_row
          ∙ sym (ap (λ q. children_among parents strokes q (child + 1) ++ zeros (child_count parents q (length parents) - child_count parents q (child + 1))) same)

sub_nothing : (n : ℕ) → n ≡ n - 0
sub_nothing n = omega arith

pub count_below : (parents : List ℕ) (node count : ℕ) → child_count parents node count ≤ count
count_below parents node zero = omega arith
count_below parents node (suc count) = omega (arith, count_below parents node count, one (is_child parents node count))
  where
    one : (b : Bool) → cond b 1 0 ≤ 1
    one true = omega arith
    one false = omega arith

-- nothing was filled yet
pub filled_none : (parents strokes filled : List ℕ) (rows : List (List (ℕ × ℕ))) → 0 < length parents → length rows ≡ length parents → filled ≡ replicate (length parents) 0 →
    ((p : ℕ) → p < length parents → get_or rows p [] ≡ zeros (child_count parents p (length parents))) → IsFilled parents strokes filled rows 1
filled_none parents strokes filled rows some long none empty = record {
  long = long;
  filled_long = ap length none ∙ length-replicate (length parents) 0;
  row = λ p below. empty p below ∙ ap zeros (sub_nothing (child_count parents p (length parents)));
  place = λ p below. ap (λ xs. get_or xs p 0) none ∙ get_or-replicate (length parents) p 0 0 below;
}

-- all children are in their rows
pub filled_all : (parents strokes filled : List ℕ) (rows : List (List (ℕ × ℕ))) (count : ℕ) → IsFilled parents strokes filled rows count → count ≡ length parents →
    (p : ℕ) → p < length parents → get_or rows p [] ≡ children_among parents strokes p (length parents)
filled_all parents strokes filled rows count h all p below =
    h.row p below ∙ ap (λ n. children_among parents strokes p n ++ zeros (child_count parents p (length parents) - child_count parents p n)) all
    ∙ ap (λ n. children_among parents strokes p (length parents) ++ zeros n) (nothing (child_count parents p (length parents))) ∙ append-nil (children_among parents strokes p (length parents))
  where
    nothing : (n : ℕ) → n - n ≡ 0
    nothing n = omega arith
