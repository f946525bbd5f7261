-- What the rows along a chain of ends say together.
use Rattle.std.proofs.Common.{◌≡◌, ℕ, suc, ◌+◌, ◌<◌, ◌≤◌, List, [], ◌∷◌, length, refl, sym, ap, subst, ◌∙◌, arith, Bool, true, false, cond, ◌⊎◌, inl, inr, Option, Some, None, nat_eq, nat_le, AllPairs, Contains}
use Rattle.std.proofs.lemmas.Bool.Decides.{nat_tests, leb_tells}
use Rattle.std.proofs.lemmas.Bool.{cases_lt, cases_order}
use Rattle.steno_rules.proofs.Lists.{none_in_nil, in_cons, in_first, in_later, pairs_tail, pairs_first}
use Rattle.std.proofs.lemmas.List.{length_push}
use Rattle.outline_trie.specs.Tries.{IsNode, node_strokes, child_of, AreChildren}
use Rattle.outline_trie.proofs.LookLemmas.{root_is}
use Rattle.match_window.specs.Ends.{IsEndOf, next_window, shorter_end}
use Rattle.match_window.proofs.ChainLemmas.{chain_child, chain_shorter, chain_falls, chain_short}
use Rattle.match_window.proofs.RowLemmas.{child_is}
use Rattle.closure_state.specs.inside.Chains.{AreAlike, AreChildrenFrom, LeadsTo, IsRest, IsLeastStroke, IsChainOfEnds, IsChainAfter, IsChainStep, lesser, past}
use Rattle.closure_state.specs.declared.chain.Chain.{Chain}

abbrev pub Below : ℕ × ℕ → ℕ × ℕ → Type 0
Below a b = a.0 < b.0

-- of a rising row the first stroke is the least
pub first_least : (p : ℕ × ℕ) (rest : List (ℕ × ℕ)) (c child : ℕ) → AllPairs Below (p ∷ rest) → Contains (p ∷ rest) (c, child) → p.0 ≤ c
first_least p rest c child rising has = elim (in_cons p rest (c, child) has) [
  | inl is ↦ let same : p.0 ≡ c = ap (λ (q : ℕ × ℕ). q.0) is in omega (arith, same)
  | inr later ↦ let below : p.0 < c = pairs_first Below p rest (c, child) rising later in omega arith
]

module _ (entries : List (List ℕ)) (d : ℕ) (x y : List ℕ) (bound : ℕ) where
  -- a stroke that isn't in the row is short where it is short from y
  short_too : (rest : List (ℕ × ℕ)) (c : ℕ) → IsRest entries d x y bound rest → bound ≤ c → ((child : ℕ) → Contains rest (c, child) → ⊥) → length (next_window entries y c) ≤ d → length (next_window entries x c) ≤ d
  short_too rest c h from apart short = elim (h.others c from) [
    | inl has ↦ absurd (apart has.0 has.1)
    | inr alike ↦ elim alike [ inl same ↦ omega (arith, ap length same, short) | inr both ↦ both.0 ]
  ]

  -- and leads where it leads from y
  leads_too : (rest : List (ℕ × ℕ)) (c child : ℕ) → IsRest entries d x y bound rest → bound ≤ c → ((other : ℕ) → Contains rest (c, other) → ⊥) → LeadsTo entries d y c child → LeadsTo entries d x c child
  leads_too rest c child h from apart leads = elim (h.others c from) [
    | inl has ↦ absurd (apart has.0 has.1)
    | inr alike ↦ elim alike [
      | inl same ↦ record { inside = leads.inside; is = leads.is ∙ sym same; long = omega (arith, leads.long, ap length same) }
      | inr both ↦ absurd (omega (arith, both.1, leads.long))
    ]
  ]

  -- The least stroke of x is the first of its row or the least one of y.
  pub least_more : (rest : List (ℕ × ℕ)) (found : Option (ℕ × ℕ)) → IsRest entries d x y bound rest → IsLeastStroke entries d y bound found → IsLeastStroke entries d x bound (lesser rest found)
  least_more [] None h least = λ c from. short_too [] c h from (λ child has. none_in_nil (c, child) has) (least c from)
  least_more [] (Some q) h least = (
    least.0,
    leads_too [] q.0 q.1 h least.0 (λ child has. none_in_nil (q.0, child) has) least.1,
    λ c from below. short_too [] c h from (λ child has. none_in_nil (c, child) has) (least.2 c from below),
  )
  least_more (p ∷ rest) None h least =
      let there = h.from p.0 p.1 (in_first p rest) in
      (there.0, there.1, λ c from below. short_too (p ∷ rest) c h from (λ child has. let ge = first_least p rest c child h.rising has in omega arith) (least c from))
  least_more (p ∷ rest) (Some q) h least = by (nat_le p.0 q.0) (leb_tells p.0 q.0)
    where
      by : (b : Bool) → ((b ≡ true) × (p.0 ≤ q.0)) ⊎ ((b ≡ false) × (q.0 < p.0)) → IsLeastStroke entries d x bound (cond b (Some p) (Some q))
      by true (inl t) =
          let there = h.from p.0 p.1 (in_first p rest) in
          (there.0, there.1, λ c from below. short_too (p ∷ rest) c h from (λ child has. let ge = first_least p rest c child h.rising has in omega arith) (least.2 c from (omega (arith, t.1))))
      by true (inr t) = absurd (cc (t.0))
      by false (inl t) = absurd (cc (t.0))
      by false (inr t) = (
        least.0,
        leads_too (p ∷ rest) q.0 q.1 h least.0 (λ child has. let ge = first_least p rest q.0 child h.rising has in omega (arith, t.1)) least.1,
        λ c from below. short_too (p ∷ rest) c h from (λ child has. let ge = first_least p rest c child h.rising has in omega (arith, t.1)) (least.2 c from below),
      )

  -- a row whose strokes are all later stays from a later bound on
  later_rest : (rest : List (ℕ × ℕ)) (c : ℕ) → IsRest entries d x y bound rest → bound ≤ c → ((other child : ℕ) → Contains rest (other, child) → c < other) → IsRest entries d x y (c + 1) rest
  later_rest rest c h up later = record {
    rising = h.rising;
    from = λ other child has. (omega (arith, later other child has), (h.from other child has).1);
    others = λ other from. h.others other (omega arith);
  }

  -- A row after the least stroke.
  pub past_rest : (rest : List (ℕ × ℕ)) (c : ℕ) → IsRest entries d x y bound rest → bound ≤ c → ((other child : ℕ) → Contains rest (other, child) → c ≤ other) → IsRest entries d x y (c + 1) (past c rest)
  past_rest [] c h up least = later_rest [] c h up (λ other child has. absurd (none_in_nil (other, child) has))
  past_rest (p ∷ rest) c h up least = by (nat_eq p.0 c) refl
    where
      by : (b : Bool) → nat_eq p.0 c ≡ b → IsRest entries d x y (c + 1) (cond b rest (p ∷ rest))
      by true test =
          let same : p.0 ≡ c = grind (arith, nat_tests) in
          record {
            rising = pairs_tail Below p rest h.rising;
            from = λ other child has. (
              (let below : p.0 < other = pairs_first Below p rest (other, child) h.rising has in omega (arith, same)),
              (h.from other child (in_later p rest (other, child) has)).1,
            );
            others = λ other from. elim (h.others other (omega arith)) [
              | inl has ↦ elim (in_cons p rest (other, has.0) has.1) [
                | inl is ↦ let first : p.0 ≡ other = ap (λ (q : ℕ × ℕ). q.0) is in absurd (omega (arith, first, same))
                | inr later ↦ inl (has.0, later)
              ]
              | inr alike ↦ inr alike
            ];
          }
      by false test =
          later_rest (p ∷ rest) c h up (λ other child has.
          let apart : p.0 ≡ c → ⊥ = λ e. (let wrong : nat_eq p.0 c ≡ true = grind (arith, nat_tests) in cc) in
          let first = least p.0 p.1 (in_first p rest) in
          let below = first_least p rest other child h.rising has in
          elim (cases_order p.0 c) [ inl is ↦ absurd (apart is) | inr (inl lt) ↦ absurd (omega (arith, first)) | inr (inr gt) ↦ omega (arith, below) ])

-- Of two rows, one behind the other, no stroke is less than the least.
module _ (entries : List (List ℕ)) (d : ℕ) (x y : List ℕ) (bound c child : ℕ) (least : IsLeastStroke entries d x bound (Some (c, child))) (rest : List (ℕ × ℕ)) (h : IsRest entries d x y bound rest) where
  pub top_later : (other k : ℕ) → Contains rest (other, k) → c ≤ other
  top_later other k has = elim (cases_lt other c) [
    | inl lt ↦ let there = h.from other k has in let short = least.2 other there.0 lt in absurd (omega (arith, short, there.1.long))
    | inr ge ↦ ge
  ]

  pub low_later : (z : List ℕ) (low : List (ℕ × ℕ)) → IsRest entries d y z bound low → (other k : ℕ) → Contains low (other, k) → c ≤ other
  low_later z low l other k has = elim (cases_lt other c) [
    | inl lt ↦
        let there = l.from other k has in
        let short = least.2 other there.0 lt in
        elim (h.others other there.0) [
          | inl top ↦ let up = top_later other top.0 top.1 in absurd (omega arith)
          | inr alike ↦ elim alike [ inl same ↦ absurd (omega (arith, ap length same, short, there.1.long)) | inr both ↦ absurd (omega (arith, both.1, there.1.long)) ]
        ]
    | inr ge ↦ ge
  ]

-- ---- along the chain

-- one behind another
pub alike_more : (entries : List (List ℕ)) (d : ℕ) (x y z : List ℕ) (c : ℕ) → AreAlike entries d x y c → AreAlike entries d y z c → AreAlike entries d x z c
alike_more entries d x y z c (inl e) (inl f) = inl (e ∙ f)
alike_more entries d x y z c (inl e) (inr f) = inr (omega (arith, ap length e, f.0), f.1)
alike_more entries d x y z c (inr e) (inl f) = inr (e.0, omega (arith, ap length f, e.1))
alike_more entries d x y z c (inr e) (inr f) = inr (e.0, f.1)

-- a rest before what is alike,
pub rest_more : (entries : List (List ℕ)) (d : ℕ) (x y z : List ℕ) (bound : ℕ) (rest : List (ℕ × ℕ)) → IsRest entries d x y bound rest → ((c : ℕ) → AreAlike entries d y z c) → IsRest entries d x z bound rest
rest_more entries d x y z bound rest h alike = record {
  rising = h.rising;
  from = h.from;
  others = λ c from. elim (h.others c from) [ inl has ↦ inl has | inr other ↦ inr (alike_more entries d x y z c other (alike c)) ];
}

-- and behind.
pub rest_after : (entries : List (List ℕ)) (d : ℕ) (w x y : List ℕ) (bound : ℕ) (rest : List (ℕ × ℕ)) → ((c : ℕ) → AreAlike entries d w x c) → IsRest entries d x y bound rest → IsRest entries d w y bound rest
rest_after entries d w x y bound rest alike h = record {
  rising = h.rising;
  from = λ c child has.
      let there = h.from c child has in (
        there.0,
        elim (alike c) [
          | inl same ↦ record { inside = there.1.inside; is = there.1.is ∙ sym same; long = omega (arith, there.1.long, ap length same) }
          | inr both ↦ absurd (omega (arith, both.1, there.1.long))
        ],
      );
  others = λ c from. elim (h.others c from) [ inl has ↦ inl has | inr other ↦ inr (alike_more entries d w x y c (alike c) other) ];
}

-- without a row both ends are alike
pub rest_none : (entries : List (List ℕ)) (d : ℕ) (x : List ℕ) (bound : ℕ) → IsRest entries d x x bound []
rest_none entries d x bound = record {
  rising = λ i j e l f. absurd (omega (arith, l, f));
  from = λ c child has. absurd (none_in_nil (c, child) has);
  others = λ c from. inr (inl refl);
}

-- ---- rows of nodes

-- a child leads to itself
leads_by_child : (entries : List (List ℕ)) (d node c child : ℕ) → child_of entries node c ≡ Some child → d ≤ length (node_strokes entries node) → LeadsTo entries d (node_strokes entries node) c child
leads_by_child entries d node c child found deep =
    let at = chain_child entries node c child found in
    let long = child_is entries node c child found in
    record { inside = at.inside; is = at.is; long = omega (arith, ap length at.is, ap length long.is, length_push (node_strokes entries node) c, deep) }

-- The children of a node of a chain are a rest before its shorter end.
pub rest_of_children : (entries : List (List ℕ)) (d node next bound : ℕ) (row : List (ℕ × ℕ)) → AreChildrenFrom entries node bound row → IsEndOf entries node next → d ≤ length (node_strokes entries node) →
    IsRest entries d (node_strokes entries node) (node_strokes entries next) bound row
rest_of_children entries d node next bound row children end deep = record {
  rising = children.rising;
  from = λ c child has.
      let found = (children.each c child).0 has in
      (found.0, leads_by_child entries d node c child found.1 deep);
  others = λ c from. by c from (child_of entries node c) refl;
}
  where
    by : (c : ℕ) → bound ≤ c → (o : Option ℕ) → child_of entries node c ≡ o → ((child : ℕ) × Contains row (c, child)) ⊎ AreAlike entries d (node_strokes entries node) (node_strokes entries next) c
    by c from None none = inr (inl (chain_shorter entries node next c end none))
    by c from (Some child) found = inl (child, (children.each c child).1 (from, found))

-- all children are those from the first stroke on
pub children_from_start : (entries : List (List ℕ)) (node : ℕ) (row : List (ℕ × ℕ)) → AreChildren entries node row → AreChildrenFrom entries node 0 row
children_from_start entries node row c = record { rising = c.rising; each = λ code child. (λ has. (omega arith, (c.each code child).0 has), λ h. (c.each code child).1 h.1) }

-- Where a node has no children its shorter end is alike.
pub alike_without : (entries : List (List ℕ)) (d node next c : ℕ) → AreChildren entries node [] → IsEndOf entries node next → AreAlike entries d (node_strokes entries node) (node_strokes entries next) c
alike_without entries d node next c none end = by (child_of entries node c) refl
  where
    by : (o : Option ℕ) → child_of entries node c ≡ o → AreAlike entries d (node_strokes entries node) (node_strokes entries next) c
    by None e = inl (chain_shorter entries node next c end e)
    by (Some child) e = absurd (none_in_nil (c, child) ((none.each c child).1 e))

-- From a node of few strokes on nothing long is found, as from the root.
pub alike_short : (entries : List (List ℕ)) (d node c : ℕ) → 1 ≤ d → length (node_strokes entries node) < d → AreAlike entries d (node_strokes entries node) (node_strokes entries 0) c
alike_short entries d node c some short = inr (omega (arith, chain_short entries (node_strokes entries node) c), omega (arith, chain_short entries (node_strokes entries 0) c, ap length (root_is entries)))

-- So no stroke is the least there.
pub least_none : (entries : List (List ℕ)) (d node bound : ℕ) → 1 ≤ d → length (node_strokes entries node) < d → IsLeastStroke entries d (node_strokes entries node) bound None
least_none entries d node bound some short = λ c from. omega (arith, chain_short entries (node_strokes entries node) c)

pub least_root : (entries : List (List ℕ)) (d node bound : ℕ) → 1 ≤ d → node ≡ 0 → IsLeastStroke entries d (node_strokes entries node) bound None
least_root entries d node bound some root = least_none entries d node bound some (omega (arith, some, ap (λ n. length (node_strokes entries n)) root, ap length (root_is entries)))

-- ---- the shorter end that windows answer

-- The shorter end of a node, told of the windows' entries, is one of the trie's.
pub end_of : (told entries : List (List ℕ)) (node end : ℕ) → told ≡ entries → IsNode entries node → (node ≡ 0 → ⊥) → IsNode told end → node_strokes told end ≡ shorter_end told (node_strokes told node) → IsEndOf entries node end
end_of told entries node end same inside other there is =
    record { node_inside = inside; some = other; inside = subst (λ es. IsNode es end) same there; is = subst (λ es. node_strokes es end ≡ shorter_end es (node_strokes es node)) same is }

-- It has fewer strokes.
pub end_fewer : (entries : List (List ℕ)) (node end : ℕ) → IsEndOf entries node end → length (node_strokes entries end) < length (node_strokes entries node)
end_fewer entries node end e = chain_falls entries node end e

-- The least stroke along a chain is the first of the node's row or the least one of its shorter end.
pub least_at : (entries : List (List ℕ)) (d node end bound : ℕ) (row : List (ℕ × ℕ)) (found : Option (ℕ × ℕ)) → IsEndOf entries node end → d ≤ length (node_strokes entries node) →
    AreChildrenFrom entries node bound row → IsLeastStroke entries d (node_strokes entries end) bound found → IsLeastStroke entries d (node_strokes entries node) bound (lesser row found)
least_at entries d node end bound row found e deep children least =
    least_more entries d (node_strokes entries node) (node_strokes entries end) bound row found (rest_of_children entries d node end bound row children e deep) least

none_of : (n : ℕ) → true ≡ nat_eq (suc n) 0 → ⊥
none_of n h = grind (arith, nat_tests)

-- nothing is in an empty row
row_empty : (row : List (ℕ × ℕ)) → true ≡ nat_eq (length row) 0 → row ≡ []
row_empty [] h = refl
row_empty (p ∷ row) h = absurd (none_of (length row) h)

-- A node without children is passed.
pub alike_passed : (entries : List (List ℕ)) (d first node end c : ℕ) (row : List (ℕ × ℕ)) → AreAlike entries d (node_strokes entries first) (node_strokes entries node) c → AreChildren entries node row → true ≡ nat_eq (length row) 0 →
    IsEndOf entries node end → AreAlike entries d (node_strokes entries first) (node_strokes entries end) c
alike_passed entries d first node end c row alike children none e =
    alike_more entries d (node_strokes entries first) (node_strokes entries node) (node_strokes entries end) c alike
    (alike_without entries d node end c (subst (AreChildren entries node) (row_empty row none) children) e)

-- A node of few strokes ends the chain.
pub alike_end : (entries : List (List ℕ)) (d first node c : ℕ) → 1 ≤ d → AreAlike entries d (node_strokes entries first) (node_strokes entries node) c → length (node_strokes entries node) < d → AreAlike entries d (node_strokes entries first) (node_strokes entries 0) c
alike_end entries d first node c some alike short = alike_more entries d (node_strokes entries first) (node_strokes entries node) (node_strokes entries 0) c alike (alike_short entries d node c some short)

-- ---- a step of a chain

-- the rows past a stroke that is found
step_left : (entries : List (List ℕ)) (d : ℕ) (x mid y : List ℕ) (bound : ℕ) (top low : List (ℕ × ℕ)) (p : ℕ × ℕ) → IsRest entries d x mid bound top → IsRest entries d mid y bound low → IsLeastStroke entries d x bound (Some p) →
    IsRest entries d x mid (p.0 + 1) (past p.0 top) × IsRest entries d mid y (p.0 + 1) (past p.0 low)
step_left entries d x mid y bound top low p a b least = (
  past_rest entries d x mid bound top p.0 a least.0 (top_later entries d x mid bound p.0 p.1 least top a),
  past_rest entries d mid y bound low p.0 b least.0 (low_later entries d x mid bound p.0 p.1 least top a y low b),
)

-- A step of a chain.
pub chain_least : (entries : List (List ℕ)) (d : ℕ) (x mid : List ℕ) (below bound : ℕ) (top low : List (ℕ × ℕ)) (third : Option (ℕ × ℕ)) → IsRest entries d x mid bound top → IsRest entries d mid (node_strokes entries below) bound low →
    IsLeastStroke entries d (node_strokes entries below) bound third → IsLeastStroke entries d x bound (lesser top (lesser low third))
chain_least entries d x mid below bound top low third a b least = least_more entries d x mid bound top (lesser low third) a (least_more entries d mid (node_strokes entries below) bound low third b least)

-- Where a stroke is found the rows are walked past it.
pub chain_step : (entries : List (List ℕ)) (d : ℕ) (x mid : List ℕ) (below bound : ℕ) (top low : List (ℕ × ℕ)) (third found : Option (ℕ × ℕ)) (p : ℕ × ℕ) (top' low' : List (ℕ × ℕ)) → IsRest entries d x mid bound top → IsRest entries d mid (node_strokes entries below) bound low →
    IsLeastStroke entries d (node_strokes entries below) bound third → found ≡ lesser top (lesser low third) → found ≡ Some p → top' ≡ past p.0 top → low' ≡ past p.0 low →
    IsLeastStroke entries d x bound found × IsRest entries d x mid (p.0 + 1) top' × IsRest entries d mid (node_strokes entries below) (p.0 + 1) low'
chain_step entries d x mid below bound top low third found p top' low' a b l is some up down =
    let least : IsLeastStroke entries d x bound found = subst (IsLeastStroke entries d x bound) (sym is) (chain_least entries d x mid below bound top low third a b l) in
    let at : IsLeastStroke entries d x bound (Some p) = subst (IsLeastStroke entries d x bound) some least in
    let left = step_left entries d x mid (node_strokes entries below) bound top low p a b at in
    (least, subst (IsRest entries d x mid (p.0 + 1)) (sym up) left.0, subst (IsRest entries d mid (node_strokes entries below) (p.0 + 1)) (sym down) left.1)

-- The same of a chain.
pub step_of : (entries : List (List ℕ)) (x : List ℕ) (bound : ℕ) (found : Option (ℕ × ℕ)) (p : ℕ × ℕ) (chain : Chain) → found ≡ Some p → IsLeastStroke entries chain.depth x bound found → IsChainOfEnds entries x (p.0 + 1) chain →
    IsChainStep entries x bound found chain
step_of entries x bound found p chain some least left = record { least = least; left = subst (λ o. IsChainAfter entries x bound o chain) (sym some) left }
