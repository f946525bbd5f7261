-- How the nodes grow with each stroke of each entry.
use Rattle.std.proofs.Common.{◌≡◌, ℕ, zero, suc, ◌+◌, ◌<◌, ◌≤◌, List, [], ◌∷◌, ◌++◌, length, take, drop, refl, sym, ap, subst, ◌∙◌, arith, true, true≢false, Contains, ◌⊎◌, inl, inr, Less, take-take, take_all, length-take, append-nil}
use Rattle.std.proofs.lemmas.Bool.{cases_lt, cases_eq}
use Rattle.std.proofs.lemmas.List.{take-append-drop, length-take-le, take_more, get_or-take, get_or_default}
use Rattle.std.proofs.lemmas.List.Elements.{Contains-append_cases, Contains-append_left, Contains-append_right}
use Rattle.outline_trie.specs.inside.Tables.{shared, outline_before}
use Rattle.steno_rules.specs.Outlines.{outline_cmp, AreRising, outline_of}
use Rattle.steno_rules.specs.Windows.{is_prefix}
use Rattle.steno_rules.specs.Nodes.{nodes}
use Rattle.steno_rules.proofs.Prefixes.{is_prefix-found, is_prefix-from}
use Rattle.steno_rules.proofs.Lists.{in_one, in_first}
use Rattle.steno_rules.proofs.Numbers.{below_trans}
use Rattle.outline_trie.proofs.OrderLemmas.{nodes_same, nodes_more, fronts_below, split_front, proper_front, front_not_above, shared_same, shared_apart}

-- the entries before this one, and the first strokes of this one
abbrev pub grown : List (List ℕ) → ℕ → ℕ → List (List ℕ)
grown entries k j = take k entries ++ take j (outline_of entries k) ∷ []

rising_below : (entries : List (List ℕ)) (i k : ℕ) → AreRising entries → i < k → k < length entries → outline_cmp (outline_of entries i) (outline_of entries k) ≡ Less
rising_below entries i k rising below inside = rising i k [] below inside

-- an entry before this one, by its number
pub record IsBefore (entries : List (List ℕ)) (k : ℕ) (a : List ℕ) : Type 0 where
  pub i : ℕ
  pub below : i < k
  pub is : a ≡ outline_of entries i

before_is : (entries : List (List ℕ)) (k : ℕ) (a : List ℕ) → k ≤ length entries → Contains (take k entries) a → IsBefore entries k a
before_is entries k a within has =
    let inside : has.0 < k = omega (arith, has.1, length-take k entries) in
    record { i = has.0; below = inside; is = sym (sym (get_or_default entries has.0 a [] (omega arith)) ∙ sym (get_or-take k entries has.0 a inside) ∙ has.2) }

-- a list below an outline doesn't begin with a stroke more than the outline shares with the next one
earlier_apart : (a prev e : List ℕ) (j : ℕ) → outline_cmp a prev ≡ Less → outline_cmp prev e ≡ Less → shared prev e ≤ j → j < length e →
    take (suc j) e ≡ take (length (take (suc j) e)) a → ⊥
earlier_apart a prev e j below_prev below from to same =
    let long : length (take (suc j) e) ≡ suc j = length-take-le (suc j) e (omega arith) in
    let apart : take (suc j) e ≡ take (length (take (suc j) e)) (prev ++ []) → ⊥ = rw (append-nil prev) (λ h. shared_apart prev e j from to (h ∙ ap (λ n. take n prev) long)) in
    let above : outline_cmp prev (take (suc j) e) ≡ Less = fronts_below prev (take (suc j) e) [] (drop (suc j) e) (rw (append-nil prev, take-append-drop (suc j) e) below) apart in
    front_not_above (take (suc j) e) a same (below_trans a prev (take (suc j) e) below_prev above)

-- no entry before this one begins with a stroke more than it shares with the last of them
pub not_begun : (entries : List (List ℕ)) (k j : ℕ) (a : List ℕ) → AreRising entries → k < length entries → shared (outline_before entries k) (outline_of entries k) ≤ j → j < length (outline_of entries k) →
    IsBefore entries k a → take (suc j) (outline_of entries k) ≡ take (length (take (suc j) (outline_of entries k))) a → ⊥
not_begun entries zero j a rising inside from to b same = absurd (omega (arith, b.below))
not_begun entries (suc k) j a rising inside from to b same = elim (cases_eq b.i k) [
  | inl last ↦
      shared_apart (outline_of entries k) (outline_of entries (suc k)) j from to
      (same ∙ ap (λ n. take n a) (length-take-le (suc j) (outline_of entries (suc k)) (omega arith)) ∙ ap (take (suc j)) (b.is ∙ ap (outline_of entries) last))
  | inr earlier ↦
      earlier_apart a (outline_of entries k) (outline_of entries (suc k)) j
      (subst (λ v. outline_cmp v (outline_of entries k) ≡ Less) (sym b.is) (rising_below entries b.i k rising (omega (arith, b.below)) (omega arith)))
      (rising_below entries k (suc k) rising (omega arith) inside) from to same
]

nil_below : (w : List ℕ) → 0 < length w → outline_cmp [] w ≡ Less
nil_below [] h = absurd (omega arith)
nil_below (c ∷ w) h = refl

in_front : (entries : List (List ℕ)) (k : ℕ) → k < length entries → Contains (take (suc k) entries) (outline_of entries k)
in_front entries k inside = (k, omega (arith, length-take (suc k) entries), get_or-take (suc k) entries k (outline_of entries k) (omega arith) ∙ get_or_default entries k (outline_of entries k) [] inside)

shared_begun : (entries : List (List ℕ)) (k : ℕ) (z : List ℕ) → k < length entries → z ≡ take (length z) (take (shared (outline_before entries k) (outline_of entries k)) (outline_of entries k)) →
    is_prefix (take k entries) z ≡ true
shared_begun entries k [] inside h = refl
shared_begun entries zero (c ∷ z) inside h = absurd (true≢false cc)
shared_begun entries (suc k) (c ∷ z) inside h =
    is_prefix-from (take (suc k) entries) (c ∷ z) (outline_of entries k) (in_front entries k (omega arith))
    (h ∙ ap (take (length (c ∷ z))) (sym (shared_same (outline_of entries k) (outline_of entries (suc k))))
    ∙ take-take (length (c ∷ z)) (shared (outline_of entries k) (outline_of entries (suc k))) (outline_of entries k) (omega (
      arith,
      ap length h,
      length-take (length (c ∷ z)) (take (shared (outline_of entries k) (outline_of entries (suc k))) (outline_of entries (suc k))),
      length-take (shared (outline_of entries k) (outline_of entries (suc k))) (outline_of entries (suc k)),
    )))

module _ (entries : List (List ℕ)) (k : ℕ) (rising : AreRising entries) (inside : k < length entries) where
  abbrev e : List ℕ
  e = outline_of entries k

  this_in : (j : ℕ) → Contains (grown entries k j) (take j e)
  this_in j = Contains-append_right (take k entries) (take j e ∷ []) (take j e) (in_first (take j e) [])

  earlier_in : (j : ℕ) (a : List ℕ) → Contains (take k entries) a → Contains (grown entries k j) a
  earlier_in j a has = Contains-append_left (take k entries) (take j e ∷ []) a has

  -- what begins with a list, if it isn't empty
  record Begun (j : ℕ) (z : List ℕ) : Type 0 where
    by : (z ≡ []) ⊎ (((a : List ℕ) × Contains (take k entries) a × (z ≡ take (length z) a)) ⊎ (z ≡ take (length z) (take j e)))

  begun : (j : ℕ) (z : List ℕ) → is_prefix (grown entries k j) z ≡ true → Begun j z
  begun j z h = elim (is_prefix-found (grown entries k j) z h) [
    | inl none ↦ record { by = inl none }
    | inr found ↦ elim (Contains-append_cases (take k entries) (take j e ∷ []) found.0 found.1) [
      | inl earlier ↦ record { by = inr (inl (found.0, earlier, found.2)) }
      | inr this ↦ record { by = inr (inr (found.2 ∙ ap (take (length z)) (sym (in_one (take j e) found.0 this)))) }
    ]
  ]

  module _ (j : ℕ) (from : shared (outline_before entries k) e ≤ j) (to : j < length e) where
    long_now : length (take (suc j) e) ≡ suc j
    long_now = length-take-le (suc j) e (omega arith)

    -- a beginning of the first j strokes has at most j
    short : (z : List ℕ) → z ≡ take (length z) (take j e) → length z ≤ j
    short z h = omega (arith, ap length h, length-take (length z) (take j e), length-take j e)

    short_front : (z : List ℕ) → z ≡ take (length z) (take j e) → z ≡ take (length z) (take (suc j) e)
    short_front z h = h ∙ take-take (length z) j e (short z h) ∙ sym (take-take (length z) (suc j) e (omega (arith, short z h)))

    old_below : (z : List ℕ) → is_prefix (grown entries k j) z ≡ true → outline_cmp z (take (suc j) e) ≡ Less
    old_below z h = elim ((begun j z h).by) [
      | inl none ↦ subst (λ v. outline_cmp v (take (suc j) e) ≡ Less) (sym none) (nil_below (take (suc j) e) (omega (arith, long_now)))
      | inr (inl earlier) ↦
          let b = before_is entries k earlier.0 (omega arith) earlier.1 in
          fronts_below z (take (suc j) e) (drop (length z) earlier.0) (drop (suc j) e)
          (rw (← split_front z earlier.0 earlier.2, take-append-drop (suc j) e) (subst (λ v. outline_cmp v e ≡ Less) (sym b.is) (rising_below entries b.i k rising b.below inside)))
          (rw (← split_front z earlier.0 earlier.2) (not_begun entries k j earlier.0 rising inside from to b))
      | inr (inr this) ↦ proper_front z (take (suc j) e) (short_front z this) (omega (arith, short z this, long_now))
    ]

    old_stays : (z : List ℕ) → is_prefix (grown entries k j) z ≡ true → is_prefix (grown entries k (suc j)) z ≡ true
    old_stays z h = elim ((begun j z h).by) [
      | inl none ↦ rw none refl
      | inr (inl earlier) ↦ is_prefix-from (grown entries k (suc j)) z earlier.0 (earlier_in (suc j) earlier.0 earlier.1) earlier.2
      | inr (inr this) ↦ is_prefix-from (grown entries k (suc j)) z (take (suc j) e) (this_in (suc j)) (short_front z this)
    ]

    new_there : is_prefix (grown entries k (suc j)) (take (suc j) e) ≡ true
    new_there = is_prefix-from (grown entries k (suc j)) (take (suc j) e) (take (suc j) e) (this_in (suc j)) (sym (take_all (length (take (suc j) e)) (take (suc j) e) (omega arith)))

    old_or_new : (z : List ℕ) → is_prefix (grown entries k (suc j)) z ≡ true → (is_prefix (grown entries k j) z ≡ true) ⊎ (take (suc j) e ≡ z)
    old_or_new z h = elim ((begun (suc j) z h).by) [
      | inl none ↦ inl (rw none refl)
      | inr (inl earlier) ↦ inl (is_prefix-from (grown entries k j) z earlier.0 (earlier_in j earlier.0 earlier.1) earlier.2)
      | inr (inr this) ↦ elim (cases_lt (length z) (suc j)) [
        | inl shorter ↦ inl (is_prefix-from (grown entries k j) z (take j e) (this_in j)
            (this ∙ take-take (length z) (suc j) e (omega arith) ∙ sym (take-take (length z) j e (omega arith))))
        | inr all ↦ inr (sym (this ∙ take_all (length z) (take (suc j) e) (omega (arith, long_now))))
      ]
    ]

    -- one stroke more of the entry makes one node more
    pub one_stroke_more : nodes (grown entries k (suc j)) ≡ nodes (grown entries k j) ++ take (suc j) e ∷ []
    one_stroke_more = nodes_more (grown entries k j) (grown entries k (suc j)) (take (suc j) e) old_below old_stays new_there old_or_new

  -- the strokes that it shares with the entry before make no new node
  pub shared_nodes : nodes (grown entries k (shared (outline_before entries k) e)) ≡ nodes (take k entries)
  shared_nodes = nodes_same (grown entries k (shared (outline_before entries k) e)) (take k entries)
      (λ z h. elim ((begun (shared (outline_before entries k) e) z h).by) [
        | inl none ↦ rw none refl
        | inr (inl earlier) ↦ is_prefix-from (take k entries) z earlier.0 earlier.1 earlier.2
        | inr (inr this) ↦ shared_begun entries k z inside this
      ])
      (λ z h. elim (is_prefix-found (take k entries) z h) [
        | inl none ↦ rw none refl
        | inr found ↦ is_prefix-from (grown entries k (shared (outline_before entries k) e)) z found.0 (earlier_in (shared (outline_before entries k) e) found.0 found.1) found.2
      ])

  pub all_grown : grown entries k (length e) ≡ take (k + 1) entries
  all_grown = ap (λ v. take k entries ++ v ∷ []) (take_all (length e) e (omega arith)) ∙ sym (take_more entries k [] inside)
