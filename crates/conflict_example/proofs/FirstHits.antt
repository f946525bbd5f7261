-- One number after another is noted as a hit, and what is left at the end are the chosen hits.
use Rattle.std.proofs.Common.{◌≡◌, ◌≢◌, ℕ, ◌+◌, ◌-◌, ◌<◌, ◌≤◌, min, Option, None, List, length, get_or, sym, ap₂, subst, ◌∙◌, arith, inl, inr, ◌⊎◌, Some}
use Rattle.std.proofs.lemmas.Bool.{cases_lt, cases_order}
use Rattle.graph_rules.specs.Graphs.{unreached, IsBest, AreSettled}
use Rattle.graph_rules.proofs.SettledLemmas.{best_once}
use Rattle.steno_rules.specs.Outlines.{AreEntries, AreWords, outline_of}
use Rattle.steno_rules.specs.States.{State, IsHit, IsHitMark}
use Rattle.steno_rules.specs.StateNumbers.{number_count}
use Rattle.steno_rules.specs.ClosureGraphs.{kept_lists}
use Rattle.steno_rules.specs.Conflicts.{Conflict}
use Rattle.steno_rules.proofs.Numbers.{outline_of-once}
use Rattle.closure_laws.specs.NumberedHits.{IsHitNumber}
use Rattle.closure_laws.specs.Examples.{IsChosen}
use Rattle.closure_laws.proofs.HitNumberLemmas.{Conflict-number}
use Rattle.closure_laws.proofs.StateNumberLemmas.{shape_of_state, shaped-below}
use Rattle.closure_laws.proofs.NumberStateLemmas.{state_of_number-is}
use Rattle.pair_slots.specs.Slots.{IsInside, first_slot, slot_of}
use Rattle.conflict_example.specs.inside.FirstHits.{AreFirst, HasNoHitBelow, IsFirstHit, IsFirstOf, hit_word}
use Rattle.pair_slots.proofs.Slots.{slots_apart}

-- a number up to b
last_or_below : (other b : ℕ) → other < b + 1 → (other ≡ b) ⊎ (other < b)
last_or_below other b l = elim (cases_lt other b) [ inl lt ↦ inr lt | inr ge ↦ inl (omega arith) ]

-- ---- one number more

-- it is no hit of the pair
without : (entries words : List (List ℕ)) (e place b word : ℕ) → ((k : ℕ) → IsHitNumber entries words e place b k → ⊥) →
    IsFirstOf entries words e place b word → IsFirstOf entries words e place (b + 1) word
without entries words e place b word apart (inl none) = inl (
  λ number n l h. elim (last_or_below number b l) [
    | inl is ↦ apart n (subst (λ i. IsHitNumber entries words e place i n) is h)
    | inr lt ↦ none.0 number n lt h
  ],
  none.1,
)
without entries words e place b word apart (inr first) = inr (record {
  number = first.number;
  n = first.n;
  below = omega (arith, first.below);
  is = first.is;
  word_is = first.word_is;
  least = λ other k l h. elim (last_or_below other b l) [
    | inl is ↦ absurd (apart k (subst (λ i. IsHitNumber entries words e place i k) is h))
    | inr lt ↦ first.least other k lt h
  ];
})

-- a number has one distance
one_distance : (entries words : List (List ℕ)) (e place b n other k : ℕ) → IsHitNumber entries words e place b n → other ≡ b → IsHitNumber entries words e place other k →
    hit_word n b ≡ hit_word k other
one_distance entries words e place b n other k h is g =
    let same : n ≡ k = best_once 0 (kept_lists entries words) b n k h.best (subst (λ i. IsBest 0 (kept_lists entries words) i k) is g.best) in
    ap₂ hit_word same (sym is)

-- it is a hit of the pair
with_hit : (entries words : List (List ℕ)) (e place b n word : ℕ) → IsHitNumber entries words e place b n → hit_word n b < unreached →
    IsFirstOf entries words e place b word → IsFirstOf entries words e place (b + 1) (min word (hit_word n b))
with_hit entries words e place b n word h small (inl none) =
    let is : min word (hit_word n b) ≡ hit_word n b = omega (arith, none.1) in
    inr (record {
      number = b;
      n = n;
      below = omega arith;
      is = h;
      word_is = is;
      least = λ other k l g. elim (last_or_below other b l) [
        | inl same ↦ omega (arith, is, one_distance entries words e place b n other k h same g)
        | inr lt ↦ absurd (none.0 other k lt g)
      ];
    })
with_hit entries words e place b n word h small (inr first) = elim (cases_lt (hit_word n b) word) [
  | inl lt ↦ inr (record {
    number = b;
    n = n;
    below = omega arith;
    is = h;
    word_is = omega arith;
    least = λ other k l g. elim (last_or_below other b l) [
      | inl same ↦ omega (arith, one_distance entries words e place b n other k h same g)
      | inr less ↦ omega (arith, first.least other k less g)
    ];
  })
  | inr ge ↦ inr (record {
    number = first.number;
    n = first.n;
    below = omega (arith, first.below);
    is = first.is;
    word_is = omega (arith, first.word_is);
    least = λ other k l g. elim (last_or_below other b l) [
      | inl same ↦ omega (arith, one_distance entries words e place b n other k h same g)
      | inr less ↦ omega (arith, first.least other k less g)
    ];
  })
]

-- ---- all pairs

-- before any number there is nothing in the slots
pub first_none : (entries words : List (List ℕ)) (best : List ℕ) → length best ≡ first_slot entries (length entries) →
    ((k : ℕ) → k < length best → get_or best k 0 ≡ unreached) → ((e place : ℕ) → IsInside entries e place → slot_of entries e place < length best) →
    AreFirst entries words 0 best
first_none entries words best count all below = record {
  count = count;
  each = λ e place h. inl ((λ number n l g. omega arith), all (slot_of entries e place) (below e place h));
}

-- the number is no hit
pub first_without : (entries words : List (List ℕ)) (b : ℕ) (best : List ℕ) → ((e place k : ℕ) → IsHitNumber entries words e place b k → ⊥) →
    AreFirst entries words b best → AreFirst entries words (b + 1) best
first_without entries words b best apart h = record {
  count = h.count;
  each = λ e place inside. without entries words e place b (get_or best (slot_of entries e place) 0) (apart e place) (h.each e place inside);
}

-- a mark tells one place
place_of_mark : (m n place other : ℕ) → (1 ≤ m) × (m < n) × (place ≡ n - m) → (1 ≤ m) × (m < n) × (other ≡ n - m) → place ≡ other
place_of_mark m n place other h g = h.2 ∙ sym g.2

-- A state is a hit of one pair at most.
pub hit_once : (entries : List (List ℕ)) (s : State) (e place f other : ℕ) → AreEntries entries → e < length entries → f < length entries →
    IsHit entries s e place → IsHit entries s f other → (e ≡ f) × (place ≡ other)
hit_once entries s e place f other are a b h g =
    let pieces : Some (outline_of entries e) ≡ Some (outline_of entries f) = sym h.piece ∙ g.piece in
    let outlines : outline_of entries e ≡ outline_of entries f = cc in
    let same = outline_of-once entries e f are.rising a b outlines in
    (same, by s.mark (length (outline_of entries e)) h.mark (subst (λ o. IsHitMark s.mark (length o) other) (sym outlines) g.mark))
  where
    by : (m : Option ℕ) (n : ℕ) → IsHitMark m n place → IsHitMark m n other → place ≡ other
    by None n h g = absurd h
    by (Some m) n h g = place_of_mark m n place other h g

-- a number is no hit of a pair with another slot
apart_pair : (entries words : List (List ℕ)) (e place f other b k n : ℕ) → AreEntries entries → e < length entries → f < length entries →
    slot_of entries e place ≢ slot_of entries f other → IsHitNumber entries words e place b k → IsHitNumber entries words f other b n → ⊥
apart_pair entries words e place f other b k n are inside0 inside1 apart h g =
    let both : Some h.state ≡ Some g.state = sym h.is ∙ g.is in
    let state : h.state ≡ g.state = cc in
    let pair = hit_once entries g.state e place f other are inside0 inside1 (subst (λ s. IsHit entries s e place) state h.hit) g.hit in
    apart (ap₂ (slot_of entries) pair.0 pair.1)

-- ---- all numbers

-- The number of a hit is one of the numbers.
pub hit_below : (entries words : List (List ℕ)) (e place number n : ℕ) → AreWords entries words → IsHitNumber entries words e place number n → number < number_count entries
hit_below entries words e place number n are h =
    let state = state_of_number-is entries words number h.state h.is in
    omega (arith, shaped-below entries h.state (shape_of_state entries words h.state are state.0), state.1)

-- the words of hits are ordered by the distances first
nearer : (n number k other : ℕ) → number < 4294967296 → other < 4294967296 → hit_word n number ≤ hit_word k other → n ≤ k
nearer n number k other a b l = omega arith

-- A word that is left in a slot at the end is that of the chosen hit.
pub first_chosen : (entries words : List (List ℕ)) (e place bound word : ℕ) → AreWords entries words → bound ≡ number_count entries → bound ≤ 33554432 →
    (h : IsFirstHit entries words e place bound word) → IsChosen entries words e place h.number h.n
first_chosen entries words e place bound word are all few h = record {
  is = h.is;
  least = λ other k g.
      let below = hit_below entries words e place other k are g in
      let more = h.least other k (omega (arith, all)) g in
      nearer h.n h.number k other (omega (arith, h.below)) (omega arith) (omega (arith, h.word_is, more));
  first = λ other g.
      let below = hit_below entries words e place other h.n are g in
      let more = h.least other h.n (omega (arith, all)) g in
      omega (arith, h.word_is, more);
}

-- Where none is left there is no conflict.
pub none_left : (entries words : List (List ℕ)) (table : List ℕ) (e place bound : ℕ) → AreWords entries words → AreSettled 0 (kept_lists entries words) table →
    bound ≡ number_count entries → HasNoHitBelow entries words e place bound → Conflict entries words e place → ⊥
none_left entries words table e place bound are settled all none conflict =
    let hit = (Conflict-number entries words table e place are settled).0 conflict in
    none hit.0 hit.1 (omega (arith, hit_below entries words e place hit.0 hit.1 are hit.2, all)) hit.2

-- The number is a hit of one pair, whose slot gets the lesser word.
pub first_with : (entries words : List (List ℕ)) (b n e0 place0 : ℕ) (best : List ℕ) (new : List ℕ) → AreEntries entries →
    IsInside entries e0 place0 → IsHitNumber entries words e0 place0 b n → hit_word n b < unreached →
    length new ≡ length best → get_or new (slot_of entries e0 place0) 0 ≡ min (get_or best (slot_of entries e0 place0) 0) (hit_word n b) →
    ((k : ℕ) → k ≢ slot_of entries e0 place0 → get_or new k 0 ≡ get_or best k 0) →
    AreFirst entries words b best → AreFirst entries words (b + 1) new
first_with entries words b n e0 place0 best new are inside0 hit small long here others h = record {
  count = long ∙ h.count;
  each = λ e place inside. elim (slot_or_other (slot_of entries e place) (slot_of entries e0 place0)) [
    | inl same ↦
        let pair = slots_apart entries e place e0 place0 inside inside0 same in
        let it = with_hit entries words e0 place0 b n (get_or best (slot_of entries e0 place0) 0) hit small (h.each e0 place0 inside0) in
        let now = subst (λ w. IsFirstOf entries words e0 place0 (b + 1) w) (sym here) it in
        subst (λ f. IsFirstOf entries words f place (b + 1) (get_or new (slot_of entries f place) 0)) (sym pair.0)
        (subst (λ p. IsFirstOf entries words e0 p (b + 1) (get_or new (slot_of entries e0 p) 0)) (sym pair.1) now)
    | inr other ↦
        let kept = without entries words e place b (get_or best (slot_of entries e place) 0)
        (λ k g. apart_pair entries words e place e0 place0 b k n are inside.entry inside0.entry other g hit) (h.each e place inside) in
        subst (λ w. IsFirstOf entries words e place (b + 1) w) (sym (others (slot_of entries e place) other)) kept
  ];
}
  where
    slot_or_other : (a c : ℕ) → (a ≡ c) ⊎ (a ≢ c)
    slot_or_other a c = elim (cases_order a c) [
      | inl is ↦ inl is
      | inr (inl lt) ↦ inr (λ is. omega arith)
      | inr (inr gt) ↦ inr (λ is. omega arith)
    ]
