-- One number after another is noted with its sum, and what is left at the end are the chosen open hits.
use Rattle.std.proofs.Common.{◌≡◌, ◌≢◌, ℕ, ◌+◌, ◌/◌, ◌%◌, ◌<◌, ◌≤◌, min, Some, List, [], length, get_or, set, refl, sym, ap, ap₂, subst, ◌∙◌, arith, inl, inr, ◌⊎◌}
use Rattle.std.proofs.lemmas.Bool.{cases_lt, cases_order}
use Rattle.std.proofs.lemmas.Nat.{div-mul-add, mod-mul-add}
use Rattle.std.proofs.lemmas.List.{get_or-set_same, get_or-set_other, length-set}
use Rattle.graph_rules.specs.Graphs.{unreached, IsSettledWord}
use Rattle.steno_rules.specs.Outlines.{AreEntries, AreWords}
use Rattle.steno_rules.specs.States.{State, state_of, IsHit}
use Rattle.steno_rules.specs.StateNumbers.{number_count}
use Rattle.steno_rules.specs.ClosureGraphs.{kept_lists}
use Rattle.closure_laws.proofs.StateNumberLemmas.{shape_of_state, shaped-below}
use Rattle.closure_laws.proofs.NumberStateLemmas.{state_of_number-is}
use Rattle.pair_slots.specs.Slots.{IsInside, first_slot, slot_of}
use Rattle.pair_slots.proofs.Slots.{hit_inside, slot_below, slots_apart}
use Rattle.conflict_example.specs.inside.FirstHits.{hit_word}
use Rattle.conflict_example.proofs.FirstHits.{hit_once}
use Rattle.conflict_example.proofs.Noted.{graph_count}
use Rattle.conflict_example.proofs.SettledWords.{unreached_none}
use Rattle.settled_laws.specs.ChosenOpenHits.{IsChosenOpen}
use Rattle.settled_laws.specs.OpenHits.{IsOpenHit}
use Rattle.settled_laws.specs.OpenNumbers.{IsOpenNumber}
use Rattle.settled_pairs.specs.declared.sums.Sum.{Sum}
use Rattle.settled_pairs.specs.inside.Sums.{AreFirstSums, HasNoSum, IsFirstSum, IsFirstSumOf, IsSum, IsSumOf}

-- a number up to b
last_or_below : (other b : ℕ) → other < b + 1 → (other ≡ b) ⊎ (other < b)
last_or_below other b l = elim (cases_lt other b) [ inl lt ↦ inr lt | inr ge ↦ inl (omega arith) ]

-- ---- one number more

-- it is no open hit of the pair
without : (entries words : List (List ℕ)) (e place b word : ℕ) → ((k : ℕ) (y : List ℕ) → IsOpenNumber entries words e place b k y → ⊥) →
    IsFirstSumOf entries words e place b word → IsFirstSumOf entries words e place (b + 1) word
without entries words e place b word apart (inl none) = inl (
  λ number k z l h. elim (last_or_below number b l) [
    | inl is ↦ apart k z (subst (λ i. IsOpenNumber entries words e place i k z) is h)
    | inr lt ↦ none.0 number k z lt h
  ],
  none.1,
)
without entries words e place b word apart (inr first) = inr (record {
  number = first.number;
  n = first.n;
  below = omega (arith, first.below);
  is = first.is;
  word_is = first.word_is;
  least = λ other k y l h. elim (last_or_below other b l) [
    | inl is ↦ absurd (apart k y (subst (λ i. IsOpenNumber entries words e place i k y) is h))
    | inr lt ↦ first.least other k y lt h
  ];
})

-- the number's own sum is its least
own_least : (entries words : List (List ℕ)) (e place b n other k : ℕ) (y : List ℕ) → IsSum entries words e place b n → other ≡ b → IsOpenNumber entries words e place other k y → hit_word n b ≤ hit_word (k + length y) other
own_least entries words e place b n other k y h is g =
    let fits : n ≤ k + length y = h.least k y (subst (λ i. IsOpenNumber entries words e place i k y) is g) in
    omega (arith, fits, is)

-- it is an open hit of the pair
with_sum : (entries words : List (List ℕ)) (e place b n word : ℕ) → IsSum entries words e place b n → hit_word n b < unreached →
    IsFirstSumOf entries words e place b word → IsFirstSumOf entries words e place (b + 1) (min word (hit_word n b))
with_sum entries words e place b n word h small (inl none) =
    let is : min word (hit_word n b) ≡ hit_word n b = omega (arith, none.1) in
    inr (record {
      number = b;
      n = n;
      below = omega arith;
      is = h;
      word_is = is;
      least = λ other k y l g. elim (last_or_below other b l) [
        | inl same ↦ omega (arith, is, own_least entries words e place b n other k y h same g)
        | inr lt ↦ absurd (none.0 other k y lt g)
      ];
    })
with_sum entries words e place b n word h small (inr first) = elim (cases_lt (hit_word n b) word) [
  | inl lt ↦ inr (record {
    number = b;
    n = n;
    below = omega arith;
    is = h;
    word_is = omega arith;
    least = λ other k y l g. elim (last_or_below other b l) [
      | inl same ↦ omega (arith, own_least entries words e place b n other k y h same g)
      | inr less ↦ omega (arith, first.least other k y less g)
    ];
  })
  | inr ge ↦ inr (record {
    number = first.number;
    n = first.n;
    below = omega (arith, first.below);
    is = first.is;
    word_is = omega (arith, first.word_is);
    least = λ other k y l g. elim (last_or_below other b l) [
      | inl same ↦ omega (arith, own_least entries words e place b n other k y h same g)
      | inr less ↦ omega (arith, first.least other k y less g)
    ];
  })
]

-- ---- all pairs

-- Before any number there is nothing in the slots.
pub sums_none : (entries words : List (List ℕ)) (least : List ℕ) → length least ≡ first_slot entries (length entries) →
    ((k : ℕ) → k < length least → get_or least k 0 ≡ unreached) → AreFirstSums entries words 0 least
sums_none entries words least count all = record {
  count = count;
  each = λ e place h. inl ((λ number k z l g. omega arith), all (slot_of entries e place) (omega (arith, count, slot_below entries e place h)));
}

-- A number that is no open hit changes nothing.
pub sums_without : (entries words : List (List ℕ)) (b : ℕ) (least : List ℕ) → HasNoSum entries words b → AreFirstSums entries words b least → AreFirstSums entries words (b + 1) least
sums_without entries words b least none h = record {
  count = h.count;
  each = λ e place inside. without entries words e place b (get_or least (slot_of entries e place) 0) (none e place) (h.each e place inside);
}

-- and neither does one that isn't reached
pub sums_passed : (entries words : List (List ℕ)) (number word : ℕ) (least : List ℕ) → number_count entries ≤ 33554432 → IsSettledWord 0 (kept_lists entries words) number word → word ≡ unreached →
    AreFirstSums entries words number least → AreFirstSums entries words (number + 1) least
sums_passed entries words number word least few settled none h =
    sums_without entries words number least (λ e place k z hit. unreached_none (kept_lists entries words) number word k (omega (arith, graph_count entries words, few)) settled none hit.best) h

-- the state without its open word is a hit
hit_of_open : (entries : List (List ℕ)) (s : State) (e place : ℕ) → IsOpenHit entries s e place → IsHit entries (state_of s.u [] s.mark) e place
hit_of_open entries s e place h = record { between_words = refl; piece = h.piece; mark = h.mark }

-- the place of an open hit lies inside the entry
open_inside : (entries : List (List ℕ)) (s : State) (e place : ℕ) → e < length entries → IsOpenHit entries s e place → IsInside entries e place
open_inside entries s e place inside h = hit_inside entries (state_of s.u [] s.mark) e place inside (hit_of_open entries s e place h)

-- a number is no open hit of a pair with another slot
apart_pair : (entries words : List (List ℕ)) (e place f other b k n : ℕ) (y z : List ℕ) → AreEntries entries → e < length entries → f < length entries →
    slot_of entries e place ≢ slot_of entries f other → IsOpenNumber entries words e place b k y → IsOpenNumber entries words f other b n z → ⊥
apart_pair entries words e place f other b k n y z are inside0 inside1 apart h g =
    let both : Some h.state ≡ Some g.state = sym h.is ∙ g.is in
    let state : h.state ≡ g.state = cc in
    let pair = hit_once entries (state_of g.state.u [] g.state.mark) e place f other are inside0 inside1
    (hit_of_open entries g.state e place (subst (λ s. IsOpenHit entries s e place) state h.hit)) (hit_of_open entries g.state f other g.hit) in
    apart (ap₂ (slot_of entries) pair.0 pair.1)

slot_or_other : (a c : ℕ) → (a ≡ c) ⊎ (a ≢ c)
slot_or_other a c = elim (cases_order a c) [
  | inl is ↦ inl is
  | inr (inl lt) ↦ inr (λ is. omega arith)
  | inr (inr gt) ↦ inr (λ is. omega arith)
]

-- the number is an open hit of one pair, whose slot gets the lesser word
sums_with : (entries words : List (List ℕ)) (b n e0 place0 : ℕ) (least new : List ℕ) → AreEntries entries →
    IsInside entries e0 place0 → IsSum entries words e0 place0 b n → hit_word n b < unreached →
    length new ≡ length least → get_or new (slot_of entries e0 place0) 0 ≡ min (get_or least (slot_of entries e0 place0) 0) (hit_word n b) →
    ((k : ℕ) → k ≢ slot_of entries e0 place0 → get_or new k 0 ≡ get_or least k 0) →
    AreFirstSums entries words b least → AreFirstSums entries words (b + 1) new
sums_with entries words b n e0 place0 least new are inside0 hit small long here others h = record {
  count = long ∙ h.count;
  each = λ e place inside. elim (slot_or_other (slot_of entries e place) (slot_of entries e0 place0)) [
    | inl same ↦
        let pair = slots_apart entries e place e0 place0 inside inside0 same in
        let it = with_sum entries words e0 place0 b n (get_or least (slot_of entries e0 place0) 0) hit small (h.each e0 place0 inside0) in
        let now = subst (λ w. IsFirstSumOf entries words e0 place0 (b + 1) w) (sym here) it in
        subst (λ f. IsFirstSumOf entries words f place (b + 1) (get_or new (slot_of entries f place) 0)) (sym pair.0)
        (subst (λ p. IsFirstSumOf entries words e0 p (b + 1) (get_or new (slot_of entries e0 p) 0)) (sym pair.1) now)
    | inr other ↦
        let kept = without entries words e place b (get_or least (slot_of entries e place) 0)
        (λ k y g. apart_pair entries words e place e0 place0 b k hit.moves y hit.z are inside.entry inside0.entry other g hit.is) (h.each e place inside) in
        subst (λ w. IsFirstSumOf entries words e place (b + 1) w) (sym (others (slot_of entries e place) other)) kept
  ];
}

-- The sum of a number is noted in its pair's slot.
pub sums_noted : (entries words : List (List ℕ)) (number : ℕ) (sum : Sum) (slot kept : ℕ) (least new : List ℕ) → AreEntries entries → IsSumOf entries words number sum →
    hit_word sum.strokes number < unreached → slot ≡ slot_of entries sum.entry sum.place → kept ≡ hit_word sum.strokes number → new ≡ set least slot (min (get_or least slot 0) kept) →
    AreFirstSums entries words number least → AreFirstSums entries words (number + 1) new
sums_noted entries words number sum slot kept least new are is small slot_is kept_is new_is h =
    let pair = open_inside entries is.is.is.state sum.entry sum.place is.entry is.is.is.hit in
    let fits_slot : slot < length least = omega (arith, slot_is, h.count, slot_below entries sum.entry sum.place pair) in
    sums_with entries words number sum.strokes sum.entry sum.place least new are pair is.is small
    (ap length new_is ∙ length-set least slot (min (get_or least slot 0) kept))
    (ap (λ k. get_or new k 0) (sym slot_is) ∙ ap (λ l. get_or l slot 0) new_is ∙ get_or-set_same least slot (min (get_or least slot 0) kept) 0 fits_slot
    ∙ ap (λ k. min (get_or least k 0) kept) slot_is ∙ ap (min (get_or least (slot_of entries sum.entry sum.place) 0)) kept_is)
    (λ k other. ap (λ l. get_or l k 0) new_is ∙ get_or-set_other least slot k (min (get_or least slot 0) kept) 0 (λ same. other (same ∙ slot_is))) h

-- ---- all numbers

-- The number of an open hit is one of the numbers.
pub open_below : (entries words : List (List ℕ)) (e place number k : ℕ) (z : List ℕ) → AreWords entries words → IsOpenNumber entries words e place number k z → number < number_count entries
open_below entries words e place number k z are h =
    let state = state_of_number-is entries words number h.state h.is in
    omega (arith, shaped-below entries h.state (shape_of_state entries words h.state are state.0), state.1)

-- the words are ordered by the sums first
nearer : (n number k other : ℕ) → number < 4294967296 → other < 4294967296 → hit_word n number ≤ hit_word k other → n ≤ k
nearer n number k other a b l = omega arith

-- A word that is left in a slot at the end is that of the chosen open hit.
pub first_chosen : (entries words : List (List ℕ)) (e place bound word : ℕ) → AreWords entries words → bound ≡ number_count entries → bound ≤ 33554432 →
    (h : IsFirstSum entries words e place bound word) → (z : List ℕ) → IsOpenNumber entries words e place h.number h.is.moves z → length z ≡ length h.is.z → IsChosenOpen entries words e place h.number h.is.moves z
first_chosen entries words e place bound word are all few h z found same = record {
  is = found;
  least = λ other k y g.
      let below = open_below entries words e place other k y are g in
      let more = h.least other k y (omega (arith, all, below)) g in
      let fits : h.n ≤ k + length y = nearer h.n h.number (k + length y) other (omega (arith, h.below, few)) (omega (arith, below, all, few)) (omega (arith, h.word_is, more)) in
      omega (arith, fits, h.is.sum, same);
  first = λ other k y g sums.
      let below = open_below entries words e place other k y are g in
      let more = h.least other k y (omega (arith, all, below)) g in
      omega (arith, h.word_is, more, h.is.sum, same, sums);
}

-- the two halves of a word
pub halves : (n number word : ℕ) → number < 4294967296 → word ≡ hit_word n number → (word / 4294967296 ≡ n) × (word % 4294967296 ≡ number)
halves n number word low is =
    (ap (λ w. w / 4294967296) is ∙ div-mul-add n 4294967296 number low, ap (λ w. w % 4294967296) is ∙ mod-mul-add n 4294967296 number low)
