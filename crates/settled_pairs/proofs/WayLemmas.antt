-- Ways below a node, by its children.
use Rattle.std.proofs.Common.{◌≡◌, ℕ, ◌+◌, ◌-◌, ◌<◌, ◌≤◌, List, [], ◌∷◌, ◌++◌, length, refl, sym, ap, subst, ◌∙◌, arith, true, false, true≢false, inl, inr, Option, Some, None, Contains, AllPairs, Less, Equal, is_some, get_or, take, drop, take-append-drop, append_assoc, append-nil}
use Rattle.std.specs.Prelude.{MatchOption, option_map}
use Rattle.std.specs.Ordering.{nat_cmp}
use Rattle.std.proofs.lemmas.Bool.{cases_lt}
use Rattle.std.proofs.lemmas.Bool.Decides.{nat_tests}
use Rattle.std.proofs.lemmas.List.{get_or_default, take_more}
use Rattle.std.proofs.lemmas.List.Elements.{Contains-append_cases, Contains-get_or}
use Rattle.steno_rules.specs.Nodes.{nodes}
use Rattle.steno_rules.specs.Outlines.{AreRising, AreWords, entry_number, is_entry, is_word, outline_cmp, outline_of}
use Rattle.steno_rules.proofs.Lists.{in_cons, none_in_nil, pairs_first, pairs_tail}
use Rattle.steno_rules.proofs.NodeLemmas.{nodes-Contains}
use Rattle.steno_rules.proofs.Numbers.{entry_number-Some, below_trans, not_below_self, number_test, outline_of-once}
use Rattle.steno_rules.proofs.Prefixes.{is_prefix-entry, is_prefix-front}
use Rattle.steno_rules.proofs.Words.{word_is_entry}
use Rattle.steno_rules.specs.Segments.{last_piece}
use Rattle.steno_rules.specs.Windows.{is_prefix, window}
use Rattle.stroke.specs.Pieces.{piece_of}
use Rattle.stroke.specs.declared.pieces.Piece.{Piece}
use Rattle.outline_trie.specs.Tries.{AreChildren, IsLast, IsNode, child_of, longest_of, node_strokes}
use Rattle.closure_state.proofs.RowLemmas.{snoc_last}
use Rattle.outline_trie.proofs.DepthLemmas.{node_short}
use Rattle.outline_trie.proofs.LookLemmas.{number_there}
use Rattle.settled_pairs.specs.inside.Near.{IsNearAt}
use Rattle.settled_pairs.specs.inside.Ways.{HasNoWay, HasNoWayBy, IsFirstWay, IsLastWithin, IsStepOn, IsWay}

-- ---- nodes and entries

-- what begins an entry is a node
node_of_prefix : (entries : List (List ℕ)) (x : List ℕ) → is_prefix entries x ≡ true → (node : ℕ) × IsNode entries node × (node_strokes entries node ≡ x)
node_of_prefix entries x begins =
    let there = (nodes-Contains entries x).1 begins in
    (there.0, there.1, get_or_default (nodes entries) there.0 [] x there.1 ∙ there.2)

-- A word is a node with no more strokes than the longest entry.
pub word_short : (entries words : List (List ℕ)) (x : List ℕ) → AreWords entries words → is_word words x ≡ true → length x ≤ longest_of entries
word_short entries words x are word =
    let node = node_of_prefix entries x (is_prefix-entry entries x (word_is_entry entries words x are word)) in
    omega (arith, node_short entries node.0 node.1, ap length node.2)

-- A stroke with which a word goes on below a node leads to a child.
pub child_of_word : (entries words : List (List ℕ)) (node c : ℕ) (z : List ℕ) → AreWords entries words → is_word words (node_strokes entries node ++ c ∷ z) ≡ true → (child : ℕ) × (child_of entries node c ≡ Some child)
child_of_word entries words node c z are word =
    let x : List ℕ = node_strokes entries node in
    let same : (x ++ c ∷ []) ++ z ≡ x ++ c ∷ z = append_assoc x (c ∷ []) z in
    let begins : is_prefix entries ((x ++ c ∷ []) ++ z) ≡ true = is_prefix-entry entries ((x ++ c ∷ []) ++ z) (word_is_entry entries words ((x ++ c ∷ []) ++ z) are (subst (λ l. is_word words l ≡ true) (sym same) word)) in
    let found = node_of_prefix entries (x ++ c ∷ []) (is_prefix-front entries (x ++ c ∷ []) z begins) in
    (found.0, number_there entries (x ++ c ∷ []) found.0 found.1 found.2)

-- what is below another outline has a lesser number
number_less : (entries : List (List ℕ)) (k e : ℕ) → AreRising entries → k < length entries → e < length entries → outline_cmp (outline_of entries k) (outline_of entries e) ≡ Less → k ≤ e
number_less entries k e rising a b less = elim (cases_lt e k) [
  | inr ge ↦ omega arith
  | inl lt ↦
      let back : outline_cmp (outline_of entries e) (outline_of entries k) ≡ Less = rising e k [] lt a in
      absurd (below_both (outline_of entries k) (outline_of entries e) less back)
]
  where
    below_both : (x y : List ℕ) → outline_cmp x y ≡ Less → outline_cmp y x ≡ Less → ⊥
    below_both x y l m = not_below_self x (below_trans x y x l m)

nat_same : (c : ℕ) → nat_cmp c c ≡ Equal
nat_same c = grind (arith, nat_tests)

nat_less : (c d : ℕ) → c < d → nat_cmp c d ≡ Less
nat_less c d l = grind (arith, nat_tests)

-- of two lists with one front the one with the lesser stroke is below
front_below : (x : List ℕ) (c d : ℕ) (y z : List ℕ) → c < d → outline_cmp (x ++ c ∷ y) (x ++ d ∷ z) ≡ Less
front_below [] c d y z l = rw (nat_less c d l) refl
front_below (a ∷ x) c d y z l = rw (nat_same a) (front_below x c d y z l)

-- ---- no strokes are left

empty_of : (z : List ℕ) → length z ≡ 0 → z ≡ []
empty_of [] h = refl
empty_of (c ∷ z) h = absurd (omega (arith, h))

-- the strokes of a way of none
pub way_none : (entries words : List (List ℕ)) (front w : List ℕ) (passed : ℕ) (z : List ℕ) → IsWay entries words front w passed 0 z → (z ≡ []) × (is_word words front ≡ true)
way_none entries words front w passed z h =
    let none = empty_of z h.long in
    (none, subst (λ l. is_word words l ≡ true) (ap (λ l. front ++ l) none ∙ append-nil front) h.word)

-- Where the node is no word there is no way of no strokes.
pub no_way_here : (entries words : List (List ℕ)) (front w : List ℕ) (passed left : ℕ) → left ≡ 0 → is_word words front ≡ false → HasNoWay entries words front w passed left
no_way_here entries words front w passed left none no_word z h =
    let here = way_none entries words front w passed z (subst (λ k. IsWay entries words front w passed k z) none h) in
    true≢false (sym here.1 ∙ no_word)

-- Where it is one, it is the first.
pub way_here : (entries words : List (List ℕ)) (front w : List ℕ) (passed left : ℕ) (found : Option ℕ) → AreWords entries words → left ≡ 0 → is_word words front ≡ true → found ≡ entry_number entries front →
    MatchOption found (HasNoWay entries words front w passed left) (IsFirstWay entries words front w passed left)
way_here entries words front w passed left None are none word is =
    let test : is_entry entries front ≡ false = sym (number_test entries front) ∙ ap is_some (sym is) in
    absurd (true≢false (sym (word_is_entry entries words front are word) ∙ test))
way_here entries words front w passed left (Some k) are none word is =
    let at = entry_number-Some entries front k (sym is) in
    record {
      z = [];
      way = record { long = sym none; word = subst (λ l. is_word words l ≡ true) (sym (append-nil front)) word; passes = tt };
      entry = at.0;
      is = at.1 ∙ sym (append-nil front);
      first = λ other y inside other_is way.
          let here = way_none entries words front w passed y (subst (λ i. IsWay entries words front w passed i y) none way) in
          let same : outline_of entries k ≡ outline_of entries other = at.1 ∙ sym (other_is ∙ ap (λ l. front ++ l) here.0 ∙ append-nil front) in
          omega (arith, outline_of-once entries k other are.are_entries.rising at.0 inside same);
    }

-- ---- by a stroke

-- A way goes on behind its first stroke.
pub way_rest : (entries words : List (List ℕ)) (front w : List ℕ) (c passed left : ℕ) (z : List ℕ) → IsWay entries words front w passed left (c ∷ z) →
    IsLastWithin entries (w ++ c ∷ []) (passed + 1) × IsWay entries words (front ++ c ∷ []) (window entries (w ++ c ∷ [])) (passed + 1) (left - 1) z
way_rest entries words front w c passed left z h = (
  h.passes.0,
  record { long = omega (arith, h.long); word = subst (λ l. is_word words l ≡ true) (sym (append_assoc front (c ∷ []) z)) h.word; passes = h.passes.1 },
)

-- and begins with it
way_begun : (entries words : List (List ℕ)) (front w : List ℕ) (c passed left : ℕ) (z : List ℕ) → 0 < left → IsLastWithin entries (w ++ c ∷ []) (passed + 1) →
    IsWay entries words (front ++ c ∷ []) (window entries (w ++ c ∷ [])) (passed + 1) (left - 1) z → IsWay entries words front w passed left (c ∷ z)
way_begun entries words front w c passed left z some within h = record {
  long = omega (arith, h.long, some);
  word = subst (λ l. is_word words l ≡ true) (append_assoc front (c ∷ []) z) h.word;
  passes = (within, h.passes);
}

-- Where words are too far below a child, or the piece doesn't stay, no way begins so.
pub no_way_far : (entries words : List (List ℕ)) (x w : List ℕ) (code child passed left n : ℕ) → IsNearAt entries words child n → node_strokes entries child ≡ x ++ code ∷ [] → left ≤ n → HasNoWayBy entries words x w code passed left
no_way_far entries words x w code child passed left n near is far z h =
    let rest = (way_rest entries words x w code passed left z h).1 in
    let fits : n ≤ length z = near z (subst (λ l. is_word words (l ++ z) ≡ true) (sym is) rest.word) in
    omega (arith, fits, far, h.long)

pub no_way_back : (entries words : List (List ℕ)) (x w : List ℕ) (code passed left : ℕ) (p : List ℕ) → last_piece entries (w ++ code ∷ []) ≡ Some p → passed + 1 < length p → HasNoWayBy entries words x w code passed left
no_way_back entries words x w code passed left p last long z h =
    let fits : length p ≤ passed + 1 = h.passes.0 p last in
    omega (arith, fits, long)

-- ---- children

-- no way begins with the stroke of one of these children
pub NoWayAmong : List (List ℕ) → List (List ℕ) → List ℕ → List ℕ → ℕ → ℕ → List (ℕ × ℕ) → Type 0
NoWayAmong entries words front w passed left row = (code child : ℕ) → Contains row (code, child) → HasNoWayBy entries words front w code passed left

pub among_none : (entries words : List (List ℕ)) (front w : List ℕ) (passed left : ℕ) → NoWayAmong entries words front w passed left []
unfolding NoWayAmong
among_none entries words front w passed left code child there = absurd (none_in_nil (code, child) there)

-- One child more.
pub among_more : (entries words : List (List ℕ)) (front w : List ℕ) (passed left : ℕ) (row : List (ℕ × ℕ)) (pair : ℕ × ℕ) → NoWayAmong entries words front w passed left row →
    HasNoWayBy entries words front w pair.0 passed left → NoWayAmong entries words front w passed left (row ++ pair ∷ [])
unfolding NoWayAmong
among_more entries words front w passed left row pair none here code child there = elim (Contains-append_cases row (pair ∷ []) (code, child) there) [
  | inl before ↦ none code child before
  | inr last ↦ elim (in_cons pair [] (code, child) last) [
    | inl is ↦ subst (λ c. HasNoWayBy entries words front w c passed left) (ap (λ (p : ℕ × ℕ). p.0) is) here
    | inr past ↦ absurd (none_in_nil (code, child) past)
  ]
]

-- Where no way begins with a child's stroke there is none at all.
pub no_way_among : (entries words : List (List ℕ)) (node : ℕ) (w : List ℕ) (passed left : ℕ) (row : List (ℕ × ℕ)) → AreWords entries words → 0 < left → AreChildren entries node row →
    NoWayAmong entries words (node_strokes entries node) w passed left row → HasNoWay entries words (node_strokes entries node) w passed left
unfolding NoWayAmong
no_way_among entries words node w passed left row are some children none [] h = absurd (omega (arith, some, h.long))
no_way_among entries words node w passed left row are some children none (c ∷ z) h =
    let child = child_of_word entries words node c z are h.word in
    none c child.0 ((children.each c child.0).1 child.1) z h

-- Behind a child's stroke there is none.
pub no_way_behind : (entries words : List (List ℕ)) (front w : List ℕ) (code passed left child next : ℕ) → node_strokes entries child ≡ front ++ code ∷ [] → IsStepOn entries w code passed next →
    HasNoWay entries words (node_strokes entries child) (node_strokes entries next) (passed + 1) (left - 1) → HasNoWayBy entries words front w code passed left
no_way_behind entries words front w code passed left child next is step none z h =
    let rest = (way_rest entries words front w code passed left z h).1 in
    none z (subst (λ l. IsWay entries words l (node_strokes entries next) (passed + 1) (left - 1) z) (sym is)
    (subst (λ l. IsWay entries words (front ++ code ∷ []) l (passed + 1) (left - 1) z) (sym step.is) rest))

-- the children before a place, the child there, and those behind it
split_at : (row : List (ℕ × ℕ)) (i : ℕ) → i < length row → row ≡ take i row ++ get_or row i (0, 0) ∷ drop (i + 1) row
split_at row i inside =
    sym (take-append-drop (i + 1) row) ∙ ap (λ l. l ++ drop (i + 1) row) (take_more row i (0, 0) inside) ∙ append_assoc (take i row) (get_or row i (0, 0) ∷ []) (drop (i + 1) row)

-- what stands behind an element of a rising row is greater
behind_greater : (before : List (ℕ × ℕ)) (pair : ℕ × ℕ) (rest : List (ℕ × ℕ)) (other : ℕ × ℕ) → AllPairs (λ a b. a.0 < b.0) (before ++ pair ∷ rest) → Contains rest other → pair.0 < other.0
behind_greater [] pair rest other rising there = pairs_first (λ (a b : ℕ × ℕ). a.0 < b.0) pair rest other rising there
behind_greater (p ∷ before) pair rest other rising there = behind_greater before pair rest other (pairs_tail (λ (a b : ℕ × ℕ). a.0 < b.0) p (before ++ pair ∷ rest) rising) there

-- Where no child before has a way, the first way by a child is the first of all.
pub first_by_child : (entries words : List (List ℕ)) (node : ℕ) (w : List ℕ) (passed left i next k : ℕ) (row : List (ℕ × ℕ)) → AreWords entries words → 0 < left → AreChildren entries node row → i < length row →
    NoWayAmong entries words (node_strokes entries node) w passed left (take i row) → node_strokes entries (get_or row i (0, 0)).1 ≡ node_strokes entries node ++ (get_or row i (0, 0)).0 ∷ [] →
    IsStepOn entries w (get_or row i (0, 0)).0 passed next → IsFirstWay entries words (node_strokes entries (get_or row i (0, 0)).1) (node_strokes entries next) (passed + 1) (left - 1) k →
    IsFirstWay entries words (node_strokes entries node) w passed left k
unfolding NoWayAmong
first_by_child entries words node w passed left i next k row are some children inside none is step first =
    let front : List ℕ = node_strokes entries node in
    let pair : ℕ × ℕ = get_or row i (0, 0) in
    let c : ℕ = pair.0 in
    let from : (z : List ℕ) → IsWay entries words (node_strokes entries pair.1) (node_strokes entries next) (passed + 1) (left - 1) z → IsWay entries words (front ++ c ∷ []) (window entries (w ++ c ∷ [])) (passed + 1) (left - 1) z =
    λ z h. subst (λ l. IsWay entries words l (window entries (w ++ c ∷ [])) (passed + 1) (left - 1) z) is (subst (λ l. IsWay entries words (node_strokes entries pair.1) l (passed + 1) (left - 1) z) step.is h) in
    let to : (z : List ℕ) → IsWay entries words (front ++ c ∷ []) (window entries (w ++ c ∷ [])) (passed + 1) (left - 1) z → IsWay entries words (node_strokes entries pair.1) (node_strokes entries next) (passed + 1) (left - 1) z =
    λ z h. subst (λ l. IsWay entries words l (node_strokes entries next) (passed + 1) (left - 1) z) (sym is) (subst (λ l. IsWay entries words (front ++ c ∷ []) l (passed + 1) (left - 1) z) (sym step.is) h) in
    let begun : outline_of entries k ≡ front ++ c ∷ first.z = first.is ∙ ap (λ l. l ++ first.z) is ∙ append_assoc front (c ∷ []) first.z in
    record {
      z = c ∷ first.z;
      way = way_begun entries words front w c passed left first.z some step.within (from first.z first.way);
      entry = first.entry;
      is = begun;
      first = λ other y other_inside other_is way. by y other other_inside other_is way to begun;
    }
  where
    by : (y : List ℕ) (other : ℕ) → other < length entries → outline_of entries other ≡ node_strokes entries node ++ y → IsWay entries words (node_strokes entries node) w passed left y →
        ((z : List ℕ) → IsWay entries words (node_strokes entries node ++ (get_or row i (0, 0)).0 ∷ []) (window entries (w ++ (get_or row i (0, 0)).0 ∷ [])) (passed + 1) (left - 1) z →
        IsWay entries words (node_strokes entries (get_or row i (0, 0)).1) (node_strokes entries next) (passed + 1) (left - 1) z) →
        outline_of entries k ≡ node_strokes entries node ++ (get_or row i (0, 0)).0 ∷ first.z → k ≤ other
    by [] other other_inside other_is way to begun = absurd (omega (arith, some, way.long))
    by (d ∷ y) other other_inside other_is way to begun =
        let front : List ℕ = node_strokes entries node in
        let pair : ℕ × ℕ = get_or row i (0, 0) in
        let child = child_of_word entries words node d y are way.word in
        let there : Contains row (d, child.0) = (children.each d child.0).1 child.1 in
        let split = split_at row i inside in
        let rising : AllPairs (λ a b. a.0 < b.0) (take i row ++ pair ∷ drop (i + 1) row) = subst (AllPairs (λ a b. a.0 < b.0)) split children.rising in
        elim (Contains-append_cases (take i row) (pair ∷ drop (i + 1) row) (d, child.0) (subst (λ l. Contains l (d, child.0)) split there)) [
          | inl before ↦ absurd (none d child.0 before y way)
          | inr from_here ↦ elim (in_cons pair (drop (i + 1) row) (d, child.0) from_here) [
            | inl same ↦
                let stroke : d ≡ pair.0 = sym (ap (λ (p : ℕ × ℕ). p.0) same) in
                let way' : IsWay entries words front w passed left (pair.0 ∷ y) = subst (λ s. IsWay entries words front w passed left (s ∷ y)) stroke way in
                let is' : outline_of entries other ≡ node_strokes entries pair.1 ++ y =
                other_is ∙ ap (λ s. front ++ s ∷ y) stroke ∙ sym (append_assoc front (pair.0 ∷ []) y) ∙ ap (λ l. l ++ y) (sym is) in
                first.first other y other_inside is' (to y (way_rest entries words front w pair.0 passed left y way').1)
            | inr later ↦
                let greater : pair.0 < d = behind_greater (take i row) pair (drop (i + 1) row) (d, child.0) rising later in
                number_less entries k other are.are_entries.rising first.entry other_inside
                (subst (λ l. outline_cmp (outline_of entries k) l ≡ Less) (sym other_is)
                (subst (λ l. outline_cmp l (front ++ d ∷ y) ≡ Less) (sym begun) (front_below front pair.0 d first.z y greater)))
          ]
        ]

-- The child at a place.
pub child_at : (entries : List (List ℕ)) (node : ℕ) (row : List (ℕ × ℕ)) (i : ℕ) → AreChildren entries node row → i < length row →
    child_of entries node (get_or row i (0, 0)).0 ≡ Some (get_or row i (0, 0)).1
child_at entries node row i children inside = (children.each (get_or row i (0, 0)).0 (get_or row i (0, 0)).1).0 (Contains-get_or row i (0, 0) inside)

-- ---- what the functions answer

-- Where the window isn't told, no way begins so.
pub none_by : (entries words : List (List ℕ)) (x w : List ℕ) (code passed left : ℕ) (o : Option ℕ) → o ≡ None → MatchOption o (HasNoWayBy entries words x w code passed left) (IsStepOn entries w code passed) → HasNoWayBy entries words x w code passed left
none_by entries words x w code passed left None is h = h
none_by entries words x w code passed left (Some next) is h = absurd (true≢false cc)

-- Where no word is told, there is no way.
pub none_behind : (entries words : List (List ℕ)) (front w : List ℕ) (passed left : ℕ) (o : Option ℕ) → is_some o ≡ false → MatchOption o (HasNoWay entries words front w passed left) (IsFirstWay entries words front w passed left) →
    HasNoWay entries words front w passed left
none_behind entries words front w passed left None is h = h
none_behind entries words front w passed left (Some k) is h = absurd (true≢false is)

-- Where one is told, it is the first of all.
pub first_found : (entries words : List (List ℕ)) (node : ℕ) (w : List ℕ) (passed left i next : ℕ) (row : List (ℕ × ℕ)) → AreWords entries words → 0 < left → AreChildren entries node row → i < length row →
    NoWayAmong entries words (node_strokes entries node) w passed left (take i row) → node_strokes entries (get_or row i (0, 0)).1 ≡ node_strokes entries node ++ (get_or row i (0, 0)).0 ∷ [] →
    IsStepOn entries w (get_or row i (0, 0)).0 passed next → (o : Option ℕ) → is_some o ≡ true →
    MatchOption o (HasNoWay entries words (node_strokes entries (get_or row i (0, 0)).1) (node_strokes entries next) (passed + 1) (left - 1)) (IsFirstWay entries words (node_strokes entries (get_or row i (0, 0)).1) (node_strokes entries next) (passed + 1) (left - 1)) →
    MatchOption o (HasNoWay entries words (node_strokes entries node) w passed left) (IsFirstWay entries words (node_strokes entries node) w passed left)
first_found entries words node w passed left i next row are some children inside none is step None there h = absurd (true≢false (sym there))
first_found entries words node w passed left i next row are some children inside none is step (Some k) there h = first_by_child entries words node w passed left i next k row are some children inside none is step h

-- A last piece that reaches back leaves no way by the last stroke of a child.
pub no_way_by_last : (entries words : List (List ℕ)) (x : List ℕ) (code child window passed left stroke : ℕ) (piece : Piece) → IsLast entries child stroke → node_strokes entries child ≡ x ++ code ∷ [] →
    Some piece ≡ option_map (piece_of entries) (last_piece entries (node_strokes entries window ++ stroke ∷ [])) → passed + 1 < piece.len → HasNoWayBy entries words x (node_strokes entries window) code passed left
no_way_by_last entries words x code child window passed left stroke piece last is told long =
    by (last_piece entries (node_strokes entries window ++ stroke ∷ [])) refl told
  where
    same : stroke ≡ code
    same = snoc_last (take (length (node_strokes entries child) - 1) (node_strokes entries child)) x stroke code (sym last ∙ is)

    by : (o : Option (List ℕ)) → last_piece entries (node_strokes entries window ++ stroke ∷ []) ≡ o → Some piece ≡ option_map (piece_of entries) o → HasNoWayBy entries words x (node_strokes entries window) code passed left
    by None e none = absurd (true≢false cc)
    by (Some p) e some =
        let pieces : piece ≡ piece_of entries p = cc in
        no_way_back entries words x (node_strokes entries window) code passed left p (ap (λ c. last_piece entries (node_strokes entries window ++ c ∷ [])) (sym same) ∙ e) (omega (arith, long, ap (λ (q : Piece). q.len) pieces))
