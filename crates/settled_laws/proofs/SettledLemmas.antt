-- The law of pairs that stay: they are open hits that are reached and can finish.
use Rattle.std.proofs.Common.{◌≡◌, ◌≢◌, ℕ, zero, suc, ◌+◌, ◌-◌, ◌<◌, ◌≤◌, List, [], ◌∷◌, ◌++◌, length, take, refl, sym, ap, subst, ◌∙◌, arith, true, true≢false, ◌⊎◌, inl, inr, append_assoc, append-nil, length-append, take_all, Option, Some, None, ◌↔◌}
use Rattle.std.specs.List.{concat, AllByRecursion}
use Rattle.std.proofs.lemmas.Bool.{cases_lt}
use Rattle.std.proofs.lemmas.List.{take-append-le, length_push}
use Rattle.std.proofs.lemmas.List.Folds.{concat-append}
use Rattle.steno_rules.specs.Outlines.{is_entry, is_word, AreWords, outline_of}
use Rattle.steno_rules.specs.Segments.{last_piece}
use Rattle.steno_rules.specs.Windows.{window}
use Rattle.steno_rules.specs.Conflicts.{outlines_of, joined_strokes, AreWordNumbers, Shows, IsLeast}
use Rattle.steno_rules.specs.States.{State, state_of, is_open, IsHitMark}
use Rattle.steno_rules.specs.Reached.{MarksBoundary, StandsFor}
use Rattle.graph_rules.specs.Graphs.{IsBest, AreSettled}
use Rattle.steno_rules.specs.StateNumbers.{state_number}
use Rattle.steno_rules.specs.ClosureGraphs.{kept_lists}
use Rattle.translation_laws.specs.Pieces.{HasPiece}
use Rattle.settled_laws.specs.SettledPairs.{Stays, SettledPair, IsLeastSettled}
use Rattle.settled_laws.specs.OpenHits.{CanFinish, IsReachedHit, IsLeastReached}
use Rattle.settled_laws.specs.OpenNumbers.{IsOpenNumber, IsLeastOpen}
use Rattle.settled_laws.specs.ChosenOpenHits.{ended_word}
use Rattle.steno_rules.proofs.Lists.{two_cuts, All-snoc}
use Rattle.steno_rules.proofs.Prefixes.{is_prefix-entry}
use Rattle.steno_rules.proofs.SegmentLemmas.{concat-segments, last_piece-short}
use Rattle.steno_rules.proofs.Words.{open_of_word, word_not_empty}
use Rattle.translation_laws.proofs.LastPieces.{last_piece-window, last_piece-in_window}
use Rattle.translation_laws.proofs.FrontLemmas.{piece-front, last_piece-at}
use Rattle.translation_laws.proofs.StayLemmas.{stays-window}
use Rattle.closure_laws.proofs.WordsOfWalks.{Reached-Walk, concat-snoc}
use Rattle.closure_laws.proofs.WalksOfWords.{Walk-Reached}
use Rattle.closure_laws.proofs.StateLemmas.{IsState-Walk}
use Rattle.closure_laws.proofs.NumberStateLemmas.{state_of_number-is, state_of_number-there}
use Rattle.closure_laws.proofs.HitNumberLemmas.{best_of_walks, walk_of_best, best_of_state}
use Rattle.closure_laws.proofs.ConflictLemmas.{numbers_of, outlines_are_words, outline_is_entry}

-- ---- words cut where some strokes end

-- the words ws, whose strokes are y and then r, are `front`, then the word v and z, if there is one, then `back`
record CutAt (ws : List (List ℕ)) (y r : List ℕ) : Type 0 where
  pub front : List (List ℕ)
  pub v : List ℕ
  pub z : List ℕ
  pub back : List (List ℕ)
  pub before : y ≡ concat front ++ v
  pub after : r ≡ z ++ concat back
  pub whole : ((v ≡ []) × (z ≡ []) × (ws ≡ front ++ back)) ⊎ ((v ≢ []) × (0 < length z) × (ws ≡ (front ++ (v ++ z) ∷ []) ++ back))

later_cut : (w : List ℕ) (ws : List (List ℕ)) (y t r : List ℕ) → y ≡ w ++ t → CutAt ws t r → CutAt (w ∷ ws) y r
later_cut w ws y t r is cut = record {
  front = w ∷ cut.front;
  v = cut.v;
  z = cut.z;
  back = cut.back;
  before = is ∙ ap (λ l. w ++ l) cut.before ∙ sym (append_assoc w (concat cut.front) cut.v);
  after = cut.after;
  whole = elim cut.whole [
    | inl h ↦ inl (h.0, h.1, ap (λ l. w ∷ l) h.2)
    | inr h ↦ inr (h.0, h.1, ap (λ l. w ∷ l) h.2)
  ];
}

cut_words : (ws : List (List ℕ)) (y r : List ℕ) → concat ws ≡ y ++ r → CutAt ws y r
cut_words ws [] r same = record { front = []; v = []; z = []; back = ws; before = refl; after = sym same; whole = inl (refl, refl, refl) }
cut_words [] (c ∷ y) r same = absurd (true≢false cc)
cut_words (w ∷ ws) (c ∷ y) r same = elim (two_cuts w (concat ws) (c ∷ y) r same) [
  | inl h ↦ later_cut w ws (c ∷ y) h.0 r h.1 (cut_words ws h.0 r h.2)
  | inr h ↦ record {
    front = [];
    v = c ∷ y;
    z = h.0 ∷ h.1;
    back = ws;
    before = refl;
    after = h.3;
    whole = inr (λ e. true≢false cc, omega arith, ap (λ l. l ∷ ws) h.2);
  }
]

all_front : (P : List ℕ → Type 0) (xs ys : List (List ℕ)) → AllByRecursion P (xs ++ ys) → AllByRecursion P xs
all_front P [] ys h = tt
all_front P (x ∷ xs) ys h = (h.0, all_front P xs ys h.1)

all_last : (P : List ℕ → Type 0) (xs : List (List ℕ)) (x : List ℕ) (ys : List (List ℕ)) → AllByRecursion P ((xs ++ x ∷ []) ++ ys) → P x
all_last P [] x ys h = h.0
all_last P (w ∷ xs) x ys h = all_last P xs x ys h.1

-- as many words as those of a front, or more, have at least its strokes
take_past : (i : ℕ) (xs ys : List (List ℕ)) → length xs ≤ i → length (concat xs) ≤ length (concat (take i (xs ++ ys)))
take_past i [] ys l = omega arith
take_past zero (x ∷ xs) ys l = absurd (omega arith)
take_past (suc i) (x ∷ xs) ys l = omega (arith, length-append x (concat xs), length-append x (concat (take i (xs ++ ys))), take_past i xs ys (omega arith))

-- a boundary before the cut lies in the front
cut_inside : (ws : List (List ℕ)) (y r : List ℕ) → (cut : CutAt ws y r) → (i : ℕ) → length (concat (take i ws)) < length y → (i ≤ length cut.front) × (take i ws ≡ take i cut.front)
cut_inside ws y r cut i short = elim (cases_lt (length cut.front) i) [
  | inl past ↦ elim cut.whole [
    | inl h ↦
        let far : length (concat cut.front) ≤ length (concat (take i ws)) = rw h.2 (take_past i cut.front cut.back (omega (arith, past))) in
        absurd (omega (arith, far, short, ap length cut.before, length-append (concat cut.front) cut.v, ap length h.0))
    | inr h ↦
        let more : List (List ℕ) = cut.front ++ (cut.v ++ cut.z) ∷ [] in
        let far : length (concat more) ≤ length (concat (take i ws)) = rw h.2 (take_past i more cut.back (omega (arith, past, length_push cut.front (cut.v ++ cut.z)))) in
        absurd (omega (arith, far, short, ap length cut.before, length-append (concat cut.front) cut.v, ap length (concat-snoc cut.front (cut.v ++ cut.z)), length-append (concat cut.front) (cut.v ++ cut.z), length-append cut.v cut.z))
  ]
  | inr inside ↦ (
    inside,
    elim cut.whole [
      | inl h ↦ ap (take i) h.2 ∙ take-append-le i cut.front cut.back inside
      | inr h ↦
          ap (take i) h.2 ∙ take-append-le i (cut.front ++ (cut.v ++ cut.z) ∷ []) cut.back (omega (arith, inside, length_push cut.front (cut.v ++ cut.z)))
          ∙ take-append-le i cut.front ((cut.v ++ cut.z) ∷ []) inside
    ],
  )
]

-- ---- from words to hits

cut_words_are : (words ws : List (List ℕ)) (y r : List ℕ) → (cut : CutAt ws y r) → AllByRecursion (λ w. is_word words w ≡ true) ws →
    AllByRecursion (λ w. is_word words w ≡ true) cut.front × (is_open words cut.v ≡ true)
cut_words_are words ws y r cut all = elim cut.whole [
  | inl h ↦ (all_front (λ w. is_word words w ≡ true) cut.front cut.back (subst (AllByRecursion (λ w. is_word words w ≡ true)) h.2 all), rw h.0 refl)
  | inr h ↦
      let all' = subst (AllByRecursion (λ w. is_word words w ≡ true)) h.2 all in (
        all_front (λ w. is_word words w ≡ true) cut.front ((cut.v ++ cut.z) ∷ []) (all_front (λ w. is_word words w ≡ true) (cut.front ++ (cut.v ++ cut.z) ∷ []) cut.back all'),
        open_of_word words cut.v cut.z (all_last (λ w. is_word words w ≡ true) cut.front (cut.v ++ cut.z) cut.back all') h.1,
      )
]

pub hit_of_settled : (entries words : List (List ℕ)) (ns : List ℕ) (e place : ℕ) → AreWords entries words → AreWordNumbers entries words ns → Stays entries ns e place →
    (n : ℕ) × (z : List ℕ) × IsReachedHit entries words e place n z × (n + length z ≤ length (joined_strokes entries ns))
hit_of_settled entries words ns e place are all stays =
    let o : List ℕ = outline_of entries e in
    let ws : List (List ℕ) = outlines_of entries ns in
    let x : List ℕ = concat ws in
    let h = stays.piece in
    let y : List ℕ = concat h.before ++ o in
    let joined : x ≡ y ++ concat h.after =
    sym (concat-segments entries x) ∙ ap concat h.split ∙ concat-append h.before (o ∷ h.after) ∙ sym (append_assoc (concat h.before) o (concat h.after)) in
    let cut = cut_words ws y (concat h.after) joined in
    let front = piece-front entries x o cut.z (concat cut.back) stays.start h cut.after in
    let is : is_entry entries o ≡ true = outline_is_entry entries e (omega (arith, stays.before_end)) in
    let wide : length o ≤ length (window entries y) = last_piece-in_window entries y o front.0 (is_prefix-entry entries o is) in
    let long : length y ≡ stays.start + length o = omega (arith, length-append (concat h.before) o, h.start) in
    let i : ℕ = stays.boundary.0 in
    let inside = cut_inside ws y (concat h.after) cut i (omega (arith, stays.boundary.3, stays.before_end, long)) in
    let m : ℕ = length o - place in
    let s : State = state_of (window entries y) cut.v (Some m) in
    let are_words = outlines_are_words entries words ns all in
    let parts = cut_words_are words ws y (concat h.after) cut are_words in
    let stands : StandsFor entries words cut.front (length y) s = record {
      are_words = parts.0;
      open_word = parts.1;
      strokes = ap length (sym cut.before);
      window = ap (window entries) cut.before;
      marks = (omega (arith, wide, stays.after_start, stays.before_end), (i, omega (arith, stays.boundary.1), inside.0, omega (arith, ap (λ l. length (concat l)) inside.1, stays.boundary.3, long, stays.before_end)));
    } in
    let piece : HasPiece entries (y ++ cut.z) o (length y - length o) = subst (HasPiece entries (y ++ cut.z) o) (omega (arith, long)) front.1 in (
      length y,
      cut.z,
      record {
        state = s;
        walk = Walk-Reached entries words (length y) s (word_not_empty entries words are) (cut.front, stands);
        hit = record {
          piece = last_piece-window entries y (omega (arith, wide, stays.before_end)) ∙ front.0;
          mark = (omega (arith, stays.before_end), omega (arith, stays.after_start, stays.before_end), omega (arith, stays.before_end));
        };
        can = elim cut.whole [
          | inl k ↦ inl (k.0, k.1)
          | inr k ↦ inr (
            k.0,
            record {
              word = all_last (λ w. is_word words w ≡ true) cut.front (cut.v ++ cut.z) cut.back (subst (AllByRecursion (λ w. is_word words w ≡ true)) k.2 are_words);
              piece = (stays-window entries y o cut.z front.0 is).0 piece;
            },
          )
        ];
      },
      omega (arith, ap length joined, length-append y (concat h.after), ap length cut.after, length-append cut.z (concat cut.back)),
    )

-- ---- from hits to words

-- the words vs, whose strokes are y and z, have the piece where y ends, and a boundary m strokes before
stays_made : (entries vs : List (List ℕ)) (ns : List ℕ) (e place m i : ℕ) (y z : List ℕ) → outlines_of entries ns ≡ vs → concat vs ≡ y ++ z →
    HasPiece entries (y ++ z) (outline_of entries e) (length y - length (outline_of entries e)) → length (outline_of entries e) ≤ length y →
    length (concat (take i vs)) + m ≡ length y → 1 ≤ i → i < length vs → IsHitMark (Some m) (length (outline_of entries e)) place → Stays entries ns e place
stays_made entries vs ns e place m i y z same joined piece fits cut some inside mark = record {
  start = length y - length (outline_of entries e);
  piece = subst (λ l. HasPiece entries l (outline_of entries e) (length y - length (outline_of entries e))) (sym (ap concat same ∙ joined)) piece;
  after_start = omega (arith, mark.1, mark.2);
  before_end = omega (arith, mark.0, mark.1, mark.2);
  boundary = rw same (i, omega (arith, some), inside, omega (arith, cut, mark.0, mark.1, mark.2, fits));
}

-- what such a state gives: the words, or those and the one that z finishes
pub Made : List (List ℕ) → List (List ℕ) → ℕ → ℕ → ℕ → Type 0
Made entries words e place n = (ns : List ℕ) × AreWordNumbers entries words ns × Stays entries ns e place × (length (joined_strokes entries ns) ≡ n)

-- how a state finishes: at once where no word is open, or else by a word that z ends
abbrev pub Ends : List (List ℕ) → List (List ℕ) → List ℕ → List ℕ → List ℕ → List ℕ → Type 0
Ends entries words u v o z =
    ((v ≡ []) × (z ≡ [])) ⊎ ((v ≢ []) × (is_word words (v ++ z) ≡ true) × HasPiece entries (u ++ z) o (length u - length o))

ended-some : (v z : List ℕ) → v ≢ [] → ended_word v z ≡ (v ++ z) ∷ []
ended-some [] z some = absurd (some refl)
ended-some (c ∷ v) z some = refl

-- The words and the one that z ends are words.
pub ended_words : (entries words ws : List (List ℕ)) (u v o z : List ℕ) → AllByRecursion (λ w. is_word words w ≡ true) ws → Ends entries words u v o z →
    AllByRecursion (λ w. is_word words w ≡ true) (ws ++ ended_word v z)
ended_words entries words ws u v o z all (inl h) = subst (AllByRecursion (λ w. is_word words w ≡ true)) (sym (ap (λ l. ws ++ ended_word l z) h.0 ∙ append-nil ws)) all
ended_words entries words ws u v o z all (inr h) =
    subst (λ l. AllByRecursion (λ w. is_word words w ≡ true) (ws ++ l)) (sym (ended-some v z h.0)) (All-snoc (λ w. is_word words w ≡ true) ws (v ++ z) all h.1)

-- Words that a marked state stands for, and the one that z ends, have its pair.
pub stays_by_mark : (entries words ws : List (List ℕ)) (u v : List ℕ) (m : Option ℕ) (e place : ℕ) (z : List ℕ) → u ≡ window entries (concat ws ++ v) →
    MarksBoundary ws (length (concat ws ++ v)) (length u) m → last_piece entries u ≡ Some (outline_of entries e) → IsHitMark m (length (outline_of entries e)) place →
    Ends entries words u v (outline_of entries e) z → (ns : List ℕ) → outlines_of entries ns ≡ ws ++ ended_word v z →
    Stays entries ns e place × (length (joined_strokes entries ns) ≡ length (concat ws ++ v) + length z)
stays_by_mark entries words ws u v None e place z is marks piece mark can ns same = absurd mark
stays_by_mark entries words ws u v (Some m) e place z is marks piece mark can ns same =
    let o : List ℕ = outline_of entries e in
    let y : List ℕ = concat ws ++ v in
    let i : ℕ = marks.1.0 in
    let wide : 0 < length (window entries y) = omega (arith, marks.0, ap length is) in
    let last : last_piece entries y ≡ Some o = sym (last_piece-window entries y wide) ∙ rw is at piece in
    let fits : length o ≤ length y = last_piece-short entries y o last in
    elim can [
      | inl h ↦
          let same' : outlines_of entries ns ≡ ws = same ∙ ap (λ l. ws ++ ended_word l z) h.0 ∙ append-nil ws in
          let joined : concat ws ≡ y = sym (append-nil (concat ws)) ∙ ap (λ l. concat ws ++ l) (sym h.0) in
          let no_more : y ++ z ≡ y = ap (λ l. y ++ l) h.1 ∙ append-nil y in
          let inside : i < length ws = elim (cases_lt i (length ws)) [
            | inl below ↦ below
            | inr past ↦ absurd (omega (arith, marks.1.3, mark.0, ap length joined, ap (λ l. length (concat l)) (take_all i ws past)))
          ] in (
            stays_made entries ws ns e place m i y z same' (joined ∙ sym no_more) (subst (λ l. HasPiece entries l o (length y - length o)) (sym no_more) (last_piece-at entries y o last)) fits marks.1.3 marks.1.1 inside mark,
            omega (arith, ap (λ l. length (concat l)) same', ap length joined, ap length h.1),
          )
      | inr h ↦
          let w : List ℕ = v ++ z in
          let vs : List (List ℕ) = ws ++ w ∷ [] in
          let same' : outlines_of entries ns ≡ vs = same ∙ ap (λ l. ws ++ l) (ended-some v z h.0) in
          let joined : concat vs ≡ y ++ z = concat-snoc ws w ∙ sym (append_assoc (concat ws) v z) in
          let front : take i vs ≡ take i ws = take-append-le i ws (w ∷ []) marks.1.2 in
          let is_entry_o : is_entry entries o ≡ true = outline_is_entry entries e (omega (arith, mark.1)) in
          let there : HasPiece entries (y ++ z) o (length y - length o) =
          (stays-window entries y o z last is_entry_o).1 (subst (λ l. HasPiece entries (l ++ z) o (length l - length o)) is h.2) in (
            stays_made entries vs ns e place m i y z same' joined there fits (omega (arith, ap (λ l. length (concat l)) front, marks.1.3)) marks.1.1 (omega (arith, marks.1.2, length_push ws w)) mark,
            omega (arith, ap (λ l. length (concat l)) same', ap length joined, length-append y z),
          )
    ]

-- The two ways in which a state finishes.
pub ends_of : (entries words : List (List ℕ)) (s : State) (o z : List ℕ) → CanFinish entries words s o z → Ends entries words s.u s.v o z
ends_of entries words s o z (inl k) = inl k
ends_of entries words s o z (inr k) = inr (k.0, k.1.word, k.1.piece)

pub settled_of_hit : (entries words : List (List ℕ)) (e place n : ℕ) (z : List ℕ) → AreWords entries words → IsReachedHit entries words e place n z → Made entries words e place (n + length z)
unfolding Made
settled_of_hit entries words e place n z are h =
    let s : State = h.state in
    let at = Reached-Walk entries words n s h.walk in
    let long : length (concat at.0 ++ s.v) ≡ n = at.1.strokes in
    let marks : MarksBoundary at.0 (length (concat at.0 ++ s.v)) (length s.u) s.mark = subst (λ k. MarksBoundary at.0 k (length s.u) s.mark) (sym long) at.1.marks in
    let can = ends_of entries words s (outline_of entries e) z h.can in
    let found = numbers_of entries words (at.0 ++ ended_word s.v z) are (ended_words entries words at.0 s.u s.v (outline_of entries e) z at.1.are_words can) in
    let made = stays_by_mark entries words at.0 s.u s.v s.mark e place z at.1.window marks h.hit.piece h.hit.mark can found.0 found.2 in
    (found.0, found.1, made.0, omega (arith, made.1, long))

-- ---- the law

pub Settled-hit : (entries words : List (List ℕ)) (e place : ℕ) → AreWords entries words →
    SettledPair entries words e place ↔ ((n : ℕ) × (z : List ℕ) × IsReachedHit entries words e place n z)
unfolding Made
Settled-hit entries words e place are = (
  λ h. let hit = hit_of_settled entries words h.ws e place are h.are_words h.stays in (hit.0, hit.1, hit.2),
  λ h. let made = settled_of_hit entries words e place h.0 h.1 are h.2 in record { ws = made.0; are_words = made.1; stays = made.2 },
)

least_hit : (entries words : List (List ℕ)) (e place n : ℕ) → AreWords entries words → IsLeastSettled entries words e place n → IsLeastReached entries words e place n
unfolding Made
least_hit entries words e place n are h =
    let hit = hit_of_settled entries words h.ws e place are h.are_words h.stays in
    let back = settled_of_hit entries words e place hit.0 hit.1 are hit.2 in
    let other : n ≤ length (joined_strokes entries back.0) = h.least back.0 back.1 back.2 in
    record {
      moves = hit.0;
      z = hit.1;
      is = hit.2;
      sum = omega (arith, hit.3, h.strokes, other, back.3);
      least = λ k y is.
          let made = settled_of_hit entries words e place k y are is in
          let fits : n ≤ length (joined_strokes entries made.0) = h.least made.0 made.1 made.2 in
          omega (arith, fits, made.3);
    }

least_settled : (entries words : List (List ℕ)) (e place n : ℕ) → AreWords entries words → IsLeastReached entries words e place n → IsLeastSettled entries words e place n
unfolding Made
least_settled entries words e place n are h =
    let made = settled_of_hit entries words e place h.moves h.z are h.is in
    record {
      ws = made.0;
      are_words = made.1;
      stays = made.2;
      strokes = made.3 ∙ h.sum;
      least = λ ns all stays.
          let hit = hit_of_settled entries words ns e place are all stays in
          let fits : n ≤ hit.0 + length hit.1 = h.least hit.0 hit.1 hit.2 in
          omega (arith, fits, hit.3);
    }

pub IsLeastSettled-hit : (entries words : List (List ℕ)) (e place n : ℕ) → AreWords entries words → IsLeastSettled entries words e place n ↔ IsLeastReached entries words e place n
IsLeastSettled-hit entries words e place n are = (least_hit entries words e place n are, least_settled entries words e place n are)

-- ---- by numbers

walk_of_number : (entries words : List (List ℕ)) (e place m n : ℕ) (z : List ℕ) → AreWords entries words → IsOpenNumber entries words e place m n z → IsReachedHit entries words e place n z
walk_of_number entries words e place m n z are h =
    let is = state_of_number-is entries words m h.state h.is in
    record {
      state = h.state;
      walk = walk_of_best entries words h.state n are is.0 (subst (λ k. IsBest 0 (kept_lists entries words) k n) (sym is.1) h.best);
      hit = h.hit;
      can = h.can;
    }

pub IsLeastReached-number : (entries words : List (List ℕ)) (table : List ℕ) (e place n : ℕ) → AreWords entries words → AreSettled 0 (kept_lists entries words) table →
    IsLeastReached entries words e place n ↔ IsLeastOpen entries words e place n
IsLeastReached-number entries words table e place n are settled = (
  λ h. record {
    number = state_number entries h.is.state;
    moves = h.moves;
    z = h.z;
    is = record {
      state = h.is.state;
      is = state_of_number-there entries words h.is.state are (IsState-Walk entries words h.moves h.is.state h.is.walk);
      hit = h.is.hit;
      best = best_of_walks entries words h.is.state h.moves are h.is.walk (λ k walk.
          let fits : n ≤ k + length h.z = h.least k h.z (record { state = h.is.state; walk = walk; hit = h.is.hit; can = h.is.can }) in
          omega (arith, fits, h.sum));
      can = h.is.can;
    };
    sum = h.sum;
    least = λ m k y other. h.least k y (walk_of_number entries words e place m k y are other);
  },
  λ h. record {
    moves = h.moves;
    z = h.z;
    is = walk_of_number entries words e place h.number h.moves h.z are h.is;
    sum = h.sum;
    least = λ k y other.
        let best = best_of_state entries words table k other.state are settled other.walk in
        let fits : n ≤ best.0 + length y = h.least (state_number entries other.state) best.0 y (record {
          state = other.state;
          is = state_of_number-there entries words other.state are (IsState-Walk entries words k other.state other.walk);
          hit = other.hit;
          best = best.2;
          can = other.can;
        }) in
        omega (arith, fits, best.1);
  },
)

pub IsLeastSettled-number : (entries words : List (List ℕ)) (table : List ℕ) (e place n : ℕ) → AreWords entries words → AreSettled 0 (kept_lists entries words) table →
    IsLeastSettled entries words e place n ↔ IsLeastOpen entries words e place n
IsLeastSettled-number entries words table e place n are settled =
    let law = IsLeastSettled-hit entries words e place n are in
    let numbers = IsLeastReached-number entries words table e place n are settled in
    (λ h. numbers.0 (law.0 h), λ h. law.1 (numbers.1 h))

-- what is shown stays
pub Stays-Shows : (entries : List (List ℕ)) (ws : List ℕ) (e place : ℕ) → Shows entries ws e place → Stays entries ws e place
Stays-Shows entries ws e place h = record {
  start = length (joined_strokes entries ws) - length (outline_of entries e);
  piece = last_piece-at entries (joined_strokes entries ws) (outline_of entries e) h.piece;
  after_start = h.after_start;
  before_end = h.before_end;
  boundary = h.boundary;
}

pub least_of_conflict : (entries words : List (List ℕ)) (e place n : ℕ) → IsLeast entries words e place n → SettledPair entries words e place × ((k : ℕ) → IsLeastSettled entries words e place k → k ≤ n)
least_of_conflict entries words e place n h =
    let stays = Stays-Shows entries h.ws e place h.shows in (
      record { ws = h.ws; are_words = h.are_words; stays = stays },
      λ k least. let fits : k ≤ length (joined_strokes entries h.ws) = least.least h.ws h.are_words stays in omega (arith, fits, h.strokes),
    )
