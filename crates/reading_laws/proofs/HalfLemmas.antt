-- How two readings go on by the moves of a walk of forks: at each fork they are readings of the strokes so far.
use Rattle.std.proofs.Common.{◌≡◌, ◌≢◌, ℕ, zero, suc, ◌+◌, ◌<◌, ◌≤◌, List, [], ◌∷◌, ◌++◌, length, take, filter, refl, sym, ap, subst, ◌∙◌, arith, Bool, true, false, true≢false, not, ◌&&◌, nat_eq, cond, if◌then◌else◌, Contains, inl, inr, length-append, append-nil}
use Rattle.std.specs.Bool.{⊤}
use Rattle.std.specs.List.{concat}
use Rattle.std.proofs.lemmas.Bool.Decides.{nat_tests}
use Rattle.std.proofs.lemmas.List.{length_push}
use Rattle.std.proofs.lemmas.List.Elements.{Contains-append_cases}
use Rattle.steno_rules.specs.Outlines.{is_word}
use Rattle.steno_rules.specs.Conflicts.{IsCut}
use Rattle.steno_rules.specs.States.{is_open, strokes_in}
use Rattle.steno_rules.proofs.Lists.{none_in_nil, in_cons, in_one, in_if}
use Rattle.closure_laws.proofs.StateLemmas.{drop_ends}
use Rattle.reading_laws.specs.Readings.{AreReadings, ComesFirst}
use Rattle.reading_laws.specs.Forks.{Fork, Same, Differ, End, targets_of_same, targets_of_two, fork_targets_by}
use Rattle.reading_laws.specs.ChosenReadings.{Halves, no_halves, end_word, longer_in, final_stroke, one_ended, halves_on, both_ended, last_strokes_by}
use Rattle.reading_laws.proofs.ForkLemmas.{Reads, reads_on, reads_ended, both}

-- ---- which reading is ahead

-- the first reading begins with a shorter word than the second, or the second has no whole word yet
abbrev pub IsAhead : List (List ℕ) → List (List ℕ) → Type 0
IsAhead [] ss = ⊥
IsAhead (w ∷ fs) [] = ⊤
IsAhead (w ∷ fs) (v ∷ ss) = length w < length v

-- it is still ahead with a word more,
ahead_first : (fs ss : List (List ℕ)) (w : List ℕ) → IsAhead fs ss → IsAhead (fs ++ w ∷ []) ss
ahead_first [] ss w h = absurd h
ahead_first (v ∷ fs) [] w h = tt
ahead_first (v ∷ fs) (u ∷ ss) w h = h

-- and where the other has a word more, if its first word is longer than all words of the first
ahead_second : (fs ss : List (List ℕ)) (w : List ℕ) → IsAhead fs ss → (ss ≡ [] → length (concat fs) < length w) → IsAhead fs (ss ++ w ∷ [])
ahead_second [] ss w h more = absurd h
ahead_second (v ∷ fs) [] w h more = omega (arith, more refl, length-append v (concat fs))
ahead_second (v ∷ fs) (u ∷ ss) w h more = h

-- the second reading's first word goes on to the stroke after all words of the first
second_ends : (words fs ss : List (List ℕ)) (p q x : List ℕ) (c : ℕ) → Reads words fs p x → Reads words ss q x → IsAhead fs ss → IsAhead fs (ss ++ (q ++ c ∷ []) ∷ [])
second_ends words fs ss p q x c h k ahead = ahead_second fs ss (q ++ c ∷ []) ahead (λ none.
    let whole : q ≡ x = ap (λ l. concat l ++ q) (sym none) ∙ k.joined in
    omega (arith, length_push q c, ap length whole, ap length h.joined, length-append (concat fs) p))

-- ---- two readings at a fork

-- the words that one of the readings has ended
abbrev pub words_in : Bool → Halves → List (List ℕ)
words_in true h = h.first
words_in false h = h.second

-- the readings of the strokes x are these words and the open words p and q, of which p is the longer
pub record AreHalves (words : List (List ℕ)) (x p q : List ℕ) (h : Halves) : Type 0 where
  pub longer : Reads words (words_in h.longer_is_first h) p x
  pub shorter : Reads words (words_in (not h.longer_is_first) h) q x
  pub lengths : length q < length p
  pub ahead : IsAhead h.first h.second

halves : List (List ℕ) → List (List ℕ) → Bool → Halves
halves fs ss b = record { first = fs; second = ss; longer_is_first = b }

-- both go on
both_on : (words : List (List ℕ)) (x p q : List ℕ) (h : Halves) (c : ℕ) → AreHalves words x p q h → is_open words (p ++ c ∷ []) ≡ true → is_open words (q ++ c ∷ []) ≡ true →
    AreHalves words (x ++ c ∷ []) (p ++ c ∷ []) (q ++ c ∷ []) h
both_on words x p q h c are a b = record {
  longer = reads_on words (words_in h.longer_is_first h) p x c are.longer a;
  shorter = reads_on words (words_in (not h.longer_is_first) h) q x c are.shorter b;
  lengths = omega (arith, are.lengths, length_push p c, length_push q c);
  ahead = are.ahead;
}

-- the shorter ends its word
shorter_ends : (words : List (List ℕ)) (x p q : List ℕ) (fs ss : List (List ℕ)) (b : Bool) (c : ℕ) → AreHalves words x p q (halves fs ss b) → is_open words (p ++ c ∷ []) ≡ true → is_word words (q ++ c ∷ []) ≡ true →
    AreHalves words (x ++ c ∷ []) (p ++ c ∷ []) [] (end_word (not b) (q ++ c ∷ []) (halves fs ss b))
unfolding halves
shorter_ends words x p q fs ss true c are opens ends = record {
  longer = reads_on words fs p x c are.longer opens;
  shorter = reads_ended words ss q x c are.shorter ends;
  lengths = omega (arith, length_push p c);
  ahead = second_ends words fs ss p q x c are.longer are.shorter are.ahead;
}
shorter_ends words x p q fs ss false c are opens ends = record {
  longer = reads_on words ss p x c are.longer opens;
  shorter = reads_ended words fs q x c are.shorter ends;
  lengths = omega (arith, length_push p c);
  ahead = ahead_first fs ss (q ++ c ∷ []) are.ahead;
}

-- the longer ends its word, and the other is the longer then
longer_ends : (words : List (List ℕ)) (x p q : List ℕ) (fs ss : List (List ℕ)) (b : Bool) (c : ℕ) → AreHalves words x p q (halves fs ss b) → is_word words (p ++ c ∷ []) ≡ true → is_open words (q ++ c ∷ []) ≡ true →
    AreHalves words (x ++ c ∷ []) (q ++ c ∷ []) [] (longer_in (not b) (end_word b (p ++ c ∷ []) (halves fs ss b)))
unfolding halves
longer_ends words x p q fs ss true c are ends opens = record {
  longer = reads_on words ss q x c are.shorter opens;
  shorter = reads_ended words fs p x c are.longer ends;
  lengths = omega (arith, length_push q c);
  ahead = ahead_first fs ss (p ++ c ∷ []) are.ahead;
}
longer_ends words x p q fs ss false c are ends opens = record {
  longer = reads_on words fs q x c are.shorter opens;
  shorter = reads_ended words ss p x c are.longer ends;
  lengths = omega (arith, length_push q c);
  ahead = second_ends words fs ss q p x c are.shorter are.longer are.ahead;
}

-- ---- one move

-- what is read at a fork
abbrev pub IsRead : List (List ℕ) → List ℕ → Fork → Halves → Type 0
IsRead words x (Same p) h = (p ≡ x) × (h ≡ no_halves)
IsRead words x (Differ p q) h = AreHalves words x p q h
IsRead words x End h = ⊤

-- The last stroke of a list with one more.
pub final_stroke-push : (p : List ℕ) (c : ℕ) → final_stroke (p ++ c ∷ []) ≡ c ∷ []
final_stroke-push p c = drop_ends [] p (p ++ c ∷ []) (c ∷ []) refl (omega (arith, length_push p c))

not_empty : (q : List ℕ) (c : ℕ) (p v : List ℕ) (h : Halves) → halves_on (Differ p q) (Differ v (q ++ c ∷ [])) h ≡ h
not_empty q c p v h = by q
  where
    by : (r : List ℕ) → halves_on (Differ p q) (Differ v (r ++ c ∷ [])) h ≡ h
    by [] = refl
    by (d ∷ r) = refl

same_test : (n m : ℕ) → n ≡ m → nat_eq n m ≡ true
same_test n m e = grind (arith, nat_tests)

other_test : (n m : ℕ) → n < m → nat_eq n m ≡ false
other_test n m l = grind (arith, nat_tests)

-- the shorter has ended, as the length of w tells
on_shorter : (p q : List ℕ) (c : ℕ) (h : Halves) → one_ended p q (p ++ c ∷ []) h ≡ end_word (not h.longer_is_first) (q ++ c ∷ []) h
on_shorter p q c h = rw (same_test (length (p ++ c ∷ [])) (length p + 1) (length_push p c), final_stroke-push p c) refl

-- the longer has ended
on_longer : (p q : List ℕ) (c : ℕ) (h : Halves) → length q < length p → one_ended p q (q ++ c ∷ []) h ≡ longer_in (not h.longer_is_first) (end_word h.longer_is_first (p ++ c ∷ []) h)
on_longer p q c h l = rw (other_test (length (q ++ c ∷ [])) (length p + 1) (omega (arith, l, length_push q c)), final_stroke-push q c) refl

-- from a fork of one open word
read_on_same : (words : List (List ℕ)) (x p : List ℕ) (h : Halves) (c : ℕ) (t : Fork) → p ≡ x → h ≡ no_halves → Contains (targets_of_same words (p ++ c ∷ [])) t → t ≢ Same [] → IsRead words (x ++ c ∷ []) t (halves_on (Same p) t h)
read_on_same words x p h c t is none move some =
    let w : List ℕ = p ++ c ∷ [] in
    let same : w ≡ x ++ c ∷ [] = ap (λ l. l ++ c ∷ []) is in
    elim (Contains-append_cases (if is_open words w then (Same w ∷ []) else []) _ t move) [
      | inl on ↦
          let k = in_if (is_open words w) _ t on in
          subst (λ r. IsRead words (x ++ c ∷ []) r (halves_on (Same p) r h)) (in_one (Same w) t k.1) (same, none)
      | inr rest ↦ elim (Contains-append_cases (if is_word words w then (Same [] ∷ []) else []) _ t rest) [
        | inl off ↦ absurd (some (sym (in_one (Same []) t (in_if (is_word words w) _ t off).1)))
        | inr two ↦
            let k = in_if (is_open words w && is_word words w) _ t two in
            let tests = both (is_open words w) (is_word words w) k.0 in
            let made : AreHalves words (x ++ c ∷ []) w [] (record { first = w ∷ []; second = []; longer_is_first = false }) = record {
              longer = record { all = tt; open_word = tests.0; joined = same };
              shorter = record { all = (tests.1, tt); open_word = refl; joined = append-nil (w ++ []) ∙ append-nil w ∙ same };
              lengths = omega (arith, length_push p c);
              ahead = tt;
            } in
            subst (λ r. IsRead words (x ++ c ∷ []) r (halves_on (Same p) r h)) (in_one (Differ w []) t k.1)
            (subst (λ (l : Halves). AreHalves words (x ++ c ∷ []) w [] (longer_in false (end_word true w l))) (sym none) made)
      ]
    ]

-- from a fork of two
read_on_two : (words : List (List ℕ)) (x p q : List ℕ) (h : Halves) (c : ℕ) (t : Fork) → AreHalves words x p q h → Contains (targets_of_two words (p ++ c ∷ []) (q ++ c ∷ [])) t → IsRead words (x ++ c ∷ []) t (halves_on (Differ p q) t h)
unfolding halves
read_on_two words x p q h c t are move =
    let v : List ℕ = p ++ c ∷ [] in
    let w : List ℕ = q ++ c ∷ [] in
    let y : List ℕ = x ++ c ∷ [] in
    elim (Contains-append_cases (if is_open words v && is_open words w then (Differ v w ∷ []) else []) _ t move) [
      | inl on ↦
          let k = in_if (is_open words v && is_open words w) _ t on in
          let tests = both (is_open words v) (is_open words w) k.0 in
          subst (λ r. IsRead words y r (halves_on (Differ p q) r h)) (in_one (Differ v w) t k.1)
          (subst (AreHalves words y v w) (sym (not_empty q c p v h)) (both_on words x p q h c are tests.0 tests.1))
      | inr rest ↦ elim (Contains-append_cases (if is_open words v && is_word words w then (Differ v [] ∷ []) else []) _ t rest) [
        | inl second ↦
            let k = in_if (is_open words v && is_word words w) _ t second in
            let tests = both (is_open words v) (is_word words w) k.0 in
            subst (λ r. IsRead words y r (halves_on (Differ p q) r h)) (in_one (Differ v []) t k.1)
            (subst (AreHalves words y v []) (sym (on_shorter p q c h)) (shorter_ends words x p q h.first h.second h.longer_is_first c are tests.0 tests.1))
        | inr last ↦ elim (Contains-append_cases (if is_open words w && is_word words v then (Differ w [] ∷ []) else []) _ t last) [
          | inl first ↦
              let k = in_if (is_open words w && is_word words v) _ t first in
              let tests = both (is_open words w) (is_word words v) k.0 in
              subst (λ r. IsRead words y r (halves_on (Differ p q) r h)) (in_one (Differ w []) t k.1)
              (subst (AreHalves words y w []) (sym (on_longer p q c h are.lengths)) (longer_ends words x p q h.first h.second h.longer_is_first c are tests.1 tests.0))
          | inr end ↦
              let k = in_if (is_word words v && is_word words w) _ t end in
              subst (λ r. IsRead words y r (halves_on (Differ p q) r h)) (in_one End t k.1) tt
        ]
      ]
    ]

-- A move goes on with what is read, where it doesn't lead back to the start.
pub read_on : (words : List (List ℕ)) (x : List ℕ) (s t : Fork) (h : Halves) (c : ℕ) → IsRead words x s h → Contains (fork_targets_by words s c) t → t ≢ Same [] → IsRead words (x ++ c ∷ []) t (halves_on s t h)
read_on words x (Same p) t h c is move some = read_on_same words x p h c t is.0 is.1 move some
read_on words x (Differ p q) t h c is move some = read_on_two words x p q h c t is move
read_on words x End t h c is move some = absurd (none_in_nil t move)

-- ---- the end

-- the first word of some, and how many strokes any of them have
first_within : (i : ℕ) (w : List ℕ) (ws : List (List ℕ)) → 0 < i → length w ≤ length (concat (take i (w ∷ ws)))
first_within zero w ws some = absurd (omega (arith, some))
first_within (suc i) w ws some = omega (arith, length-append w (concat (take i ws)))

-- a boundary lies behind the first word
cut_behind : (w : List ℕ) (ws : List (List ℕ)) (n : ℕ) → IsCut (w ∷ ws) n → length w ≤ n
cut_behind w ws n h = omega (arith, first_within h.0 w ws h.1, h.3)

-- two lists that go on after a shorter first word
first_cut : (w v : List ℕ) (fs ss : List (List ℕ)) → concat (w ∷ fs) ≡ concat (v ∷ ss) → length w < length v → ComesFirst (w ∷ fs) (v ∷ ss)
first_cut w v [] ss same shorter = absurd (omega (arith, ap length same, length-append w [], length-append v (concat ss), shorter))
first_cut w v (u ∷ fs) ss same shorter = record {
  place = length w;
  here = (1, omega arith, omega arith, sym (ap length (append-nil w)));
  not_there = λ h. let far = cut_behind v ss (length w) h in omega (arith, far, shorter);
  least = λ n below. (
    λ h. let far = cut_behind w (u ∷ fs) n h in absurd (omega (arith, far, below)),
    λ h. let far = cut_behind v ss n h in absurd (omega (arith, far, below, shorter)),
  );
}

-- The two whole readings, of which the first comes first.
pub record AreBoth (words : List (List ℕ)) (y : List ℕ) (h : Halves) : Type 0 where
  pub are : AreReadings words h.first h.second
  pub joined : concat h.first ≡ y
  pub in_order : ComesFirst h.first h.second

both_whole : (words fs ss : List (List ℕ)) (y : List ℕ) (b : Bool) → Reads words fs [] y → Reads words ss [] y → IsAhead fs ss → ss ≢ [] → AreBoth words y (halves fs ss b)
unfolding halves
both_whole words [] ss y b h k ahead some = absurd ahead
both_whole words (w ∷ fs) [] y b h k ahead some = absurd (some refl)
both_whole words (w ∷ fs) (v ∷ ss) y b h k ahead some =
    let first : concat (w ∷ fs) ≡ y = sym (append-nil (concat (w ∷ fs))) ∙ h.joined in
    let second : concat (v ∷ ss) ≡ y = sym (append-nil (concat (v ∷ ss))) ∙ k.joined in
    record {
      are = record {
        first = h.all;
        second = k.all;
        same = first ∙ sym second;
        differ = λ e. let one : w ≡ v = cc in omega (arith, ap length one, ahead);
      };
      joined = first;
      in_order = first_cut w v fs ss (first ∙ sym second) ahead;
    }

push_some : (ss : List (List ℕ)) (w : List ℕ) → ss ++ w ∷ [] ≢ []
push_some [] w e = true≢false cc
push_some (v ∷ ss) w e = true≢false cc

both_ends : (words : List (List ℕ)) (x p q : List ℕ) (fs ss : List (List ℕ)) (b : Bool) (c : ℕ) → AreHalves words x p q (halves fs ss b) → is_word words (p ++ c ∷ []) ≡ true → is_word words (q ++ c ∷ []) ≡ true →
    AreBoth words (x ++ c ∷ []) (end_word b (p ++ c ∷ []) (end_word (not b) (q ++ c ∷ []) (halves fs ss b)))
unfolding halves
both_ends words x p q fs ss true c are a b =
    both_whole words (fs ++ (p ++ c ∷ []) ∷ []) (ss ++ (q ++ c ∷ []) ∷ []) (x ++ c ∷ []) true (reads_ended words fs p x c are.longer a) (reads_ended words ss q x c are.shorter b)
    (ahead_first fs (ss ++ (q ++ c ∷ []) ∷ []) (p ++ c ∷ []) (second_ends words fs ss p q x c are.longer are.shorter are.ahead)) (push_some ss (q ++ c ∷ []))
both_ends words x p q fs ss false c are a b =
    both_whole words (fs ++ (q ++ c ∷ []) ∷ []) (ss ++ (p ++ c ∷ []) ∷ []) (x ++ c ∷ []) false (reads_ended words fs q x c are.shorter b) (reads_ended words ss p x c are.longer a)
    (ahead_first fs (ss ++ (p ++ c ∷ []) ∷ []) (q ++ c ∷ []) (second_ends words fs ss q p x c are.shorter are.longer are.ahead)) (push_some ss (p ++ c ∷ []))

-- the first that passes a test, where some one does
first_passing : (f : ℕ → Bool) (xs : List ℕ) (c : ℕ) → Contains xs c → f c ≡ true → (d : ℕ) × (take 1 (filter f xs) ≡ d ∷ []) × (f d ≡ true)
first_passing f [] c has passes = absurd (none_in_nil c has)
first_passing f (x ∷ xs) c has passes = by (f x) refl (λ later. first_passing f xs c later passes)
  where
    by : (b : Bool) → f x ≡ b → (Contains xs c → (d : ℕ) × (take 1 (filter f xs) ≡ d ∷ []) × (f d ≡ true)) → (d : ℕ) × (take 1 (cond b (x ∷ filter f xs) (filter f xs)) ≡ d ∷ []) × (f d ≡ true)
    by true is rest = (x, refl, is)
    by false is rest = elim (in_cons x xs c has) [
      | inl same ↦ absurd (true≢false (sym passes ∙ ap f (sym same) ∙ is))
      | inr later ↦ rest later
    ]

-- only a fork of two leads to the end
no_end_of_same : (words : List (List ℕ)) (w : List ℕ) → Contains (targets_of_same words w) End → ⊥
no_end_of_same words w h = elim (Contains-append_cases (if is_open words w then (Same w ∷ []) else []) _ End h) [
  | inl on ↦ same_or_end w (in_one (Same w) End (in_if (is_open words w) _ End on).1)
  | inr rest ↦ elim (Contains-append_cases (if is_word words w then (Same [] ∷ []) else []) _ End rest) [
    | inl off ↦ same_or_end [] (in_one (Same []) End (in_if (is_word words w) _ End off).1)
    | inr two ↦ two_or_end w [] (in_one (Differ w []) End (in_if (is_open words w && is_word words w) _ End two).1)
  ]
]
  where
    same_or_end : (p : List ℕ) → Same p ≡ End → ⊥
    same_or_end p e = true≢false cc

    two_or_end : (p q : List ℕ) → Differ p q ≡ End → ⊥
    two_or_end p q e = true≢false cc

words_of_end : (words : List (List ℕ)) (v w : List ℕ) → Contains (targets_of_two words v w) End → (is_word words v && is_word words w) ≡ true
words_of_end words v w h = elim (Contains-append_cases (if is_open words v && is_open words w then (Differ v w ∷ []) else []) _ End h) [
  | inl on ↦ absurd (two_or_end v w (in_one (Differ v w) End (in_if (is_open words v && is_open words w) _ End on).1))
  | inr rest ↦ elim (Contains-append_cases (if is_open words v && is_word words w then (Differ v [] ∷ []) else []) _ End rest) [
    | inl second ↦ absurd (two_or_end v [] (in_one (Differ v []) End (in_if (is_open words v && is_word words w) _ End second).1))
    | inr last ↦ elim (Contains-append_cases (if is_open words w && is_word words v then (Differ w [] ∷ []) else []) _ End last) [
      | inl first ↦ absurd (two_or_end w [] (in_one (Differ w []) End (in_if (is_open words w && is_word words v) _ End first).1))
      | inr end ↦ (in_if (is_word words v && is_word words w) _ End end).0
    ]
  ]
]
  where
    two_or_end : (p q : List ℕ) → Differ p q ≡ End → ⊥
    two_or_end p q e = true≢false cc

-- Where a fork leads to the end, the readings end by the least stroke that does.
pub read_end : (words : List (List ℕ)) (x : List ℕ) (s : Fork) (h : Halves) (c : ℕ) → IsRead words x s h → Contains (strokes_in words) c → Contains (fork_targets_by words s c) End →
    (y : List ℕ) × (length y ≡ length x + 1) × AreBoth words y (both_ended s (last_strokes_by words s) h)
unfolding halves
read_end words x (Same p) h c is has move = absurd (no_end_of_same words (p ++ c ∷ []) move)
read_end words x (Differ p q) h c is has move =
    let f : ℕ → Bool = λ d. is_word words (p ++ d ∷ []) && is_word words (q ++ d ∷ []) in
    let found = first_passing f (strokes_in words) c has (words_of_end words (p ++ c ∷ []) (q ++ c ∷ []) move) in
    let tests = both (is_word words (p ++ found.0 ∷ [])) (is_word words (q ++ found.0 ∷ [])) found.2 in (
      x ++ found.0 ∷ [],
      length_push x found.0,
      subst (λ e. AreBoth words (x ++ found.0 ∷ []) (both_ended (Differ p q) e h)) (sym found.1) (both_ends words x p q h.first h.second h.longer_is_first found.0 is tests.0 tests.1),
    )
read_end words x End h c is has move = absurd (none_in_nil End move)
