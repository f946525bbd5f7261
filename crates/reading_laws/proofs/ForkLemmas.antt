-- The walks to the end, and two readings.
use Rattle.std.proofs.Common.{◌≡◌, ℕ, zero, suc, ◌<◌, ◌≤◌, List, [], ◌∷◌, ◌++◌, length, refl, sym, ap, ap₂, subst, ◌∙◌, arith, Bool, true, true≢false, ◌&&◌, if◌then◌else◌, Decides, Contains, ◌⊎◌, inl, inr, append_assoc, append-nil, ◌↔◌}
use Rattle.std.specs.List.{concat}
use Rattle.std.proofs.lemmas.Bool.Decides.{Decides-and}
use Rattle.std.proofs.lemmas.List.{length_push}
use Rattle.std.proofs.lemmas.List.Elements.{Contains-append_cases, Contains-append_left, Contains-append_right}
use Rattle.steno_rules.specs.Outlines.{is_word, AreWords}
use Rattle.steno_rules.specs.States.{is_open}
use Rattle.reading_laws.specs.Readings.{AllWords, AreReadings, IsFree, IsLeastTwo}
use Rattle.reading_laws.specs.Forks.{Fork, Same, Differ, End, targets_of_same, targets_of_two, fork_targets_by, ForkWalk, IsLeastEnd}
use Rattle.steno_rules.proofs.Lists.{none_in_nil, in_one, in_first, in_if, in_if_true, unsnoc, All-snoc, All-unsnoc}
use Rattle.steno_rules.proofs.Words.{word_not_empty, open_front, open_in_word}
use Rattle.closure_laws.proofs.WordsOfWalks.{concat-snoc}

module _ {X : Type 0} where
  snoc_some : (ys : List X) (b : X) → [] ≡ ys ++ b ∷ [] → ⊥
  snoc_some [] b e = true≢false cc
  snoc_some (y ∷ ys) b e = true≢false cc

  snoc_same : (xs ys : List X) (a b : X) → xs ++ a ∷ [] ≡ ys ++ b ∷ [] → (xs ≡ ys) × (a ≡ b)
  snoc_same [] [] a b e = (refl, cc)
  snoc_same [] (y ∷ ys) a b e = let rest : [] ≡ ys ++ b ∷ [] = cc in absurd (snoc_some ys b rest)
  snoc_same (x ∷ xs) [] a b e = let rest : [] ≡ xs ++ a ∷ [] = cc in absurd (snoc_some xs a rest)
  snoc_same (x ∷ xs) (y ∷ ys) a b e =
      let first : x ≡ y = cc in
      let rest : xs ++ a ∷ [] ≡ ys ++ b ∷ [] = cc in
      let same = snoc_same xs ys a b rest in
      (ap₂ (λ z l. z ∷ l) first same.0, same.1)

pub both : (a b : Bool) → (a && b) ≡ true → (a ≡ true) × (b ≡ true)
both a b h = (Decides-and _ _ (itself a) (itself b)).0 h
  where
    itself : (b : Bool) → Decides b (b ≡ true)
    itself b = (λ h. h, λ h. h)

pub both_true : (a b : Bool) → a ≡ true → b ≡ true → (a && b) ≡ true
both_true a b h k = rw (h, k) refl

-- ---- readings with an open word

-- the words ws and the open word p are the strokes x
pub record Reads (words ws : List (List ℕ)) (p x : List ℕ) : Type 0 where
  pub all : AllWords words ws
  pub open_word : is_open words p ≡ true
  pub joined : concat ws ++ p ≡ x

pub reads_on : (words ws : List (List ℕ)) (p x : List ℕ) (c : ℕ) → Reads words ws p x → is_open words (p ++ c ∷ []) ≡ true → Reads words ws (p ++ c ∷ []) (x ++ c ∷ [])
reads_on words ws p x c h opens = record { all = h.all; open_word = opens; joined = sym (append_assoc (concat ws) p (c ∷ [])) ∙ ap (λ l. l ++ c ∷ []) h.joined }

pub reads_ended : (words ws : List (List ℕ)) (p x : List ℕ) (c : ℕ) → Reads words ws p x → is_word words (p ++ c ∷ []) ≡ true → Reads words (ws ++ (p ++ c ∷ []) ∷ []) [] (x ++ c ∷ [])
reads_ended words ws p x c h word = record {
  all = All-snoc (λ w. is_word words w ≡ true) ws (p ++ c ∷ []) h.all word;
  open_word = refl;
  joined = append-nil _ ∙ concat-snoc ws (p ++ c ∷ []) ∙ sym (append_assoc (concat ws) p (c ∷ [])) ∙ ap (λ l. l ++ c ∷ []) h.joined;
}

-- ---- from walks to readings

-- what a pair stands for after n strokes
unfoldable pub Stands : List (List ℕ) → ℕ → Fork → Type 0
Stands words n (Same p) = (x : List ℕ) × (length x ≡ n) × ((ws : List (List ℕ)) × Reads words ws p x)
Stands words n (Differ p q) = (x : List ℕ) × (length x ≡ n) × (length q < length p) × ((ws : List (List ℕ)) × Reads words ws p x) × ((ws : List (List ℕ)) × Reads words ws q x)
Stands words n End = (xs : List (List ℕ)) × (ys : List (List ℕ)) × AreReadings words xs ys × (length (concat xs) ≡ n)

more : (x : List ℕ) (c : ℕ) (n : ℕ) → length x ≡ n → length (x ++ c ∷ []) ≡ suc n
more x c n long = omega (arith, length_push x c, long)

same_moves : (words : List (List ℕ)) (n : ℕ) (p : List ℕ) (c : ℕ) (t : Fork) → Stands words n (Same p) → Contains (targets_of_same words (p ++ c ∷ [])) t → Stands words (suc n) t
unfolding Stands
same_moves words n p c t h move =
    let w : List ℕ = p ++ c ∷ [] in
    let x : List ℕ = h.0 ++ c ∷ [] in
    let long : length x ≡ suc n = more h.0 c n h.1 in
    let ws : List (List ℕ) = h.2.0 in
    elim (Contains-append_cases (if is_open words w then (Same w ∷ []) else []) _ t move) [
      | inl on ↦
          let k = in_if (is_open words w) _ t on in
          subst (Stands words (suc n)) (in_one (Same w) t k.1) (x, long, (ws, reads_on words ws p h.0 c h.2.1 k.0))
      | inr rest ↦ elim (Contains-append_cases (if is_word words w then (Same [] ∷ []) else []) _ t rest) [
        | inl off ↦
            let k = in_if (is_word words w) _ t off in
            subst (Stands words (suc n)) (in_one (Same []) t k.1) (x, long, (ws ++ w ∷ [], reads_ended words ws p h.0 c h.2.1 k.0))
        | inr two ↦
            let k = in_if (is_open words w && is_word words w) _ t two in
            let tests = both (is_open words w) (is_word words w) k.0 in
            subst (Stands words (suc n)) (in_one (Differ w []) t k.1)
            (x, long, omega (arith, length_push p c), (ws, reads_on words ws p h.0 c h.2.1 tests.0), (ws ++ w ∷ [], reads_ended words ws p h.0 c h.2.1 tests.1))
      ]
    ]

two_moves : (words : List (List ℕ)) (n : ℕ) (p q : List ℕ) (c : ℕ) (t : Fork) → Stands words n (Differ p q) → Contains (targets_of_two words (p ++ c ∷ []) (q ++ c ∷ [])) t → Stands words (suc n) t
unfolding Stands
two_moves words n p q c t h move =
    let v : List ℕ = p ++ c ∷ [] in
    let w : List ℕ = q ++ c ∷ [] in
    let x : List ℕ = h.0 ++ c ∷ [] in
    let long : length x ≡ suc n = more h.0 c n h.1 in
    let xs : List (List ℕ) = h.3.0 in
    let ys : List (List ℕ) = h.4.0 in
    elim (Contains-append_cases (if is_open words v && is_open words w then (Differ v w ∷ []) else []) _ t move) [
      | inl on ↦
          let k = in_if (is_open words v && is_open words w) _ t on in
          let tests = both (is_open words v) (is_open words w) k.0 in
          subst (Stands words (suc n)) (in_one (Differ v w) t k.1)
          (x, long, omega (arith, h.2, length_push p c, length_push q c), (xs, reads_on words xs p h.0 c h.3.1 tests.0), (ys, reads_on words ys q h.0 c h.4.1 tests.1))
      | inr rest ↦ elim (Contains-append_cases (if is_open words v && is_word words w then (Differ v [] ∷ []) else []) _ t rest) [
        | inl second ↦
            let k = in_if (is_open words v && is_word words w) _ t second in
            let tests = both (is_open words v) (is_word words w) k.0 in
            subst (Stands words (suc n)) (in_one (Differ v []) t k.1)
            (x, long, omega (arith, length_push p c), (xs, reads_on words xs p h.0 c h.3.1 tests.0), (ys ++ w ∷ [], reads_ended words ys q h.0 c h.4.1 tests.1))
        | inr last ↦ elim (Contains-append_cases (if is_open words w && is_word words v then (Differ w [] ∷ []) else []) _ t last) [
          | inl first ↦
              let k = in_if (is_open words w && is_word words v) _ t first in
              let tests = both (is_open words w) (is_word words v) k.0 in
              subst (Stands words (suc n)) (in_one (Differ w []) t k.1)
              (x, long, omega (arith, length_push q c), (ys, reads_on words ys q h.0 c h.4.1 tests.0), (xs ++ v ∷ [], reads_ended words xs p h.0 c h.3.1 tests.1))
          | inr end ↦
              let k = in_if (is_word words v && is_word words w) _ t end in
              let tests = both (is_word words v) (is_word words w) k.0 in
              let first = reads_ended words xs p h.0 c h.3.1 tests.0 in
              let second = reads_ended words ys q h.0 c h.4.1 tests.1 in
              let all : concat (xs ++ v ∷ []) ≡ x = sym (append-nil _) ∙ first.joined in
              subst (Stands words (suc n)) (in_one End t k.1) (
                xs ++ v ∷ [],
                ys ++ w ∷ [],
                record {
                  first = first.all;
                  second = second.all;
                  same = all ∙ sym (sym (append-nil _) ∙ second.joined);
                  differ = λ e. let last = snoc_same xs ys v w e in omega (arith, ap length last.1, h.2, length_push p c, length_push q c);
                },
                ap length all ∙ long,
              )
        ]
      ]
    ]

fork_move : (words : List (List ℕ)) (n : ℕ) (s t : Fork) (c : ℕ) → Stands words n s → Contains (fork_targets_by words s c) t → Stands words (suc n) t
fork_move words n (Same p) t c h move = same_moves words n p c t h move
fork_move words n (Differ p q) t c h move = two_moves words n p q c t h move
fork_move words n End t c h move = absurd (none_in_nil t move)

pub stands_walk : (words : List (List ℕ)) (n : ℕ) (t : Fork) → ForkWalk words n t → Stands words n t
unfolding Stands
stands_walk words zero t walk = subst (Stands words 0) (sym walk) ([], refl, ([], record { all = tt; open_word = refl; joined = refl }))
stands_walk words (suc n) t walk = fork_move words n walk.0 t walk.2.0 (stands_walk words n walk.0 walk.1) walk.2.1

-- ---- from readings to walks

-- how a reading comes from one of the strokes before: the open word goes on, or it ends
How : List (List ℕ) → List (List ℕ) → List ℕ → List (List ℕ) → List ℕ → ℕ → Type 0
How words ws p vs q c =
    ((p ≡ q ++ c ∷ []) × (ws ≡ vs) × (is_open words (q ++ c ∷ []) ≡ true)) ⊎ ((p ≡ []) × (ws ≡ vs ++ (q ++ c ∷ []) ∷ []) × (is_word words (q ++ c ∷ []) ≡ true))

record IsBefore (words ws : List (List ℕ)) (p x : List ℕ) (c : ℕ) : Type 0 where
  pub vs : List (List ℕ)
  pub q : List ℕ
  pub reads : Reads words vs q x
  pub how : How words ws p vs q c

open_before : (words ws : List (List ℕ)) (q x : List ℕ) (c d : ℕ) → Reads words ws (q ++ d ∷ []) (x ++ c ∷ []) → IsBefore words ws (q ++ d ∷ []) x c
unfolding How
open_before words ws q x c d h =
    let same = snoc_same (concat ws ++ q) x d c (append_assoc (concat ws) q (d ∷ []) ∙ h.joined) in
    record {
      vs = ws;
      q = q;
      reads = record { all = h.all; open_word = open_front words q d h.open_word; joined = same.0 };
      how = inl (ap (λ e. q ++ e ∷ []) same.1, refl, subst (λ e. is_open words (q ++ e ∷ []) ≡ true) same.1 h.open_word);
    }

ended_before : (words vs : List (List ℕ)) (q x : List ℕ) (c d : ℕ) → Reads words (vs ++ (q ++ d ∷ []) ∷ []) [] (x ++ c ∷ []) → IsBefore words (vs ++ (q ++ d ∷ []) ∷ []) [] x c
unfolding How
ended_before words vs q x c d h =
    let parts = All-unsnoc (λ w. is_word words w ≡ true) vs (q ++ d ∷ []) h.all in
    let all : (concat vs ++ q) ++ d ∷ [] ≡ x ++ c ∷ [] = append_assoc (concat vs) q (d ∷ []) ∙ sym (concat-snoc vs (q ++ d ∷ [])) ∙ sym (append-nil _) ∙ h.joined in
    let same = snoc_same (concat vs ++ q) x d c all in
    record {
      vs = vs;
      q = q;
      reads = record { all = parts.0; open_word = open_in_word words q d parts.1; joined = same.0 };
      how = inr (refl, ap (λ e. vs ++ (q ++ e ∷ []) ∷ []) same.1, subst (λ e. is_word words (q ++ e ∷ []) ≡ true) same.1 parts.1);
    }

word_before : (words vs : List (List ℕ)) (w x : List ℕ) (c : ℕ) → (is_word words [] ≡ true → ⊥) → Reads words (vs ++ w ∷ []) [] (x ++ c ∷ []) → IsBefore words (vs ++ w ∷ []) [] x c
word_before words vs [] x c some h = absurd (some (All-unsnoc (λ w. is_word words w ≡ true) vs [] h.all).1)
word_before words vs (d ∷ w) x c some h =
    let split = unsnoc d w in
    subst (λ l. IsBefore words (vs ++ l ∷ []) [] x c) (sym split.2) (ended_before words vs split.0 x c split.1 (subst (λ l. Reads words (vs ++ l ∷ []) [] (x ++ c ∷ [])) split.2 h))

reads_before : (words ws : List (List ℕ)) (p x : List ℕ) (c : ℕ) → (is_word words [] ≡ true → ⊥) → Reads words ws p (x ++ c ∷ []) → IsBefore words ws p x c
reads_before words ws (d ∷ p) x c some h =
    let split = unsnoc d p in
    subst (λ l. IsBefore words ws l x c) (sym split.2) (open_before words ws split.0 x c split.1 (subst (λ l. Reads words ws l (x ++ c ∷ [])) split.2 h))
reads_before words [] [] x c some h = absurd (snoc_some x c h.joined)
reads_before words (w ∷ ws) [] x c some h =
    let split = unsnoc w ws in
    subst (λ l. IsBefore words l [] x c) (sym split.2) (word_before words split.0 split.1 x c some (subst (λ l. Reads words l [] (x ++ c ∷ [])) split.2 h))

-- ---- moves

by_same : (words : List (List ℕ)) (n : ℕ) (p : List ℕ) (c : ℕ) (t : Fork) → ForkWalk words n (Same p) → Contains (targets_of_same words (p ++ c ∷ [])) t → ForkWalk words (suc n) t
by_same words n p c t walk move = (Same p, walk, (c, move))

by_two : (words : List (List ℕ)) (n : ℕ) (p q : List ℕ) (c : ℕ) (t : Fork) → ForkWalk words n (Differ p q) → Contains (targets_of_two words (p ++ c ∷ []) (q ++ c ∷ [])) t → ForkWalk words (suc n) t
by_two words n p q c t walk move = (Differ p q, walk, (c, move))

one_if : (b : Bool) (t : Fork) → b ≡ true → Contains (if b then (t ∷ []) else []) t
one_if b t h = in_if_true b (t ∷ []) t h (in_first t [])

same_on : (words : List (List ℕ)) (w : List ℕ) → is_open words w ≡ true → Contains (targets_of_same words w) (Same w)
same_on words w h = Contains-append_left (if is_open words w then (Same w ∷ []) else []) _ (Same w) (one_if (is_open words w) (Same w) h)

same_end : (words : List (List ℕ)) (w : List ℕ) → is_word words w ≡ true → Contains (targets_of_same words w) (Same [])
same_end words w h =
    Contains-append_right (if is_open words w then (Same w ∷ []) else []) _ (Same [])
    (Contains-append_left (if is_word words w then (Same [] ∷ []) else []) (if is_open words w && is_word words w then (Differ w [] ∷ []) else []) (Same []) (one_if (is_word words w) (Same []) h))

same_part : (words : List (List ℕ)) (w : List ℕ) → is_open words w ≡ true → is_word words w ≡ true → Contains (targets_of_same words w) (Differ w [])
same_part words w h k =
    Contains-append_right (if is_open words w then (Same w ∷ []) else []) _ (Differ w [])
    (Contains-append_right (if is_word words w then (Same [] ∷ []) else []) (if is_open words w && is_word words w then (Differ w [] ∷ []) else []) (Differ w [])
    (one_if (is_open words w && is_word words w) (Differ w []) (both_true (is_open words w) (is_word words w) h k)))

two_on : (words : List (List ℕ)) (v w : List ℕ) → is_open words v ≡ true → is_open words w ≡ true → Contains (targets_of_two words v w) (Differ v w)
two_on words v w h k =
    Contains-append_left (if is_open words v && is_open words w then (Differ v w ∷ []) else []) _ (Differ v w) (one_if (is_open words v && is_open words w) (Differ v w) (both_true (is_open words v) (is_open words w) h k))

two_second : (words : List (List ℕ)) (v w : List ℕ) → is_open words v ≡ true → is_word words w ≡ true → Contains (targets_of_two words v w) (Differ v [])
two_second words v w h k =
    Contains-append_right (if is_open words v && is_open words w then (Differ v w ∷ []) else []) _ (Differ v [])
    (Contains-append_left (if is_open words v && is_word words w then (Differ v [] ∷ []) else []) _ (Differ v []) (one_if (is_open words v && is_word words w) (Differ v []) (both_true (is_open words v) (is_word words w) h k)))

two_first : (words : List (List ℕ)) (v w : List ℕ) → is_open words w ≡ true → is_word words v ≡ true → Contains (targets_of_two words v w) (Differ w [])
two_first words v w h k =
    Contains-append_right (if is_open words v && is_open words w then (Differ v w ∷ []) else []) _ (Differ w [])
    (Contains-append_right (if is_open words v && is_word words w then (Differ v [] ∷ []) else []) _ (Differ w [])
    (Contains-append_left (if is_open words w && is_word words v then (Differ w [] ∷ []) else []) (if is_word words v && is_word words w then (End ∷ []) else []) (Differ w [])
    (one_if (is_open words w && is_word words v) (Differ w []) (both_true (is_open words w) (is_word words v) h k))))

two_end : (words : List (List ℕ)) (v w : List ℕ) → is_word words v ≡ true → is_word words w ≡ true → Contains (targets_of_two words v w) End
two_end words v w h k =
    Contains-append_right (if is_open words v && is_open words w then (Differ v w ∷ []) else []) _ End
    (Contains-append_right (if is_open words v && is_word words w then (Differ v [] ∷ []) else []) _ End
    (Contains-append_right (if is_open words w && is_word words v then (Differ w [] ∷ []) else []) (if is_word words v && is_word words w then (End ∷ []) else []) End
    (one_if (is_word words v && is_word words w) End (both_true (is_word words v) (is_word words w) h k))))

-- ---- completeness

-- two readings have differed: a walk to the end, or one to their open words, in one order or the other
Differed : List (List ℕ) → ℕ → List ℕ → List ℕ → Type 0
Differed words n p q = ((m : ℕ) × (m ≤ n) × ForkWalk words m End) ⊎ ForkWalk words n (Differ p q) ⊎ ForkWalk words n (Differ q p)

Met : List (List ℕ) → ℕ → List (List ℕ) → List ℕ → List (List ℕ) → List ℕ → Type 0
Met words n xs p ys q = ((xs ≡ ys) × (p ≡ q) × ForkWalk words n (Same p)) ⊎ Differed words n p q

walk_to : (words : List (List ℕ)) (n : ℕ) (v w p q : List ℕ) → v ≡ p → w ≡ q → ForkWalk words n (Differ v w) → ForkWalk words n (Differ p q)
walk_to words n v w p q a b walk = subst (λ l. ForkWalk words n (Differ l q)) a (subst (λ l. ForkWalk words n (Differ v l)) b walk)

swapped : (words : List (List ℕ)) (n : ℕ) (p q : List ℕ) → Differed words n p q → Differed words n q p
unfolding Differed
swapped words n p q (inl h) = inl h
swapped words n p q (inr (inl h)) = inr (inr h)
swapped words n p q (inr (inr h)) = inr (inl h)

two_step : (words : List (List ℕ)) (n : ℕ) (xs ys vs ws : List (List ℕ)) (p q v w : List ℕ) (c : ℕ) → ForkWalk words n (Differ v w) → How words xs p vs v c → How words ys q ws w c → Differed words (suc n) p q
unfolding Differed How
two_step words n xs ys vs ws p q v w c walk (inl h) (inl k) =
    inr (inl (walk_to words (suc n) (v ++ c ∷ []) (w ++ c ∷ []) p q (sym h.0) (sym k.0) (by_two words n v w c _ walk (two_on words (v ++ c ∷ []) (w ++ c ∷ []) h.2 k.2))))
two_step words n xs ys vs ws p q v w c walk (inl h) (inr k) =
    inr (inl (walk_to words (suc n) (v ++ c ∷ []) [] p q (sym h.0) (sym k.0) (by_two words n v w c _ walk (two_second words (v ++ c ∷ []) (w ++ c ∷ []) h.2 k.2))))
two_step words n xs ys vs ws p q v w c walk (inr h) (inl k) =
    inr (inr (walk_to words (suc n) (w ++ c ∷ []) [] q p (sym k.0) (sym h.0) (by_two words n v w c _ walk (two_first words (v ++ c ∷ []) (w ++ c ∷ []) k.2 h.2))))
two_step words n xs ys vs ws p q v w c walk (inr h) (inr k) =
    inl (suc n, omega arith, by_two words n v w c End walk (two_end words (v ++ c ∷ []) (w ++ c ∷ []) h.2 k.2))

same_step : (words : List (List ℕ)) (n : ℕ) (xs ys vs : List (List ℕ)) (p q v : List ℕ) (c : ℕ) → ForkWalk words n (Same v) → How words xs p vs v c → How words ys q vs v c → Met words (suc n) xs p ys q
unfolding Met Differed How
same_step words n xs ys vs p q v c walk (inl h) (inl k) =
    inl (h.1 ∙ sym k.1, h.0 ∙ sym k.0, subst (λ l. ForkWalk words (suc n) (Same l)) (sym h.0) (by_same words n v c (Same (v ++ c ∷ [])) walk (same_on words (v ++ c ∷ []) h.2)))
same_step words n xs ys vs p q v c walk (inl h) (inr k) =
    inr (inr (inl (walk_to words (suc n) (v ++ c ∷ []) [] p q (sym h.0) (sym k.0) (by_same words n v c _ walk (same_part words (v ++ c ∷ []) h.2 k.2)))))
same_step words n xs ys vs p q v c walk (inr h) (inl k) =
    inr (inr (inr (walk_to words (suc n) (v ++ c ∷ []) [] q p (sym k.0) (sym h.0) (by_same words n v c _ walk (same_part words (v ++ c ∷ []) k.2 h.2)))))
same_step words n xs ys vs p q v c walk (inr h) (inr k) =
    inl (h.1 ∙ sym k.1, h.0 ∙ sym k.0, subst (λ l. ForkWalk words (suc n) (Same l)) (sym h.0) (by_same words n v c (Same []) walk (same_end words (v ++ c ∷ []) h.2)))

met_step : (words : List (List ℕ)) (n : ℕ) (xs ys vs ws : List (List ℕ)) (p q v w : List ℕ) (c : ℕ) → Met words n vs v ws w → How words xs p vs v c → How words ys q ws w c → Met words (suc n) xs p ys q
unfolding Met Differed
met_step words n xs ys vs ws p q v w c (inl h) a b =
    same_step words n xs ys vs p q v c h.2 a (subst (λ l. How words ys q vs l c) (sym h.1) (subst (λ l. How words ys q l w c) (sym h.0) b))
met_step words n xs ys vs ws p q v w c (inr (inl h)) a b = inr (inl (h.0, omega (arith, h.1), h.2))
met_step words n xs ys vs ws p q v w c (inr (inr (inl h))) a b = inr (two_step words n xs ys vs ws p q v w c h a b)
met_step words n xs ys vs ws p q v w c (inr (inr (inr h))) a b = inr (swapped words (suc n) q p (two_step words n ys xs ws vs q p w v c h b a))

reads_nothing : (words ws : List (List ℕ)) (p : List ℕ) → (is_word words [] ≡ true → ⊥) → Reads words ws p [] → (ws ≡ []) × (p ≡ [])
reads_nothing words [] p some h = (refl, h.joined)
reads_nothing words ([] ∷ ws) p some h = absurd (some h.all.0)
reads_nothing words ((c ∷ w) ∷ ws) p some h = absurd (true≢false cc (h.joined))

complete : (n : ℕ) (words : List (List ℕ)) (xs ys : List (List ℕ)) (p q x : List ℕ) → (is_word words [] ≡ true → ⊥) → length x ≡ n → Reads words xs p x → Reads words ys q x → Met words n xs p ys q
unfolding Met
complete n words xs ys p q [] some long a b =
    let first = reads_nothing words xs p some a in
    let second = reads_nothing words ys q some b in
    subst (λ k. Met words k xs p ys q) long (inl (first.0 ∙ sym second.0, first.1 ∙ sym second.1, ap (λ l. Same l) first.1))
complete zero words xs ys p q (d ∷ x) some long a b = absurd (omega (arith, long))
complete (suc n) words xs ys p q (d ∷ x) some long a b =
    let split = unsnoc d x in
    let y : List ℕ = split.0 in
    let c : ℕ = split.1 in
    let first = reads_before words xs p y c some (subst (Reads words xs p) split.2 a) in
    let second = reads_before words ys q y c some (subst (Reads words ys q) split.2 b) in
    met_step words n xs ys first.vs second.vs p q first.q second.q c
    (complete n words first.vs second.vs first.q second.q y some (omega (arith, long, ap length split.2, length_push y c)) first.reads second.reads) first.how second.how

-- ---- the law

whole : (words ws : List (List ℕ)) → AllWords words ws → Reads words ws [] (concat ws)
whole words ws all = record { all = all; open_word = refl; joined = append-nil (concat ws) }

end_of_readings : (words xs ys : List (List ℕ)) → (is_word words [] ≡ true → ⊥) → AreReadings words xs ys → (m : ℕ) × (m ≤ length (concat xs)) × ForkWalk words m End
unfolding Met Differed Stands
end_of_readings words xs ys some two =
    let other : Reads words ys [] (concat xs) = subst (Reads words ys []) (sym two.same) (whole words ys two.second) in
    elim (complete (length (concat xs)) words xs ys [] [] (concat xs) some refl (whole words xs two.first) other) [
      | inl h ↦ absurd (two.differ h.0)
      | inr (inl h) ↦ h
      | inr (inr (inl h)) ↦ let stands = stands_walk words (length (concat xs)) (Differ [] []) h in absurd (omega (arith, stands.2))
      | inr (inr (inr h)) ↦ let stands = stands_walk words (length (concat xs)) (Differ [] []) h in absurd (omega (arith, stands.2))
    ]

readings_of_end : (words : List (List ℕ)) (n : ℕ) → ForkWalk words n End → (xs : List (List ℕ)) × (ys : List (List ℕ)) × AreReadings words xs ys × (length (concat xs) ≡ n)
unfolding Stands
readings_of_end words n walk = stands_walk words n End walk

pub IsFree-end : (entries words : List (List ℕ)) → AreWords entries words → IsFree words ↔ ((n : ℕ) → ForkWalk words n End → ⊥)
IsFree-end entries words are = (
  λ free n walk. let two = readings_of_end words n walk in free two.0 two.1 two.2,
  λ none xs ys two. let end = end_of_readings words xs ys (word_not_empty entries words are) two in none end.0 end.2,
)

pub IsLeastTwo-end : (entries words : List (List ℕ)) (n : ℕ) → AreWords entries words → IsLeastTwo words n ↔ IsLeastEnd words n
IsLeastTwo-end entries words n are = (
  λ h.
      let end = end_of_readings words h.xs h.ys (word_not_empty entries words are) h.are in
      let two = readings_of_end words end.0 end.2 in
      let fits : n ≤ length (concat two.0) = h.least two.0 two.1 two.2 in
      let same : end.0 ≡ n = omega (arith, fits, two.3, end.1, h.strokes) in
      record {
        walk = subst (λ k. ForkWalk words k End) same end.2;
        least = λ k walk. let other = readings_of_end words k walk in let at_least : n ≤ length (concat other.0) = h.least other.0 other.1 other.2 in omega (arith, at_least, other.3);
      },
  λ h.
      let two = readings_of_end words n h.walk in
      record {
        xs = two.0;
        ys = two.1;
        are = two.2;
        strokes = two.3;
        least = λ cs ds other. let end = end_of_readings words cs ds (word_not_empty entries words are) other in let at_least : n ≤ end.0 = h.least end.0 end.2 in omega (arith, end.1);
      },
)
