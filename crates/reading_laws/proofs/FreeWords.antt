-- The law of Sardinas and Patterson: words are free exactly where no dangling suffix is a word.
use Rattle.std.proofs.Common.{◌≡◌, ◌≢◌, ℕ, zero, suc, ◌+◌, ◌≤◌, List, [], ◌∷◌, ◌++◌, length, refl, sym, ap, ap₂, subst, ◌∙◌, arith, true, true≢false, inl, inr, append_assoc, append-nil, length-append, ◌↔◌}
use Rattle.std.specs.List.{concat}
use Rattle.steno_rules.specs.Outlines.{is_word, AreWords}
use Rattle.reading_laws.specs.Readings.{AllWords, AreReadings, IsFree}
use Rattle.reading_laws.specs.DanglingSuffixes.{Dangling, DanglingWord}
use Rattle.steno_rules.proofs.Lists.{two_cuts, All-snoc}
use Rattle.steno_rules.proofs.Words.{word_not_empty}
use Rattle.closure_laws.proofs.WordsOfWalks.{concat-snoc}

-- ---- a dangling suffix hangs over

-- lists of words of which the first needs s at its end to be as long as the second, with different first words
record HangsOver (words : List (List ℕ)) (s : List ℕ) : Type 0 where
  pub a : List ℕ
  pub xs : List (List ℕ)
  pub b : List ℕ
  pub ys : List (List ℕ)
  pub first : AllWords words (a ∷ xs)
  pub second : AllWords words (b ∷ ys)
  pub same : concat (a ∷ xs) ++ s ≡ concat (b ∷ ys)
  pub differ : a ≢ b

hangs_over : (words : List (List ℕ)) (n : ℕ) (s : List ℕ) → Dangling words n s → HangsOver words s
hangs_over words zero s h = record {
  a = h.1.0;
  xs = [];
  b = h.1.0 ++ s;
  ys = [];
  first = (h.1.1, tt);
  second = (h.1.2, tt);
  same = ap (λ l. l ++ s) (append-nil h.1.0) ∙ sym (append-nil (h.1.0 ++ s));
  differ = λ e. h.0 (empty_of s h.1.0 e);
}
  where
    empty_of : (s w : List ℕ) → w ≡ w ++ s → s ≡ []
    empty_of [] w e = refl
    empty_of (c ∷ s) w e = absurd (omega (arith, ap length e, length-append w (c ∷ s)))
hangs_over words (suc n) s (some, inl h) =
    let rest = hangs_over words n (h.0 ++ s) h.2 in
    record {
      a = rest.a;
      xs = rest.xs ++ h.0 ∷ [];
      b = rest.b;
      ys = rest.ys;
      first = (rest.first.0, All-snoc (λ w. is_word words w ≡ true) rest.xs h.0 rest.first.1 h.1);
      second = rest.second;
      same = ap (λ l. l ++ s) (concat-snoc (rest.a ∷ rest.xs) h.0) ∙ append_assoc (concat (rest.a ∷ rest.xs)) h.0 s ∙ rest.same;
      differ = rest.differ;
    }
hangs_over words (suc n) s (some, inr h) =
    let rest = hangs_over words n h.0 h.1 in
    record {
      a = rest.b;
      xs = rest.ys;
      b = rest.a;
      ys = rest.xs ++ (h.0 ++ s) ∷ [];
      first = rest.second;
      second = (rest.first.0, All-snoc (λ w. is_word words w ≡ true) rest.xs (h.0 ++ s) rest.first.1 h.2);
      same = ap (λ l. l ++ s) (sym rest.same) ∙ append_assoc (concat (rest.a ∷ rest.xs)) h.0 s ∙ sym (concat-snoc (rest.a ∷ rest.xs) (h.0 ++ s));
      differ = λ e. rest.differ (sym e);
    }

readings_of : (words : List (List ℕ)) → DanglingWord words → (xs : List (List ℕ)) × (ys : List (List ℕ)) × AreReadings words xs ys
readings_of words h =
    let over = hangs_over words h.steps h.s h.dangling in (
      (over.a ∷ over.xs) ++ h.s ∷ [],
      over.b ∷ over.ys,
      record {
        first = (over.first.0, All-snoc (λ w. is_word words w ≡ true) over.xs h.s over.first.1 h.word);
        second = over.second;
        same = concat-snoc (over.a ∷ over.xs) h.s ∙ over.same;
        differ = λ e. over.differ cc;
      },
    )

-- ---- without dangling words

not_empty : (words : List (List ℕ)) (n : ℕ) (s : List ℕ) → Dangling words n s → s ≢ []
not_empty words zero s h = h.0
not_empty words (suc n) s h = h.0

none_joined : (s y : List ℕ) → [] ≡ s ++ y → s ≡ []
none_joined [] y e = refl
none_joined (c ∷ s) y e = absurd (true≢false cc)

found_within : (k : ℕ) (words xs ys : List (List ℕ)) (n : ℕ) (s : List ℕ) → length xs + length ys ≤ k → Dangling words n s → AllWords words xs → AllWords words ys →
    concat xs ≡ s ++ concat ys → DanglingWord words
found_within k words [] ys n s fits h all others same = absurd (not_empty words n s h (none_joined s (concat ys) same))
found_within zero words (a ∷ xs) ys n s fits h all others same = absurd (omega (arith, fits))
found_within (suc k) words (a ∷ xs) ys n s fits h all others same = elim (two_cuts a (concat xs) s (concat ys) same) [
  | inl cut ↦ shorter cut.0 cut.1 cut.2 (found_within k words xs ys (suc n) cut.0 (omega (arith, fits)))
  | inr cut ↦
      let t : List ℕ = cut.0 ∷ cut.1 in
      let some : t ≢ [] = λ e. true≢false cc in
      let word : is_word words (s ++ t) ≡ true = subst (λ l. is_word words l ≡ true) cut.2 all.0 in
      found_within k words ys xs (suc n) t (omega (arith, fits)) (some, inr (s, h, word)) others all.1 cut.3
]
  where
    shorter : (t : List ℕ) → s ≡ a ++ t → concat xs ≡ t ++ concat ys →
        (Dangling words (suc n) t → AllWords words xs → AllWords words ys → concat xs ≡ t ++ concat ys → DanglingWord words) → DanglingWord words
    shorter [] is rest next = record { s = s; steps = n; dangling = h; word = subst (λ l. is_word words l ≡ true) (sym (is ∙ append-nil a)) all.0 }
    shorter (c ∷ t) is rest next = next ((λ e. true≢false cc), inl (a, all.0, subst (Dangling words n) is h)) all.1 others rest

one_reading : (words xs ys : List (List ℕ)) → (is_word words [] ≡ true → ⊥) → (DanglingWord words → ⊥) → AllWords words xs → AllWords words ys → concat xs ≡ concat ys → xs ≡ ys
one_reading words [] [] some none all others same = refl
one_reading words [] (b ∷ ys) some none all others same = absurd (some (subst (λ l. is_word words l ≡ true) (none_joined b (concat ys) same) others.0))
one_reading words (a ∷ xs) [] some none all others same = absurd (some (subst (λ l. is_word words l ≡ true) (none_joined a (concat xs) (sym same)) all.0))
one_reading words (a ∷ xs) (b ∷ ys) some none all others same = elim (two_cuts a (concat xs) b (concat ys) same) [
  | inl cut ↦ equal cut.0 cut.1 cut.2 (one_reading words xs ys some none all.1 others.1)
  | inr cut ↦
      let t : List ℕ = cut.0 ∷ cut.1 in
      let word : is_word words (b ++ t) ≡ true = subst (λ l. is_word words l ≡ true) cut.2 all.0 in
      absurd (none (found_within (length ys + length xs) words ys xs 0 t (omega arith) ((λ e. true≢false cc), (b, others.0, word)) others.1 all.1 cut.3))
]
  where
    equal : (t : List ℕ) → b ≡ a ++ t → concat xs ≡ t ++ concat ys → (concat xs ≡ concat ys → xs ≡ ys) → a ∷ xs ≡ b ∷ ys
    equal [] is rest next = ap₂ (λ x l. x ∷ l) (sym (is ∙ append-nil a)) (next rest)
    equal (c ∷ t) is rest next =
        absurd (none (found_within (length xs + length ys) words xs ys 0 (c ∷ t) (omega arith) ((λ e. true≢false cc), (a, all.0, subst (λ l. is_word words l ≡ true) is others.0)) all.1 others.1 rest))

pub IsFree-dangling : (entries words : List (List ℕ)) → AreWords entries words → IsFree words ↔ (DanglingWord words → ⊥)
IsFree-dangling entries words are = (
  λ free h. let two = readings_of words h in free two.0 two.1 two.2,
  λ none xs ys two. two.differ (one_reading words xs ys (word_not_empty entries words are) none two.first two.second two.same),
)
