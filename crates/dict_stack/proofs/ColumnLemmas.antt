-- One more candidate, whose outline isn't below the others.
use Rattle.std.proofs.Common.{◌≡◌, ℕ, ◌-◌, ◌<◌, List, [], ◌∷◌, ◌++◌, length, get_or, set, map, refl, sym, ap, ap₂, subst, ◌∙◌, arith, Bool, true, false, ◌||◌, cond, Contains, Less}
use Rattle.std.specs.Ordering.{is_lt}
use Rattle.std.specs.Cmp.Lexicographic.{nat_list_cmp_total}
use Rattle.std.proofs.lemmas.List.{length_push, map-append, get_or_at, get_or_append_left, get_or_default, set_at}
use Rattle.std.proofs.lemmas.List.Sorted.{sorted_far, ranks_by}
use Rattle.steno_rules.specs.Outlines.{outline_cmp, AreRising}
use Rattle.steno_rules.proofs.Lists.{in_first, in_later, in_map}
use Rattle.steno_rules.proofs.Numbers.{not_below_self}
use Rattle.steno_rules.specs.Nodes.{in_order}
use Rattle.dict_stack.specs.inside.Candidates.{candidate_outline, said_first, some_word, IsMerged, AreSorted, is_end}
use Rattle.dict_stack.specs.declared.candidates.Candidate.{Candidate}
use Rattle.dict_stack.specs.declared.columns.Columns.{Columns}
use Rattle.steno_rules.proofs.InOrder.{in_order-rising, in_order-Contains}
use Rattle.dict_stack.proofs.OrderLemmas.{in_order_push}
use Rattle.dict_stack.proofs.EndLemmas.{NoneAbove, insert_last, not_there, is_end-front}
use Rattle.dict_stack.proofs.FirstLemmas.{said_kept, said_new, word_kept, word_here, word_new}

module _ {X Y : Type 0} where
  -- two functions that agree on the members make one list
  pub map_same : (f g : X → Y) (xs : List X) → ((x : X) → Contains xs x → f x ≡ g x) → map f xs ≡ map g xs
  map_same f g [] same = refl
  map_same f g (x ∷ xs) same = ap₂ (λ y ys. y ∷ ys) (same x (in_first x xs)) (map_same f g xs (λ z has. same z (in_later x xs z has)))

-- the outlines of candidates, in order
abbrev pub ordered : List Candidate → List (List ℕ)
ordered cs = in_order (map candidate_outline cs)

-- sorted candidates have no outline above the last one's
none_above : (cs : List Candidate) (c : Candidate) → AreSorted (cs ++ c ∷ []) → NoneAbove (ordered cs) (candidate_outline c)
unfolding NoneAbove
none_above cs c sorted y has =
    let found = in_map candidate_outline cs y ((in_order-Contains (map candidate_outline cs) y).0 has) in
    let at : Contains cs found.0 = found.1 in
    let far : is_lt (outline_cmp (candidate_outline (get_or (cs ++ c ∷ []) (length cs) found.0)) (candidate_outline (get_or (cs ++ c ∷ []) at.0 found.0))) ≡ false =
    sorted_far (λ a b. is_lt (outline_cmp (candidate_outline a) (candidate_outline b))) (ranks_by nat_list_cmp_total candidate_outline) (cs ++ c ∷ []) sorted at.0 (length cs) found.0
    (omega (arith, at.1)) (omega (arith, length_push cs c)) in
    let here : get_or (cs ++ c ∷ []) (length cs) found.0 ≡ c = get_or_at cs c [] found.0 (length cs) refl in
    let there : get_or (cs ++ c ∷ []) at.0 found.0 ≡ found.0 = get_or_append_left cs (c ∷ []) found.0 at.0 at.1 ∙ at.2 in
    sym (ap₂ (λ a b. is_lt (outline_cmp (candidate_outline a) (candidate_outline b))) here there ∙ ap (λ o. is_lt (outline_cmp (candidate_outline c) o)) found.2) ∙ far

-- The outlines with the candidate's.
pub outlines_push : (cs : List Candidate) (c : Candidate) → AreSorted (cs ++ c ∷ []) →
    in_order (map candidate_outline (cs ++ c ∷ [])) ≡ cond (is_end (ordered cs) (candidate_outline c)) (ordered cs) (ordered cs ++ candidate_outline c ∷ [])
outlines_push cs c sorted =
    ap in_order (map-append candidate_outline cs (c ∷ []))
    ∙ in_order_push (map candidate_outline cs) (candidate_outline c)
    ∙ insert_last (ordered cs) (candidate_outline c) (in_order-rising (map candidate_outline cs)) (none_above cs c sorted)

-- an outline that isn't the last of those before isn't one of them
new_outline : (cs : List Candidate) (c : Candidate) → AreSorted (cs ++ c ∷ []) → is_end (ordered cs) (candidate_outline c) ≡ false → Contains (map candidate_outline cs) (candidate_outline c) → ⊥
new_outline cs c sorted end has =
    not_there (ordered cs) (candidate_outline c) (in_order-rising (map candidate_outline cs)) (none_above cs c sorted) end
    ((in_order-Contains (map candidate_outline cs) (candidate_outline c)).1 has)

-- ---- the columns of texts and places

module _ {A : Type 0} where
  -- a new outline adds what its candidate says
  column_new : (f : Candidate → A) (otherwise : A) (cs : List Candidate) (c : Candidate) (none : Contains (map candidate_outline cs) (candidate_outline c) → ⊥) →
      map (said_first f otherwise cs) (ordered cs) ++ f c ∷ [] ≡ map (said_first f otherwise (cs ++ c ∷ [])) (ordered cs ++ candidate_outline c ∷ [])
  column_new f otherwise cs c none = sym (
      map-append (said_first f otherwise (cs ++ c ∷ [])) (ordered cs) (candidate_outline c ∷ [])
      ∙ ap₂ (λ l y. l ++ y ∷ [])
      (map_same (said_first f otherwise (cs ++ c ∷ [])) (said_first f otherwise cs) (ordered cs) (λ y has. said_kept f otherwise cs c y ((in_order-Contains (map candidate_outline cs) y).0 has)))
      (said_new f otherwise cs c none))

  -- the last outline again adds nothing
  column_kept : (f : Candidate → A) (otherwise : A) (cs : List Candidate) (c : Candidate) →
      map (said_first f otherwise cs) (ordered cs) ≡ map (said_first f otherwise (cs ++ c ∷ [])) (ordered cs)
  column_kept f otherwise cs c = sym (map_same (said_first f otherwise (cs ++ c ∷ [])) (said_first f otherwise cs) (ordered cs)
      (λ y has. said_kept f otherwise cs c y ((in_order-Contains (map candidate_outline cs) y).0 has)))

-- a new outline adds the candidate's flag
words_new : (cs : List Candidate) (c : Candidate) (none : Contains (map candidate_outline cs) (candidate_outline c) → ⊥) →
    map (some_word cs) (ordered cs) ++ c.is_word ∷ [] ≡ map (some_word (cs ++ c ∷ [])) (ordered cs ++ candidate_outline c ∷ [])
words_new cs c none = sym (
    map-append (some_word (cs ++ c ∷ [])) (ordered cs) (candidate_outline c ∷ [])
    ∙ ap₂ (λ l y. l ++ y ∷ [])
    (map_same (some_word (cs ++ c ∷ [])) (some_word cs) (ordered cs)
    (λ y has. word_kept cs c y (λ same. none (subst (Contains (map candidate_outline cs)) (sym same) ((in_order-Contains (map candidate_outline cs) y).0 has)))))
    (word_new cs c none))

-- A new outline goes to the end.
pub merged_new : (cs : List Candidate) (c : Candidate) (old new : Columns) → IsMerged cs old → AreSorted (cs ++ c ∷ []) → is_end old.outlines.items (candidate_outline c) ≡ false →
    new.outlines.items ≡ old.outlines.items ++ candidate_outline c ∷ [] → new.texts.items ≡ old.texts.items ++ c.entry.text ∷ [] → new.from.items ≡ old.from.items ++ c.place ∷ [] →
    new.words.items ≡ old.words.items ++ c.is_word ∷ [] → IsMerged (cs ++ c ∷ []) new
merged_new cs c old new is sorted end outlines texts from words = record {
  outlines_are = all;
  texts_are = texts ∙ ap (λ l. l ++ c.entry.text ∷ []) (is.texts_are ∙ ap (map (said_first (λ e. e.entry.text) [] cs)) is.outlines_are) ∙ column_new (λ e. e.entry.text) [] cs c none ∙ ap (map (said_first (λ e. e.entry.text) [] (cs ++ c ∷ []))) (sym put);
  from_are = from ∙ ap (λ l. l ++ c.place ∷ []) (is.from_are ∙ ap (map (said_first (λ e. e.place) 0 cs)) is.outlines_are) ∙ column_new (λ e. e.place) 0 cs c none ∙ ap (map (said_first (λ e. e.place) 0 (cs ++ c ∷ []))) (sym put);
  words_are = words ∙ ap (λ l. l ++ c.is_word ∷ []) (is.words_are ∙ ap (map (some_word cs)) is.outlines_are) ∙ words_new cs c none ∙ ap (map (some_word (cs ++ c ∷ []))) (sym put);
}
  where
    end_is : is_end (ordered cs) (candidate_outline c) ≡ false
    end_is = ap (λ l. is_end l (candidate_outline c)) (sym is.outlines_are) ∙ end

    none : Contains (map candidate_outline cs) (candidate_outline c) → ⊥
    none = new_outline cs c sorted end_is

    put : new.outlines.items ≡ ordered cs ++ candidate_outline c ∷ []
    put = outlines ∙ ap (λ l. l ++ candidate_outline c ∷ []) is.outlines_are

    all : new.outlines.items ≡ in_order (map candidate_outline (cs ++ c ∷ []))
    all = put ∙ sym (outlines_push cs c sorted ∙ ap (λ b. cond b (ordered cs) (ordered cs ++ candidate_outline c ∷ [])) end_is)

-- ---- the last flag

-- the flags with the last one, or this one, in the last place
abbrev pub or_last : List Bool → Bool → List Bool
or_last flags w = set flags (length flags - 1) (get_or flags (length flags - 1) false || w)

-- the last flag as it stands at the end of others
or_last_push : (flags : List Bool) (b w : Bool) → or_last (flags ++ b ∷ []) w ≡ flags ++ (b || w) ∷ []
or_last_push flags b w =
    let long : length flags ≡ length (flags ++ b ∷ []) - 1 = omega (arith, length_push flags b) in
    ap (λ v. set (flags ++ b ∷ []) (length (flags ++ b ∷ []) - 1) (v || w)) (get_or_at flags b [] false (length (flags ++ b ∷ []) - 1) long)
    ∙ set_at flags b [] (b || w) (length (flags ++ b ∷ []) - 1) long

-- a write of the last flag, as the code does it
pub or_last_is : (flags : List Bool) (n : ℕ) (last w : Bool) → n ≡ length flags → 0 < n → last ≡ get_or flags (n - 1) last → set flags (n - 1) (last || w) ≡ or_last flags w
or_last_is flags n last w long some is = ap₂ (λ k v. set flags (k - 1) (v || w)) long (is ∙ get_or_default flags (n - 1) last false (omega (arith, long, some)) ∙ ap (λ k. get_or flags (k - 1) false) long)

-- of rising outlines the last one is none of the others
front_below : (front : List (List ℕ)) (x y : List ℕ) → AreRising (front ++ x ∷ []) → Contains front y → x ≡ y → ⊥
front_below front x y rising has same =
    let less : outline_cmp y x ≡ Less =
    sym (ap₂ outline_cmp (get_or_append_left front (x ∷ []) y has.0 has.1 ∙ has.2) (get_or_at front x [] y (length front) refl))
    ∙ rising has.0 (length front) y has.1 (omega (arith, length_push front x)) in
    not_below_self y (subst (λ z. outline_cmp y z ≡ Less) same less)

-- the last outline again may make a word of it
words_or : (cs : List Candidate) (c : Candidate) → is_end (ordered cs) (candidate_outline c) ≡ true → or_last (map (some_word cs) (ordered cs)) c.is_word ≡ map (some_word (cs ++ c ∷ [])) (ordered cs)
words_or cs c end = by (is_end-front (ordered cs) (candidate_outline c) end)
  where
    by : (front : List (List ℕ)) × (ordered cs ≡ front ++ candidate_outline c ∷ []) → or_last (map (some_word cs) (ordered cs)) c.is_word ≡ map (some_word (cs ++ c ∷ [])) (ordered cs)
    by f =
        let x : List ℕ = candidate_outline c in
        let split : (p : List ℕ → Bool) → map p (ordered cs) ≡ map p f.0 ++ p x ∷ [] = λ p. ap (map p) f.1 ∙ map-append p f.0 (x ∷ []) in
        let rising : AreRising (f.0 ++ x ∷ []) = subst AreRising f.1 (in_order-rising (map candidate_outline cs)) in
        ap (λ l. or_last l c.is_word) (split (some_word cs))
        ∙ or_last_push (map (some_word cs) f.0) (some_word cs x) c.is_word
        ∙ sym (split (some_word (cs ++ c ∷ []))
        ∙ ap₂ (λ l y. l ++ y ∷ []) (map_same (some_word (cs ++ c ∷ [])) (some_word cs) f.0 (λ y has. word_kept cs c y (front_below f.0 x y rising has))) (word_here cs c))

-- The last outline stays, with the text and the place that it has.
pub merged_same : (cs : List Candidate) (c : Candidate) (old new : Columns) → IsMerged cs old → AreSorted (cs ++ c ∷ []) → is_end old.outlines.items (candidate_outline c) ≡ true →
    new.outlines.items ≡ old.outlines.items → new.texts.items ≡ old.texts.items → new.from.items ≡ old.from.items → new.words.items ≡ or_last old.words.items c.is_word → IsMerged (cs ++ c ∷ []) new
merged_same cs c old new is sorted end outlines texts from words = record {
  outlines_are = all;
  texts_are = texts ∙ is.texts_are ∙ ap (map (said_first (λ e. e.entry.text) [] cs)) is.outlines_are ∙ column_kept (λ e. e.entry.text) [] cs c ∙ ap (map (said_first (λ e. e.entry.text) [] (cs ++ c ∷ []))) (sym stay);
  from_are = from ∙ is.from_are ∙ ap (map (said_first (λ e. e.place) 0 cs)) is.outlines_are ∙ column_kept (λ e. e.place) 0 cs c ∙ ap (map (said_first (λ e. e.place) 0 (cs ++ c ∷ []))) (sym stay);
  words_are = words ∙ ap (λ l. or_last l c.is_word) (is.words_are ∙ ap (map (some_word cs)) is.outlines_are) ∙ words_or cs c end_is ∙ ap (map (some_word (cs ++ c ∷ []))) (sym stay);
}
  where
    end_is : is_end (ordered cs) (candidate_outline c) ≡ true
    end_is = ap (λ l. is_end l (candidate_outline c)) (sym is.outlines_are) ∙ end

    stay : new.outlines.items ≡ ordered cs
    stay = outlines ∙ is.outlines_are

    all : new.outlines.items ≡ in_order (map candidate_outline (cs ++ c ∷ []))
    all = stay ∙ sym (outlines_push cs c sorted ∙ ap (λ b. cond b (ordered cs) (ordered cs ++ candidate_outline c ∷ [])) end_is)
