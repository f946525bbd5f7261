-- What the first candidate with an outline says, and whether some is a word, when one more comes.
use Rattle.std.proofs.Common.{◌≡◌, ℕ, List, [], ◌∷◌, ◌++◌, map, refl, sym, ap, subst, ◌∙◌, Bool, true, false, true≢false, ◌&&◌, ◌||◌, cond, nat_eq, find, Some, None, unwrap_or, option_map, Contains, Decides}
use Rattle.std.specs.List.{list_any}
use Rattle.std.specs.Cmp.Lexicographic.{pointwise, bytes_decides}
use Rattle.std.proofs.lemmas.List.Folds.{list_any-append}
use Rattle.steno_rules.proofs.Entries.{is_entry-Decides}
use Rattle.dict_stack.specs.inside.Candidates.{candidate_outline, spells, said_first, some_word}
use Rattle.dict_stack.specs.declared.candidates.Candidate.{Candidate}

module _ {X Y : Type 0} where
  -- a test of a mapped list
  pub any_map : (p : Y → Bool) (f : X → Y) (xs : List X) → list_any p (map f xs) ≡ list_any (λ x. p (f x)) xs
  any_map p f [] = refl
  any_map p f (x ∷ xs) = ap (λ b. p (f x) || b) (any_map p f xs)

module _ {X : Type 0} where
  -- what is found in a front is found in the whole
  pub find_kept : (p : X → Bool) (xs ys : List X) → list_any p xs ≡ true → find p (xs ++ ys) ≡ find p xs
  find_kept p [] ys h = absurd (true≢false (sym h))
  find_kept p (x ∷ xs) ys h = by (p x) h (find_kept p xs ys)
    where
      by : (b : Bool) → (b || list_any p xs) ≡ true → (list_any p xs ≡ true → find p (xs ++ ys) ≡ find p xs) → cond b (Some x) (find p (xs ++ ys)) ≡ cond b (Some x) (find p xs)
      by true h rest = refl
      by false h rest = rest h

  -- and what isn't is found in the rest
  pub find_new : (p : X → Bool) (xs ys : List X) → list_any p xs ≡ false → find p (xs ++ ys) ≡ find p ys
  find_new p [] ys h = refl
  find_new p (x ∷ xs) ys h = by (p x) h (find_new p xs ys)
    where
      by : (b : Bool) → (b || list_any p xs) ≡ false → (list_any p xs ≡ false → find p (xs ++ ys) ≡ find p ys) → cond b (Some x) (find p (xs ++ ys)) ≡ find p ys
      by true h rest = absurd (true≢false h)
      by false h rest = rest h

-- Some candidate spells what is one of the outlines.
pub spells-Decides : (cs : List Candidate) (x : List ℕ) → Decides (list_any (spells x) cs) (Contains (map candidate_outline cs) x)
spells-Decides cs x = subst (λ b. Decides b (Contains (map candidate_outline cs) x)) (any_map (λ o. pointwise nat_eq o x) candidate_outline cs) (is_entry-Decides (map candidate_outline cs) x)

-- where an outline isn't there, no candidate spells it
none_spells : (cs : List Candidate) (x : List ℕ) → (Contains (map candidate_outline cs) x → ⊥) → list_any (spells x) cs ≡ false
none_spells cs x none = by (list_any (spells x) cs) refl
  where
    by : (b : Bool) → list_any (spells x) cs ≡ b → b ≡ false
    by true is = absurd (none ((spells-Decides cs x).0 is))
    by false is = refl

-- a candidate spells its outline
spells_itself : (c : Candidate) → spells (candidate_outline c) c ≡ true
spells_itself c = (bytes_decides (candidate_outline c) (candidate_outline c)).1 refl

-- and no other
spells_no_other : (c : Candidate) (y : List ℕ) → (candidate_outline c ≡ y → ⊥) → spells y c ≡ false
spells_no_other c y other = by (spells y c) refl
  where
    by : (b : Bool) → spells y c ≡ b → b ≡ false
    by true is = absurd (other ((bytes_decides (candidate_outline c) y).0 is))
    by false is = refl

module _ {A : Type 0} where
  -- An outline that is there says what it said.
  pub said_kept : (f : Candidate → A) (otherwise : A) (cs : List Candidate) (c : Candidate) (y : List ℕ) → Contains (map candidate_outline cs) y →
      said_first f otherwise (cs ++ c ∷ []) y ≡ said_first f otherwise cs y
  said_kept f otherwise cs c y has = ap (λ o. unwrap_or (option_map f o) otherwise) (find_kept (spells y) cs (c ∷ []) ((spells-Decides cs y).1 has))

  -- A new outline says what the new candidate says.
  pub said_new : (f : Candidate → A) (otherwise : A) (cs : List Candidate) (c : Candidate) → (Contains (map candidate_outline cs) (candidate_outline c) → ⊥) →
      said_first f otherwise (cs ++ c ∷ []) (candidate_outline c) ≡ f c
  said_new f otherwise cs c none =
      ap (λ o. unwrap_or (option_map f o) otherwise)
      (find_new (spells (candidate_outline c)) cs (c ∷ []) (none_spells cs (candidate_outline c) none) ∙ ap (λ b. cond b (Some c) None) (spells_itself c))

-- one more flag that doesn't count
or_none : (a b p : Bool) → p ≡ false → (a || ((b && p) || false)) ≡ a
or_none true b p none = refl
or_none false true p none = ap (λ q. q || false) none
or_none false false p none = refl

-- and one that counts
or_this : (a b p : Bool) → p ≡ true → (a || ((b && p) || false)) ≡ (a || b)
or_this true b p is = refl
or_this false true p is = ap (λ q. q || false) is
or_this false false p is = refl

-- whether some candidate is a word, with one more
word_push : (cs : List Candidate) (c : Candidate) (y : List ℕ) → some_word (cs ++ c ∷ []) y ≡ (some_word cs y || ((c.is_word && spells y c) || false))
word_push cs c y = list_any-append (λ e. e.is_word && spells y e) cs (c ∷ [])

-- Other outlines are words as before.
pub word_kept : (cs : List Candidate) (c : Candidate) (y : List ℕ) → (candidate_outline c ≡ y → ⊥) → some_word (cs ++ c ∷ []) y ≡ some_word cs y
word_kept cs c y other = word_push cs c y ∙ or_none (some_word cs y) c.is_word (spells y c) (spells_no_other c y other)

-- The candidate's outline is a word if it was, or if the candidate is.
pub word_here : (cs : List Candidate) (c : Candidate) → some_word (cs ++ c ∷ []) (candidate_outline c) ≡ (some_word cs (candidate_outline c) || c.is_word)
word_here cs c = word_push cs c (candidate_outline c) ∙ or_this (some_word cs (candidate_outline c)) c.is_word (spells (candidate_outline c) c) (spells_itself c)

-- an outline that isn't there is no word
no_word : (cs : List Candidate) (x : List ℕ) → list_any (spells x) cs ≡ false → some_word cs x ≡ false
no_word [] x h = refl
no_word (c ∷ cs) x h = by c.is_word (spells x c) h (no_word cs x)
  where
    by : (w p : Bool) → (p || list_any (spells x) cs) ≡ false → (list_any (spells x) cs ≡ false → some_word cs x ≡ false) → ((w && p) || some_word cs x) ≡ false
    by w true h rest = absurd (true≢false h)
    by true false h rest = rest h
    by false false h rest = rest h

-- A new outline is a word if its candidate is.
pub word_new : (cs : List Candidate) (c : Candidate) → (Contains (map candidate_outline cs) (candidate_outline c) → ⊥) → some_word (cs ++ c ∷ []) (candidate_outline c) ≡ c.is_word
word_new cs c none = word_here cs c ∙ ap (λ b. b || c.is_word) (no_word cs (candidate_outline c) (none_spells cs (candidate_outline c) none))
