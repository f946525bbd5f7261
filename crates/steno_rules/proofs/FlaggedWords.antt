-- The words by their flags.
use Rattle.std.proofs.Common.{◌≡◌, ℕ, zero, suc, ◌<◌, List, [], ◌∷◌, length, refl, sym, ap, arith, Bool, true, false, true≢false, Contains, inl, inr, ◌↔◌, Some, slice_get, subst}
use Rattle.std.specs.List.{AllByRecursion}
use Rattle.std.proofs.lemmas.List.Elements.{Contains-get_or}
use Rattle.steno_rules.specs.Outlines.{is_entry, is_word, AreRising, AreEntries, AreWords, outline_of, flagged_entries}
use Rattle.steno_rules.proofs.Lists.{all_of, none_in_nil, in_cons, in_first, in_later}
use Rattle.steno_rules.proofs.Entries.{is_entry-Decides}
use Rattle.steno_rules.proofs.Numbers.{outline_of-once}

-- one entry more at the front
words_of_at : (e : List ℕ) (entries : List (List ℕ)) (b : Bool) (flags : List Bool) (w : List ℕ) →
    ((k : ℕ) × (slice_get flags k ≡ Some true) × (k < length entries) × (outline_of entries k ≡ w)) →
    (k : ℕ) × (slice_get (b ∷ flags) k ≡ Some true) × (k < length (e ∷ entries)) × (outline_of (e ∷ entries) k ≡ w)
words_of_at e entries b flags w h = (suc h.0, h.1, omega (arith, h.2), h.3)

-- Each of these words has a number whose flag is true.
pub flagged-found : (entries : List (List ℕ)) (flags : List Bool) (w : List ℕ) → Contains (flagged_entries entries flags) w →
    (k : ℕ) × (slice_get flags k ≡ Some true) × (k < length entries) × (outline_of entries k ≡ w)
flagged-found [] flags w h = absurd (none_in_nil w h)
flagged-found (e ∷ entries) [] w h = absurd (none_in_nil w h)
flagged-found (e ∷ entries) (true ∷ flags) w h = elim (in_cons e (flagged_entries entries flags) w h) [
  | inl is ↦ (0, refl, omega arith, is)
  | inr later ↦ words_of_at e entries true flags w (flagged-found entries flags w later)
]
flagged-found (e ∷ entries) (false ∷ flags) w h = words_of_at e entries false flags w (flagged-found entries flags w h)

-- An entry whose flag is true is one of the words.
pub flagged-there : (entries : List (List ℕ)) (flags : List Bool) (k : ℕ) → slice_get flags k ≡ Some true → k < length entries → Contains (flagged_entries entries flags) (outline_of entries k)
flagged-there [] flags k set below = absurd (omega arith)
flagged-there (e ∷ entries) [] k set below = absurd (true≢false cc)
flagged-there (e ∷ entries) (true ∷ flags) zero set below = in_first e (flagged_entries entries flags)
flagged-there (e ∷ entries) (true ∷ flags) (suc k) set below = in_later e (flagged_entries entries flags) (outline_of entries k) (flagged-there entries flags k set (omega arith))
flagged-there (e ∷ entries) (false ∷ flags) zero set below = absurd (true≢false cc)
flagged-there (e ∷ entries) (false ∷ flags) (suc k) set below = flagged-there entries flags k set (omega arith)

-- The entries whose flag is true are words.
pub flagged-are : (entries : List (List ℕ)) (flags : List Bool) → AreEntries entries → AreWords entries (flagged_entries entries flags)
flagged-are entries flags are = record {
  are_entries = are;
  each = all_of (λ w. is_entry entries w ≡ true) (flagged_entries entries flags) (λ w has.
      let found = flagged-found entries flags w has in
      (is_entry-Decides entries w).1 (subst (Contains entries) found.3 (Contains-get_or entries found.0 [] found.2)));
}

-- Entries differ: the number of an entry is that of a word exactly where its flag is true.
pub flagged-flag : (entries : List (List ℕ)) (flags : List Bool) (k : ℕ) → AreRising entries → k < length entries →
    (is_word (flagged_entries entries flags) (outline_of entries k) ≡ true) ↔ (slice_get flags k ≡ Some true)
flagged-flag entries flags k rising below = (
  λ is.
      let found = flagged-found entries flags (outline_of entries k) ((is_entry-Decides (flagged_entries entries flags) (outline_of entries k)).0 is) in
      let same : found.0 ≡ k = outline_of-once entries found.0 k rising found.2 below found.3 in
      subst (λ i. slice_get flags i ≡ Some true) same found.1,
  λ set. (is_entry-Decides (flagged_entries entries flags) (outline_of entries k)).1 (flagged-there entries flags k set below),
)

-- Where all flags are true every entry is a word.
pub flagged-all : (entries : List (List ℕ)) (flags : List Bool) → length flags ≡ length entries → AllByRecursion (λ b. b ≡ true) flags → flagged_entries entries flags ≡ entries
flagged-all [] flags long all = refl
flagged-all (e ∷ entries) [] long all = absurd (omega (arith, long))
flagged-all (e ∷ entries) (true ∷ flags) long all = ap (λ l. e ∷ l) (flagged-all entries flags (omega (arith, long)) all.1)
flagged-all (e ∷ entries) (false ∷ flags) long all = absurd (true≢false (sym all.0))
