-- The tests on entries and words say what they seem to say.
use Rattle.std.proofs.Common.{◌≡◌, ℕ, ◌<◌, List, [], ◌++◌, length, take, drop, refl, sym, ap, subst, ◌∙◌, arith, true, Contains, ◌⊎◌, inl, inr, ◌↔◌, take_at, take-append-drop, length-append}
use Rattle.steno_rules.specs.Outlines.{begins_with}
use Rattle.steno_rules.specs.Windows.{is_prefix}
use Rattle.steno_rules.specs.States.{is_open}
use Rattle.steno_rules.proofs.Entries.{begins_with-Decides, is_entry-Decides}
use Rattle.steno_rules.proofs.Prefixes.{is_prefix-found, is_prefix-from}
use Rattle.steno_rules.proofs.Words.{open_word, open_of_word}

-- a front, and what follows it
rest_of : (x e : List ℕ) → x ≡ take (length x) e → (rest : List ℕ) × (e ≡ x ++ rest)
rest_of x e is = (drop (length x) e, sym (take-append-drop (length x) e) ∙ ap (λ l. l ++ drop (length x) e) (sym is))

-- and x is the front of x and more strokes
front_of : (x e rest : List ℕ) → e ≡ x ++ rest → x ≡ take (length x) e
front_of x e rest is = sym (ap (take (length x)) is ∙ take_at x rest (length x) refl)

-- x begins with e where it is e and more strokes, or none
pub begins_with-reads : (x e : List ℕ) → (begins_with x e ≡ true) ↔ ((rest : List ℕ) × (x ≡ e ++ rest))
begins_with-reads x e = (λ h. rest_of e x ((begins_with-Decides x e).0 h), λ h. (begins_with-Decides x e).1 (front_of e x h.0 h.1))

-- an entry begins with x where it is x and more strokes, or none
pub is_prefix-reads : (entries : List (List ℕ)) (x : List ℕ) → (is_prefix entries x ≡ true) ↔ ((x ≡ []) ⊎ ((rest : List ℕ) × Contains entries (x ++ rest)))
is_prefix-reads entries x = (
  λ h. elim (is_prefix-found entries x h) [
    | inl none ↦ inl none
    | inr found ↦ let more = rest_of x found.0 found.2 in inr (more.0, subst (Contains entries) more.1 found.1)
  ],
  λ h. elim h [
    | inl none ↦ ap (is_prefix entries) none
    | inr found ↦ is_prefix-from entries x (x ++ found.0) found.1 (front_of x (x ++ found.0) found.0 refl)
  ],
)

-- an open word is empty, or lacks strokes to a word
pub is_open-reads : (words : List (List ℕ)) (v : List ℕ) → (is_open words v ≡ true) ↔ ((v ≡ []) ⊎ ((rest : List ℕ) × Contains words (v ++ rest) × (0 < length rest)))
is_open-reads words v = (
  λ h. elim (open_word words v h) [
    | inl none ↦ inl none
    | inr found ↦
        let more = rest_of v found.0 found.2 in
        inr (more.0, subst (Contains words) more.1 found.1, omega (arith, found.3, ap length more.1, length-append v more.0))
  ],
  λ h. elim h [
    | inl none ↦ ap (is_open words) none
    | inr found ↦ open_of_word words v found.0 ((is_entry-Decides words (v ++ found.0)).1 found.1) found.2
  ],
)
