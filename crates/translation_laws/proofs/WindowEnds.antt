-- The window is an end of the list, begins an entry, and grows by at most one stroke at a time.
use Rattle.std.proofs.Common.{◌≡◌, ℕ, ◌+◌, ◌≤◌, List, [], ◌∷◌, ◌++◌, length, ap, ◌∙◌, arith, true, Contains, ◌⊎◌, inl, inr, length-append, length-take}
use Rattle.std.specs.List.{concat}
use Rattle.std.proofs.lemmas.List.{length_push}
use Rattle.steno_rules.specs.Segments.{segments, AreSegments}
use Rattle.steno_rules.specs.Windows.{is_prefix, window}
use Rattle.steno_rules.proofs.Prefixes.{is_prefix-found}
use Rattle.steno_rules.proofs.SegmentLemmas.{AreSegments-segments, concat-segments, length-first_piece}
use Rattle.translation_laws.proofs.WindowLemmas.{window-push}
use Rattle.translation_laws.proofs.Readings.{window-is_end, whole_window, end_of}

-- The window is an end of the list.
pub window-end : (entries : List (List ℕ)) (x : List ℕ) → (before : List ℕ) × (x ≡ before ++ window entries x)
window-end entries x = end_of entries x (window entries x) (window-is_end entries x)

-- It is empty, or no longer than some entry.
pub window-fits : (entries : List (List ℕ)) (x : List ℕ) → (window entries x ≡ []) ⊎ ((e : List ℕ) × Contains entries e × (length (window entries x) ≤ length e))
window-fits entries x = elim (is_prefix-found entries (window entries x) (window-is_end entries x).prefix) [
  | inl none ↦ inl none
  | inr found ↦ inr (found.0, found.1, omega (arith, ap length found.2, length-take (length (window entries x)) found.0))
]

-- A list that begins an entry is its own window.
pub window-whole : (entries : List (List ℕ)) (x : List ℕ) → is_prefix entries x ≡ true → window entries x ≡ x
window-whole entries x begins =
    ap concat (whole_window entries (segments entries x) (ap (is_prefix entries) (concat-segments entries x) ∙ begins)) ∙ concat-segments entries x

-- With one more stroke it has at most one stroke more.
pub window-grows : (entries : List (List ℕ)) (x : List ℕ) (c : ℕ) → length (window entries (x ++ c ∷ [])) ≤ length (window entries x) + 1
window-grows entries x c =
    let end = window-end entries (window entries x ++ c ∷ []) in
    omega (arith, ap length (window-push entries x c), ap length end.1, length-append end.0 (window entries (window entries x ++ c ∷ [])), length_push (window entries x) c)

-- pieces are no more than strokes
few : (entries : List (List ℕ)) (x : List ℕ) (ps : List (List ℕ)) → AreSegments entries x ps → length ps ≤ length (concat ps)
few entries x [] h = omega arith
few entries x (p ∷ ps) h =
    omega (arith, few entries _ ps h.2, length-append p (concat ps), ap length h.1, length-first_piece entries x h.0)

-- A list has at most as many pieces as strokes.
pub segments-few : (entries : List (List ℕ)) (x : List ℕ) → length (segments entries x) ≤ length x
segments-few entries x = omega (arith, few entries x (segments entries x) (AreSegments-segments entries x), ap length (concat-segments entries x))
