-- One more stroke changes the pieces of the whole list just as it changes the pieces of the window.
use Rattle.std.proofs.Common.{◌≡◌, ℕ, List, [], ◌∷◌, ◌++◌, length, refl, sym, ap, subst, ◌∙◌, ◌⊎◌, inl, inr, append_assoc, append-nil}
use Rattle.std.specs.List.{concat}
use Rattle.steno_rules.specs.Segments.{segments}
use Rattle.steno_rules.specs.Live.{merge, ReplacesLongestRun, AddsStroke}
use Rattle.steno_rules.specs.Windows.{window, window_pieces}
use Rattle.translation_laws.specs.Pushes.{IsPush}
use Rattle.translation_laws.proofs.Readings.{merge-reads}
use Rattle.translation_laws.proofs.WindowLemmas.{segments-push, segments-window, window_pieces-merge}
use Rattle.translation_laws.proofs.StrongWindow.{pieces_before}

-- what one more stroke does, by the number of pieces that it takes
push_of : (entries old : List (List ℕ)) (c : ℕ) (new : List (List ℕ)) → ReplacesLongestRun entries old c new ⊎ AddsStroke entries old c new → (replaced : ℕ) × IsPush old c new replaced
push_of entries old c new (inl h) = (length h.run, record { kept = h.kept; run = h.run; before = h.makes.split; after = h.replaced; count = refl })
push_of entries old c new (inr h) = (0, record { kept = old; run = []; before = sym (append-nil old); after = h.added; count = refl })

-- pieces in front stay
more_in_front : (front old : List (List ℕ)) (c : ℕ) (new : List (List ℕ)) (replaced : ℕ) → IsPush old c new replaced → IsPush (front ++ old) c (front ++ new) replaced
more_in_front front old c new replaced h = record {
  kept = front ++ h.kept;
  run = h.run;
  before = ap (λ l. front ++ l) h.before ∙ sym (append_assoc front h.kept h.run);
  after = ap (λ l. front ++ l) h.after ∙ sym (append_assoc front h.kept ((concat h.run ++ c ∷ []) ∷ []));
  count = h.count;
}

-- The last pieces that become one, together with the stroke, are as many in the whole list as in the window.
pub pushes : (entries : List (List ℕ)) (x : List ℕ) (c : ℕ) →
    (replaced : ℕ) × IsPush (segments entries x) c (segments entries (x ++ c ∷ [])) replaced
    × IsPush (segments entries (window entries x)) c (segments entries (window entries x ++ c ∷ [])) replaced
pushes entries x c =
    let w : List ℕ = window entries x in
    let found = pieces_before entries x in
    let push = push_of entries (segments entries w) c (merge entries (segments entries w) c) (merge-reads entries (segments entries w) c) in
    let inner : IsPush (segments entries w) c (segments entries (w ++ c ∷ [])) push.0 =
    subst (λ l. IsPush (segments entries w) c l push.0) (sym (segments-push entries w c)) push.1 in
    let outer : IsPush (found.0 ++ segments entries w) c (found.0 ++ segments entries (w ++ c ∷ [])) push.0 =
    more_in_front found.0 (segments entries w) c (segments entries (w ++ c ∷ [])) push.0 inner in
    let whole : segments entries x ≡ found.0 ++ segments entries w =
    ap (segments entries) (sym (append-nil x)) ∙ found.1 [] ∙ ap (λ l. found.0 ++ segments entries l) (append-nil w) in
    (push.0, subst (λ l. IsPush l c (segments entries (x ++ c ∷ [])) push.0) (sym whole) (subst (λ l. IsPush (found.0 ++ segments entries w) c l push.0) (sym (found.1 (c ∷ []))) outer), inner)

-- The longest run, of the whole list: the live law and what merging does.
pub segments-appended : (entries : List (List ℕ)) (x : List ℕ) (c : ℕ) →
    ReplacesLongestRun entries (segments entries x) c (segments entries (x ++ c ∷ [])) ⊎ AddsStroke entries (segments entries x) c (segments entries (x ++ c ∷ []))
segments-appended entries x c =
    subst (λ l. ReplacesLongestRun entries (segments entries x) c l ⊎ AddsStroke entries (segments entries x) c l) (sym (segments-push entries x c)) (merge-reads entries (segments entries x) c)

-- The window's pieces after one more stroke, from the window's pieces alone.
pub window-pushed : (entries : List (List ℕ)) (x : List ℕ) (c : ℕ) →
    segments entries (window entries (x ++ c ∷ [])) ≡ window_pieces entries (merge entries (segments entries (window entries x)) c)
window-pushed entries x c =
    segments-window entries (x ++ c ∷ []) ∙ ap (window_pieces entries) (segments-push entries x c) ∙ window_pieces-merge entries (segments entries x) c
    ∙ ap (λ l. window_pieces entries (merge entries l c)) (sym (segments-window entries x))

-- The same, with what is made of the window's pieces.
pub pushes-merge : (entries : List (List ℕ)) (x : List ℕ) (c : ℕ) →
    (replaced : ℕ) × IsPush (segments entries x) c (segments entries (x ++ c ∷ [])) replaced
    × IsPush (segments entries (window entries x)) c (merge entries (segments entries (window entries x)) c) replaced
pushes-merge entries x c =
    let both = pushes entries x c in
    (both.0, both.1, subst (λ l. IsPush (segments entries (window entries x)) c l both.0) (segments-push entries (window entries x) c) both.2)
