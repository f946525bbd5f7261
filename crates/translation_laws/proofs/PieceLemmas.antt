-- Each piece is the longest entry that the rest begins with, or one stroke; and no other list of pieces is so.
use Rattle.std.proofs.Common.{◌≡◌, ◌≢◌, ℕ, ◌<◌, ◌≤◌, max, List, [], ◌∷◌, ◌++◌, length, take, drop, refl, sym, ap, subst, ◌∙◌, arith, Contains, ◌⊎◌, inl, inr, length-append, take_at, drop_at, take-append-drop, length-take-le}
use Rattle.std.specs.List.{concat}
use Rattle.std.proofs.lemmas.Bool.{cases_lt}
use Rattle.steno_rules.specs.Segments.{longest, IsLongest, first_piece, segments, AreSegments}
use Rattle.steno_rules.proofs.LongestLemmas.{longest-found, longest-covers}
use Rattle.steno_rules.proofs.SegmentLemmas.{length-first_piece, segments-only, AreSegments-segments, concat-AreSegments}
use Rattle.translation_laws.specs.Pieces.{IsMatch, IsLone}

-- The longest entry, without the walk over all entries.
pub longest-is : (entries : List (List ℕ)) (x : List ℕ) → IsLongest entries x (longest entries x)
longest-is entries x = record {
  found = elim (longest-found entries x) [
    | inl none ↦ inl none
    | inr found ↦ inr (take (longest entries x) x, drop (longest entries x) x, found.1, sym (take-append-drop (longest entries x) x), length-take-le (longest entries x) x found.0)
  ];
  no_longer = λ e rest has split.
      let front : take (length e) x ≡ e = ap (take (length e)) split ∙ take_at e rest (length e) refl in
      longest-covers entries x (length e) (omega (arith, ap length split, length-append e rest)) (rw front has);
}

-- of two such lengths none is greater
below : (entries : List (List ℕ)) (x : List ℕ) (n m : ℕ) → IsLongest entries x n → IsLongest entries x m → n ≤ m
below entries x n m a b = elim (a.found) [
  | inl none ↦ omega (arith, none)
  | inr found ↦ omega (arith, b.no_longer found.0 found.1 found.2 found.3, found.4)
]

-- No other length is that of the longest entry.
pub longest-only : (entries : List (List ℕ)) (x : List ℕ) (n : ℕ) → IsLongest entries x n → n ≡ longest entries x
longest-only entries x n h = omega (arith, below entries x n (longest entries x) h (longest-is entries x), below entries x (longest entries x) n (longest-is entries x) h)

-- a list without strokes
empty_of : (e : List ℕ) → length e ≤ 0 → e ≡ []
empty_of [] h = refl
empty_of (c ∷ e) h = absurd (omega (arith, h))

-- A first piece is a match, or a lone stroke.
first_is : (entries : List (List ℕ)) (p after : List ℕ) → p ++ after ≢ [] → p ≡ first_piece entries (p ++ after) → IsMatch entries p after ⊎ IsLone entries p after
first_is entries p after some is =
    let n : ℕ = longest entries (p ++ after) in
    let most = longest-is entries (p ++ after) in
    let long : length p ≡ max 1 n = ap length is ∙ length-first_piece entries (p ++ after) some in
    elim (cases_lt 0 n) [
      | inl lt ↦ inl (record {
        some = omega (arith, long);
        entry = elim (longest-found entries (p ++ after)) [
          | inl none ↦ absurd (omega (arith, none, lt))
          | inr found ↦
              let same : n ≡ max 1 n = omega (arith, lt) in
              let front : take n (p ++ after) ≡ p = ap (λ k. take k (p ++ after)) same ∙ sym is in
              subst (Contains entries) front found.1
        ];
        longest = λ e rest has split. omega (arith, long, lt, most.no_longer e rest has split);
      })
      | inr le ↦ inr (record {
        one = omega (arith, long, le);
        no_entry = λ e rest has split. empty_of e (omega (arith, le, most.no_longer e rest has split));
      })
    ]

-- the same, of any pieces of x
pieces_at : (entries : List (List ℕ)) (x : List ℕ) (before : List (List ℕ)) (p : List ℕ) (after : List (List ℕ)) → AreSegments entries x (before ++ p ∷ after) →
    IsMatch entries p (concat after) ⊎ IsLone entries p (concat after)
pieces_at entries x [] p after h =
    let all : x ≡ p ++ concat after = sym (concat-AreSegments entries x (p ∷ after) h) in
    first_is entries p (concat after) (λ none. h.0 (all ∙ none)) (h.1 ∙ ap (first_piece entries) all)
pieces_at entries x (b ∷ before) p after h = pieces_at entries (drop (length b) x) before p after h.2

-- Each piece is the longest entry that it and the strokes after it begin with, or one stroke.
pub pieces-are : (entries : List (List ℕ)) (x : List ℕ) (before : List (List ℕ)) (p : List ℕ) (after : List (List ℕ)) → segments entries x ≡ before ++ p ∷ after →
    IsMatch entries p (concat after) ⊎ IsLone entries p (concat after)
pieces-are entries x before p after split = pieces_at entries x before p after (subst (AreSegments entries x) split (AreSegments-segments entries x))

-- ---- the other way

-- a match or a lone stroke has a stroke
pub piece-some : (entries : List (List ℕ)) (p after : List ℕ) → IsMatch entries p after ⊎ IsLone entries p after → 0 < length p
piece-some entries p after (inl h) = h.some
piece-some entries p after (inr h) = omega (arith, h.one)

-- and is the first piece
piece_first : (entries : List (List ℕ)) (p after : List ℕ) → IsMatch entries p after ⊎ IsLone entries p after → p ≡ first_piece entries (p ++ after)
piece_first entries p after (inl h) =
    let long : length p ≡ longest entries (p ++ after) = longest-only entries (p ++ after) (length p) (record { found = inr (p, after, h.entry, refl, refl); no_longer = h.longest }) in
    sym (take_at p after (max 1 (longest entries (p ++ after))) (omega (arith, long, h.some)))
piece_first entries p after (inr h) =
    let none : 0 ≡ longest entries (p ++ after) = longest-only entries (p ++ after) 0 (record { found = inl refl; no_longer = λ e rest has split. omega (arith, ap length (h.no_entry e rest has split)) }) in
    sym (take_at p after (max 1 (longest entries (p ++ after))) (omega (arith, none, h.one)))

-- pieces that are each a match or a lone stroke are the pieces of what they make
are_segments : (entries ps : List (List ℕ)) →
    ((before : List (List ℕ)) (p : List ℕ) (after : List (List ℕ)) → ps ≡ before ++ p ∷ after → IsMatch entries p (concat after) ⊎ IsLone entries p (concat after)) →
    AreSegments entries (concat ps) ps
are_segments entries [] each = refl
are_segments entries (p ∷ ps) each =
    let is : IsMatch entries p (concat ps) ⊎ IsLone entries p (concat ps) = each [] p ps refl in
    let rest : drop (length p) (p ++ concat ps) ≡ concat ps = drop_at p (concat ps) (length p) refl in (
      λ none. omega (arith, piece-some entries p (concat ps) is, ap length none, length-append p (concat ps)),
      piece_first entries p (concat ps) is,
      rw rest (are_segments entries ps (λ before q after split. each (p ∷ before) q after (ap (λ l. p ∷ l) split))),
    )

-- No other list of such pieces makes x.
pub pieces-only : (entries : List (List ℕ)) (x : List ℕ) (ps : List (List ℕ)) → concat ps ≡ x →
    ((before : List (List ℕ)) (p : List ℕ) (after : List (List ℕ)) → ps ≡ before ++ p ∷ after → IsMatch entries p (concat after) ⊎ IsLone entries p (concat after)) →
    ps ≡ segments entries x
pieces-only entries x ps joined each = segments-only entries x ps (subst (λ l. AreSegments entries l ps) joined (are_segments entries ps each))
