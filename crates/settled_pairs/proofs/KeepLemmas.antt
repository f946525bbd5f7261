-- A piece stays where strokes follow exactly where no last piece reaches back into it, stroke by stroke.
use Rattle.std.proofs.Common.{◌≡◌, ℕ, ◌+◌, ◌<◌, ◌≤◌, List, [], ◌∷◌, ◌++◌, length, refl, sym, ap, subst, ◌∙◌, arith, inl, inr, Option, Some, None, append_assoc, append-nil, length-append}
use Rattle.std.specs.List.{concat, last_or}
use Rattle.std.proofs.lemmas.List.{length_push}
use Rattle.std.proofs.lemmas.List.Folds.{concat-append}
use Rattle.steno_rules.specs.Segments.{segments, last_piece}
use Rattle.steno_rules.specs.Windows.{window}
use Rattle.steno_rules.proofs.Lists.{two_cuts}
use Rattle.steno_rules.proofs.SegmentLemmas.{concat-segments, last_or-short}
use Rattle.translation_laws.specs.Pieces.{HasPiece}
use Rattle.translation_laws.proofs.FrontLemmas.{last_or-snoc, piece-front}
use Rattle.translation_laws.proofs.Pushes.{pushes}
use Rattle.translation_laws.proofs.WindowLemmas.{last_piece-push, window-push}
use Rattle.settled_pairs.specs.inside.Ways.{IsLastWithin, Passes}

-- the strokes after a piece
after_piece : (entries : List (List ℕ)) (x e : List ℕ) (n t : ℕ) → (h : HasPiece entries x e n) → length x ≡ n + length e + t → length (concat h.after) ≡ t
after_piece entries x e n t h long =
    let all : concat (segments entries x) ≡ concat h.before ++ (e ++ concat h.after) = ap concat h.split ∙ concat-append h.before (e ∷ h.after) in
    omega (arith, ap length (concat-segments entries x), ap length all, length-append (concat h.before) (e ++ concat h.after), length-append e (concat h.after), h.start, long)

-- ---- one stroke

-- the last of a list with a part behind it is that of the part
last_or-behind : (ps : List (List ℕ)) (q : List ℕ) (qs : List (List ℕ)) (o : Option (List ℕ)) → last_or o (ps ++ q ∷ qs) ≡ last_or None (q ∷ qs)
last_or-behind [] q qs o = refl
last_or-behind (p ∷ ps) q qs o = last_or-behind ps q qs (Some p)

-- where a piece isn't the last one, the last one lies behind it
last_behind : (entries : List (List ℕ)) (x e : List ℕ) (n : ℕ) → (h : HasPiece entries x e n) → 0 < length (concat h.after) → IsLastWithin entries x (length (concat h.after))
last_behind entries x e n h some = by h.after refl
  where
    by : (after : List (List ℕ)) → h.after ≡ after → IsLastWithin entries x (length (concat h.after))
    by [] is p last = absurd (omega (arith, some, ap (λ l. length (concat l)) is))
    by (q ∷ qs) is p last =
        let all : last_piece entries x ≡ last_or None (q ∷ qs) = ap (last_or None) (h.split ∙ ap (λ l. h.before ++ e ∷ l) is) ∙ last_or-behind h.before e (q ∷ qs) None in
        omega (arith, last_or-short (q ∷ qs) p (sym all ∙ last), ap (λ l. length (concat l)) is)

-- The piece stays with a stroke where the last piece doesn't reach it.
piece_on : (entries : List (List ℕ)) (x e : List ℕ) (n c t : ℕ) → (h : HasPiece entries x e n) → 0 < length e → length x ≡ n + length e + t →
    IsLastWithin entries (x ++ c ∷ []) (t + 1) → HasPiece entries (x ++ c ∷ []) e n
piece_on entries x e n c t h some long within =
    let push = (pushes entries x c).1 in
    let last : List ℕ = concat push.run ++ c ∷ [] in
    let fits : length last ≤ t + 1 = within last (ap (last_or None) push.after ∙ last_or-snoc push.kept last None) in
    let behind : length (concat h.after) ≡ t = after_piece entries x e n t h long in
    elim (two_cuts push.kept push.run h.before (e ∷ h.after) (sym push.before ∙ h.split)) [
      | inl k ↦
          absurd (omega (
            arith,
            some,
            fits,
            behind,
            length_push (concat push.run) c,
            ap (λ l. length (concat l)) k.2,
            ap length (concat-append k.0 (e ∷ h.after)),
            length-append (concat k.0) (e ++ concat h.after),
            length-append e (concat h.after),
          ))
      | inr k ↦
          let first : e ≡ k.0 = cc (k.3) in
          record {
            before = h.before;
            after = k.1 ++ last ∷ [];
            split = push.after ∙ ap (λ l. l ++ last ∷ []) k.2 ∙ append_assoc h.before (k.0 ∷ k.1) (last ∷ []) ∙ ap (λ l. h.before ++ l ∷ (k.1 ++ last ∷ [])) (sym first);
            start = h.start;
          }
    ]

-- What stays with strokes stays with the first of them.
piece_first : (entries : List (List ℕ)) (x e : List ℕ) (n c t : ℕ) (z : List ℕ) → HasPiece entries (x ++ c ∷ z) e n → length x ≡ n + length e + t → HasPiece entries (x ++ c ∷ []) e n
piece_first entries x e n c t z h long =
    let front : List ℕ = concat h.before ++ e in
    let joined : front ++ concat h.after ≡ x ++ c ∷ z =
    append_assoc (concat h.before) e (concat h.after) ∙ sym (concat-append h.before (e ∷ h.after)) ∙ sym (ap concat h.split) ∙ concat-segments entries (x ++ c ∷ z) in
    elim (two_cuts front (concat h.after) x (c ∷ z) joined) [
      | inl k ↦
          let cut : concat h.after ≡ (k.0 ++ c ∷ []) ++ z = k.2 ∙ sym (append_assoc k.0 (c ∷ []) z) in
          let same : front ++ (k.0 ++ c ∷ []) ≡ x ++ c ∷ [] = sym (append_assoc front k.0 (c ∷ [])) ∙ ap (λ l. l ++ c ∷ []) (sym k.1) in
          subst (λ l. HasPiece entries l e n) same (piece-front entries (x ++ c ∷ z) e (k.0 ++ c ∷ []) z n h cut).1
      | inr k ↦ absurd (omega (arith, long, ap length k.2, length-append x (k.0 ∷ k.1), length-append (concat h.before) e, h.start))
    ]

-- ---- all strokes

-- how long a list with a stroke more is
longer : (x : List ℕ) (n m c t : ℕ) → length x ≡ n + m + t → length (x ++ c ∷ []) ≡ n + m + (t + 1)
longer x n m c t long = omega (arith, long, length_push x c)

-- Strokes behind which the piece stands pass,
pub keeps_passes : (entries : List (List ℕ)) (x e : List ℕ) (n t : ℕ) (z : List ℕ) → length x ≡ n + length e + t → HasPiece entries (x ++ z) e n → Passes entries (window entries x) t z
keeps_passes entries x e n t [] long h = tt
keeps_passes entries x e n t (c ∷ z) long h =
    let y : List ℕ = x ++ c ∷ [] in
    let on : HasPiece entries y e n = piece_first entries x e n c t z h long in
    let more : length y ≡ n + length e + (t + 1) = longer x n (length e) c t long in
    let behind : length (concat on.after) ≡ t + 1 = after_piece entries y e n (t + 1) on more in
    let within : IsLastWithin entries y (length (concat on.after)) = last_behind entries y e n on (omega (arith, behind)) in
    let rest = keeps_passes entries y e n (t + 1) z more (subst (λ l. HasPiece entries l e n) (sym (append_assoc x (c ∷ []) z)) h) in (
      λ p last. omega (arith, within p (last_piece-push entries x c ∙ last), behind),
      subst (λ w. Passes entries w (t + 1) z) (window-push entries x c) rest,
    )

-- and behind strokes that pass the piece stands.
pub passes_keeps : (entries : List (List ℕ)) (x e : List ℕ) (n t : ℕ) (z : List ℕ) → HasPiece entries x e n → 0 < length e → length x ≡ n + length e + t → Passes entries (window entries x) t z → HasPiece entries (x ++ z) e n
passes_keeps entries x e n t [] h some long passes = subst (λ l. HasPiece entries l e n) (sym (append-nil x)) h
passes_keeps entries x e n t (c ∷ z) h some long passes =
    let y : List ℕ = x ++ c ∷ [] in
    let on : HasPiece entries y e n = piece_on entries x e n c t h some long (λ p last. passes.0 p (sym (last_piece-push entries x c) ∙ last)) in
    let rest = passes_keeps entries y e n (t + 1) z on some (longer x n (length e) c t long) (subst (λ w. Passes entries w (t + 1) z) (sym (window-push entries x c)) passes.1) in
    subst (λ l. HasPiece entries l e n) (append_assoc x (c ∷ []) z) rest
