-- A push: what becomes of the pieces, and that the translator's fields are right again.
use Rattle.std.proofs.Common.{◌≡◌, ℕ, ◌+◌, ◌-◌, ◌≤◌, List, [], ◌∷◌, ◌++◌, length, take, drop, map, get_or, sym, ap, subst, ◌∙◌, arith, ◌⊎◌, inl, inr, Option, Some, None, true, append_assoc, append-nil, add-one, All}
use Rattle.std.specs.List.{concat}
use Rattle.std.proofs.lemmas.List.{get_or_read, length_push, length-map, length-take-le, length-drop, map-append, take-map, drop_all, drop-map, take-append-drop}
use Rattle.std.proofs.lemmas.List.Elements.{All-from_recursion}
use Rattle.stroke.specs.declared.pieces.Piece.{Piece}
use Rattle.stroke.specs.Pieces.{piece_of, pieces as pieces_of}
use Rattle.outline_trie.specs.Tries.{longest_of}
use Rattle.outline_trie.proofs.DepthLemmas.{prefix_short}
use Rattle.steno_rules.specs.Live.{merge}
use Rattle.steno_rules.specs.Outlines.{is_entry}
use Rattle.steno_rules.specs.Segments.{segments}
use Rattle.steno_rules.specs.Windows.{is_prefix, window, window_pieces}
use Rattle.steno_rules.proofs.Prefixes.{is_prefix-entry}
use Rattle.translation_laws.proofs.Pushes.{window-pushed}
use Rattle.translation_laws.proofs.Readings.{window-is_end}
use Rattle.translation_laws.proofs.StrongWindow.{pieces_before}
use Rattle.translation_laws.proofs.WindowEnds.{segments-few}
use Rattle.translation_laws.proofs.WindowLemmas.{segments-push}
use Rattle.translator.specs.declared.translator.Merge.{Merge}
use Rattle.translator.specs.Translations.{IsMerge}
use Rattle.translator.specs.inside.Ends.{ends_of, IsEnd, IsAdvance, IsTranslator, longer_end, is_entry_end, lost_ends, piece_at}
use Rattle.translator.proofs.EndLemmas.{ends_there, length-ends_of, end_at, end_last, ends_after, merge_at, grown_is, entry_test, piece_is, window_is, drop-ends_of}

-- the pieces of the window
abbrev pub pieces_now : List (List ℕ) → List ℕ → List (List ℕ)
pieces_now entries x = segments entries (window entries x)

-- They are no more than the strokes of the longest entry.
pub window_short : (entries : List (List ℕ)) (x : List ℕ) → length (pieces_now entries x) ≤ longest_of entries
window_short entries x = omega (arith, segments-few entries (window entries x), prefix_short entries (window entries x) (window-is_end entries x).prefix)

-- Each of their ends is none or a node.
pub ends_known : (entries : List (List ℕ)) (x : List ℕ) (ends : List (Option ℕ)) → ends ≡ ends_of entries (pieces_now entries x) → All (IsEnd entries) ends
ends_known entries x ends is = subst (All (IsEnd entries)) (sym is) (All-from_recursion (IsEnd entries) (ends_of entries (pieces_now entries x)) (ends_there entries (pieces_now entries x)))

module _ (entries : List (List ℕ)) (x : List ℕ) (c place : ℕ) (old ends : List (Option ℕ)) (is : old ≡ ends_of entries (pieces_now entries x)) (a : IsAdvance entries c (old ++ Some 0 ∷ []) ends place) where
  -- the piece that is made
  made : List ℕ
  made = concat (drop place (pieces_now entries x)) ++ c ∷ []

  old_long : length old ≡ length (pieces_now entries x)
  old_long = ap length is ∙ length-ends_of entries (pieces_now entries x)

  -- the place is that of a piece, or follows them all
  pub place_within : place ≤ length (pieces_now entries x)
  place_within = omega (arith, a.inside, length_push old (Some 0), old_long)

  test_at : (k : ℕ) → k ≤ length (pieces_now entries x) → is_entry_end entries (longer_end entries c (get_or (old ++ Some 0 ∷ []) k None)) ≡ is_entry entries (concat (drop k (pieces_now entries x)) ++ c ∷ [])
  test_at k within =
      ap (λ l. is_entry_end entries (longer_end entries c (get_or (l ++ Some 0 ∷ []) k None))) is
      ∙ ap (λ o. is_entry_end entries (longer_end entries c o)) (end_at entries (pieces_now entries x) k within)
      ∙ ap (is_entry_end entries) (grown_is entries (concat (drop k (pieces_now entries x))) c)
      ∙ entry_test entries (concat (drop k (pieces_now entries x)) ++ c ∷ [])

  made_where : (place ≡ length (pieces_now entries x)) ⊎ (is_entry entries made ≡ true)
  unfolding made
  made_where = elim a.ends [
    | inl last ↦ inl (omega (arith, last, length_push old (Some 0), old_long))
    | inr entry ↦ inr (sym (test_at place place_within) ∙ entry)
  ]

  merged : merge entries (pieces_now entries x) c ≡ take place (pieces_now entries x) ++ made ∷ []
  unfolding made
  merged = merge_at entries (pieces_now entries x) c place place_within (λ k below. sym (test_at k (omega (arith, place_within))) ∙ a.none k below) made_where

  ends_new : ends ≡ ends_of entries (take place (pieces_now entries x) ++ made ∷ [])
  unfolding made
  ends_new =
      a.grew ∙ ap (λ l. map (longer_end entries c) (take (place + 1) (l ++ Some 0 ∷ []))) is
      ∙ rw add-one (ends_after entries (pieces_now entries x) c place place_within)

  -- the ends are kept up to that place
  pub new_long : length ends ≡ place + 1
  new_long = ap length ends_new ∙ length-ends_of entries (take place (pieces_now entries x) ++ made ∷ []) ∙ length_push (take place (pieces_now entries x)) made
      ∙ ap (λ n. n + 1) (length-take-le place (pieces_now entries x) place_within)

  made_length : (place ≡ length (pieces_now entries x)) → length made ≡ 1
  unfolding made
  made_length all = ap (λ l. length (concat l ++ c ∷ [])) (drop_all place (pieces_now entries x) (omega arith))

  made_begins : (length made ≡ 1) ⊎ (is_prefix entries made ≡ true)
  made_begins = elim made_where [ inl all ↦ inl (made_length all) | inr entry ↦ inr (is_prefix-entry entries made entry) ]

  piece_made : piece_at entries (get_or ends place None) ≡ piece_of entries made
  piece_made =
      ap (λ l. piece_at entries (get_or l place None)) ends_new
      ∙ ap (λ n. piece_at entries (get_or (ends_of entries (take place (pieces_now entries x) ++ made ∷ [])) n None)) (sym (length-take-le place (pieces_now entries x) place_within))
      ∙ ap (piece_at entries) (end_last entries (take place (pieces_now entries x)) made)
      ∙ piece_is entries made made_begins

  piece_read : (end : Option ℕ) (piece : Piece) → end ≡ get_or ends place end → piece ≡ piece_at entries end → piece ≡ piece_of entries made
  piece_read end piece read told = told ∙ ap (piece_at entries) (get_or_read ends place end (omega (arith, new_long)) read None) ∙ piece_made

  -- ---- the fields

  pieces_new : (pieces : List Piece) (piece : Piece) → pieces ≡ map (piece_of entries) (pieces_now entries x) → piece ≡ piece_of entries made →
      take place pieces ++ piece ∷ [] ≡ map (piece_of entries) (take place (pieces_now entries x) ++ made ∷ [])
  pieces_new pieces piece are here =
      ap (λ l. take place l ++ piece ∷ []) are ∙ ap (λ l. l ++ piece ∷ []) (take-map (piece_of entries) place (pieces_now entries x))
      ∙ ap (λ p. map (piece_of entries) (take place (pieces_now entries x)) ++ p ∷ []) here
      ∙ sym (map-append (piece_of entries) (take place (pieces_now entries x)) (made ∷ []))

  window_new : drop (lost_ends ends) (take place (pieces_now entries x) ++ made ∷ []) ≡ pieces_now entries (x ++ c ∷ [])
  window_new =
      ap (λ l. drop (lost_ends l) (take place (pieces_now entries x) ++ made ∷ [])) ends_new ∙ window_is entries (take place (pieces_now entries x) ++ made ∷ [])
      ∙ ap (window_pieces entries) (sym merged) ∙ sym (window-pushed entries x c)

  -- The fields after the push.
  pub pushed : (strokes : List ℕ) (pieces next : List Piece) (end : Option ℕ) (piece : Piece) (kept : List (Option ℕ)) (piece_places end_places : ℕ) → longest_of entries ≤ 64 →
      pieces ≡ map (piece_of entries) (pieces_now entries x) → end ≡ get_or ends place end → piece ≡ piece_at entries end →
      strokes ≡ x ++ c ∷ [] → next ≡ drop (lost_ends ends) (take place pieces ++ piece ∷ []) → kept ≡ drop (lost_ends ends) ends → longest_of entries + 1 ≤ piece_places → longest_of entries + 1 ≤ end_places →
      IsTranslator entries strokes next kept piece_places end_places
  pushed strokes pieces next end piece kept piece_places end_places short are read here told cut cut_ends room_of_pieces room_of_ends =
      subst (λ y. IsTranslator entries y next kept piece_places end_places) (sym told) (record {
        short = short;
        are_pieces = cut ∙ ap (drop (lost_ends ends)) (pieces_new pieces piece are (piece_read end piece read here)) ∙ drop-map (piece_of entries) (lost_ends ends) (take place (pieces_now entries x) ++ made ∷ []) ∙ ap (map (piece_of entries)) window_new;
        are_ends = cut_ends ∙ ap (drop (lost_ends ends)) ends_new ∙ drop-ends_of entries (take place (pieces_now entries x) ++ made ∷ []) (lost_ends ends) ∙ ap (ends_of entries) window_new;
        room_of_pieces = room_of_pieces;
        room_of_ends = room_of_ends;
      })

  -- ---- the answer

  -- What the push answers is what it does to the pieces of all strokes.
  pub answered : (end : Option ℕ) (merge : Merge) → merge.replaced ≡ length (pieces_now entries x) - place → end ≡ get_or ends place end → merge.piece ≡ piece_at entries end → IsMerge (pieces_of entries x) (pieces_of entries (x ++ c ∷ [])) merge
  answered end merge count read here =
      let front = pieces_before entries x in
      let all : segments entries x ≡ front.0 ++ (take place (pieces_now entries x) ++ drop place (pieces_now entries x)) = ap (segments entries) (sym (append-nil x)) ∙ front.1 [] ∙ ap (λ l. front.0 ++ l) (ap (segments entries) (append-nil (window entries x)) ∙ sym (take-append-drop place (pieces_now entries x))) in
      let new : segments entries (x ++ c ∷ []) ≡ front.0 ++ (take place (pieces_now entries x) ++ made ∷ []) = front.1 (c ∷ []) ∙ ap (λ l. front.0 ++ l) (segments-push entries (window entries x) c ∙ merged) in
      record {
        kept = map (piece_of entries) (front.0 ++ take place (pieces_now entries x));
        taken = map (piece_of entries) (drop place (pieces_now entries x));
        before = ap (map (piece_of entries)) (all ∙ sym (append_assoc front.0 _ _)) ∙ map-append (piece_of entries) (front.0 ++ take place (pieces_now entries x)) (drop place (pieces_now entries x));
        count = length-map (drop place (pieces_now entries x)) (piece_of entries) ∙ length-drop place (pieces_now entries x) ∙ sym count;
        after = ap (map (piece_of entries)) (new ∙ sym (append_assoc front.0 _ _)) ∙ map-append (piece_of entries) (front.0 ++ take place (pieces_now entries x)) (made ∷ [])
            ∙ ap (λ p. map (piece_of entries) (front.0 ++ take place (pieces_now entries x)) ++ p ∷ []) (sym (piece_read end merge.piece read here));
      }
