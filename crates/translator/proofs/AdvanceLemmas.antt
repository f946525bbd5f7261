-- The ends while they take one stroke more, first one first.
use Rattle.std.proofs.Common.{◌≡◌, ℕ, ◌+◌, ◌<◌, ◌≤◌, List, [], ◌∷◌, ◌++◌, length, take, drop, map, get_or, set, sym, ap, subst, ◌∙◌, arith, inl, inr, Option, Some, None, true, false, append-nil, below_more, take_all}
use Rattle.std.proofs.lemmas.List.{drop_more, get_or_at, get_or_append_left, length-map, length-take-le, length_push, map-append, take-append-le, take_at, drop_all}
use Rattle.std.proofs.lemmas.List.Edits.{map_over_more}
use Rattle.outline_trie.specs.Tries.{child_of}
use Rattle.translator.specs.inside.Ends.{IsAdvance, longer_end, is_entry_end}

-- the ends before a place have longer_end, and none of them is an entry
pub record IsGrowing (entries : List (List ℕ)) (code : ℕ) (old now : List (Option ℕ)) (place : ℕ) : Type 0 where
  pub inside : place ≤ length old
  pub so_far : now ≡ map (longer_end entries code) (take place old) ++ drop place old
  pub none : (k : ℕ) → k < place → is_entry_end entries (longer_end entries code (get_or old k None)) ≡ false

module _ (entries : List (List ℕ)) (code : ℕ) (old now : List (Option ℕ)) (place : ℕ) (h : IsGrowing entries code old now place) where
  grown_long : length (map (longer_end entries code) (take place old)) ≡ place
  grown_long = length-map (take place old) (longer_end entries code) ∙ length-take-le place old h.inside

  -- the end that is read there has not longer_end yet
  read_old : (end : Option ℕ) → place < length old → end ≡ get_or now place end → end ≡ get_or old place None
  read_old end below read =
      let all : now ≡ map (longer_end entries code) (take place old) ++ get_or old place None ∷ drop (place + 1) old =
      h.so_far ∙ ap (λ l. map (longer_end entries code) (take place old) ++ l) (drop_more old place None below) in
      read ∙ ap (λ l. get_or l place end) all ∙ get_or_at (map (longer_end entries code) (take place old)) (get_or old place None) (drop (place + 1) old) end place grown_long

  -- the ends with that one longer_end
  set_grown : (end next : Option ℕ) → place < length old → end ≡ get_or now place end → next ≡ longer_end entries code end →
      set now place next ≡ map (longer_end entries code) (take (place + 1) old) ++ drop (place + 1) old
  set_grown end next below read is = ap (set now place) is ∙ map_over_more (longer_end entries code) old now place end below h.so_far read

  -- one end more that is no entry
  pub growing_more : (end next : Option ℕ) → place < length old → end ≡ get_or now place end → next ≡ longer_end entries code end → is_entry_end entries next ≡ false →
      IsGrowing entries code old (set now place next) (place + 1)
  growing_more end next below read is none = record {
    inside = omega arith;
    so_far = set_grown end next below read is;
    none = below_more _ _ h.none (ap (λ o. is_entry_end entries (longer_end entries code o)) (sym (read_old end below read)) ∙ ap (is_entry_end entries) (sym is) ∙ none);
  }

  -- among the ends and that of no strokes the ones before are the same
  old_at : (k : ℕ) → k < length old → get_or (old ++ Some 0 ∷ []) k None ≡ get_or old k None
  old_at k below = get_or_append_left old (Some 0 ∷ []) None k below

  old_none : (k : ℕ) → k < place → is_entry_end entries (longer_end entries code (get_or (old ++ Some 0 ∷ []) k None)) ≡ false
  old_none k below = ap (λ o. is_entry_end entries (longer_end entries code o)) (old_at k (omega (arith, h.inside))) ∙ h.none k below

  -- the first one that is an entry is the last that is kept
  pub advance_entry : (end next : Option ℕ) (new : List (Option ℕ)) → place < length old → end ≡ get_or now place end → next ≡ longer_end entries code end → is_entry_end entries next ≡ true →
      new ≡ take (place + 1) (set now place next) → IsAdvance entries code (old ++ Some 0 ∷ []) new place
  advance_entry end next new below read is entry cut = record {
    inside = omega (arith, length_push old (Some 0));
    grew = cut ∙ ap (take (place + 1)) (set_grown end next below read is)
        ∙ take_at (map (longer_end entries code) (take (place + 1) old)) (drop (place + 1) old) (place + 1) (length-map (take (place + 1) old) (longer_end entries code) ∙ length-take-le (place + 1) old (omega arith))
        ∙ ap (map (longer_end entries code)) (sym (take-append-le (place + 1) old (Some 0 ∷ []) (omega arith)));
    none = old_none;
    ends = inr (ap (λ o. is_entry_end entries (longer_end entries code o)) (old_at place below ∙ sym (read_old end below read)) ∙ ap (is_entry_end entries) (sym is) ∙ entry);
  }

  -- where none is, the stroke alone comes last
  pub advance_alone : (child : Option ℕ) (new : List (Option ℕ)) (last : ℕ) → length old ≤ place → child ≡ child_of entries 0 code → new ≡ now ++ child ∷ [] → last ≡ place → IsAdvance entries code (old ++ Some 0 ∷ []) new last
  advance_alone child new last all is more at_end =
      let here : place ≡ length old = omega (arith, h.inside) in
      subst (IsAdvance entries code (old ++ Some 0 ∷ []) new) (sym at_end) (record {
        inside = omega (arith, length_push old (Some 0));
        grew = more ∙ ap (λ l. l ++ child ∷ []) (h.so_far ∙ ap (λ l. map (longer_end entries code) (take place old) ++ l) (drop_all place old all) ∙ append-nil _ ∙ ap (map (longer_end entries code)) (take_all place old all))
            ∙ ap (λ o. map (longer_end entries code) old ++ o ∷ []) is ∙ sym (map-append (longer_end entries code) old (Some 0 ∷ []))
            ∙ ap (map (longer_end entries code)) (sym (take_all (place + 1) (old ++ Some 0 ∷ []) (omega (arith, length_push old (Some 0)))));
        none = old_none;
        ends = inl (omega (arith, length_push old (Some 0)));
      })
