-- How far the generator has come.
use Rattle.std.proofs.Common.{ℕ, zero, suc, ◌≡◌, ◌+◌, List, [], ◌∷◌, ◌++◌, Bool, true, false, true≢false, cond, not, ◌||◌, filter, flat_map, nat_lt, refl, sym, ap, subst, ◌∙◌, arith, codes, append_assoc, append-nil, if◌then◌else◌, bytes_eq}
use Rattle.std.specs.List.{join_by, list_any, range_with_len}
use Rattle.std.proofs.lemmas.Bool.{lt-ltb}
use Rattle.std.proofs.lemmas.Grind.{flat_map-append}
use Rattle.std.proofs.lemmas.List.Elements.{filter-append}
use Rattle.std.proofs.lemmas.List.Folds.{list_any-append}
use Rattle.std.proofs.lemmas.Slice.Eq.{bytes_eq-Decides}
use Rattle.dict_json.specs.Generated.{drawn, after_draws, first_draw, key_text, key_of, is_new, member_text, entry_length}

-- the entries below i are done; `has` tells which keys were written
pub record IsWriting (start i value : ℕ) (has : List ℕ → Bool) (members : List ℕ) : Type 0 where
  pub draws : drawn value ≡ first_draw start i
  pub written : (q : List ℕ) → has q ≡ list_any (λ j. bytes_eq (key_of start j) q) (range_with_len 0 i)
  pub text : members ≡ join_by (member_text start) (codes ",\n") (filter (is_new start) (range_with_len 0 i))

range_more : (a n j : ℕ) → a + n ≡ j → range_with_len a (suc n) ≡ range_with_len a n ++ j ∷ []
range_more a zero j e = let same : a ≡ j = omega (arith, e) in ap (λ n. n ∷ []) same
range_more a (suc n) j e = ap (λ l. a ∷ l) (range_more (a + 1) n j (omega (arith, e)))

any_more : (p : ℕ → Bool) (xs : List ℕ) (y : ℕ) → list_any p (xs ++ y ∷ []) ≡ list_any p xs || p y
any_more p xs y = list_any-append p xs (y ∷ []) ∙ ap (λ b. list_any p xs || b) (alone (p y))
  where
    alone : (b : Bool) → b || false ≡ b
    alone true = refl
    alone false = refl

join_more : (f : ℕ → List ℕ) (sep : List ℕ) (x : ℕ) (xs : List ℕ) (y : ℕ) → join_by f sep (x ∷ xs ++ y ∷ []) ≡ join_by f sep (x ∷ xs) ++ (sep ++ f y)
join_more f sep x xs y =
    ap (λ l. f x ++ l) (flat_map-append (λ z. sep ++ f z) xs (y ∷ []) ∙ ap (λ l. flat_map (λ z. sep ++ f z) xs ++ l) (append-nil (sep ++ f y)))
    ∙ sym (append_assoc (f x) (flat_map (λ z. sep ++ f z) xs) (sep ++ f y))

-- the text of the entries below i, and that of entry i after it
text_more : (start i : ℕ) → join_by (member_text start) (codes ",\n") (filter (is_new start) (range_with_len 0 i) ++ i ∷ [])
    ≡ join_by (member_text start) (codes ",\n") (filter (is_new start) (range_with_len 0 i)) ++ ((if nat_lt 0 i then codes ",\n" else []) ++ member_text start i)
text_more start zero = append-nil (member_text start 0)
text_more start (suc m) =
    join_more (member_text start) (codes ",\n") 0 (filter (is_new start) (range_with_len (0 + 1) m)) (suc m)
    ∙ ap (λ b. join_by (member_text start) (codes ",\n") (filter (is_new start) (range_with_len 0 (suc m))) ++ ((if b then codes ",\n" else []) ++ member_text start (suc m))) (sym (lt-ltb 0 (suc m) (omega arith)))

module _ (start i value next : ℕ) (has : List ℕ → Bool) (members : List ℕ) (w : IsWriting start i value has members) (drew : next ≡ after_draws (entry_length (drawn value)) (drawn value)) where
  draws_more : drawn next ≡ first_draw start (suc i)
  draws_more = ap drawn drew ∙ ap (λ x. drawn (after_draws (entry_length x) x)) w.draws

  pub key_here : key_text (drawn value) ≡ key_of start i
  key_here = ap key_text w.draws

  written_more : (q : List ℕ) → list_any (λ j. bytes_eq (key_of start j) q) (range_with_len 0 (suc i)) ≡ has q || bytes_eq (key_of start i) q
  written_more q = ap (list_any (λ j. bytes_eq (key_of start j) q)) (range_more 0 i i (omega arith)) ∙ any_more (λ j. bytes_eq (key_of start j) q) (range_with_len 0 i) i ∙ ap (λ b. b || bytes_eq (key_of start i) q) (sym (w.written q))

  filter_more : filter (is_new start) (range_with_len 0 (suc i)) ≡ filter (is_new start) (range_with_len 0 i) ++ cond (is_new start i) (i ∷ []) []
  filter_more = ap (filter (is_new start)) (range_more 0 i i (omega arith)) ∙ filter-append (is_new start) (range_with_len 0 i) (i ∷ [])

  absorbed : (q : List ℕ) (b h : Bool) → bytes_eq (key_of start i) q ≡ b → has q ≡ h → has (key_of start i) ≡ true → h || b ≡ h
  absorbed q b true is had known = refl
  absorbed q false false is had known = refl
  absorbed q true false is had known = absurd (true≢false (sym known ∙ ap has ((bytes_eq-Decides (key_of start i) q).0 is) ∙ had))

  -- a key that was written
  pub writing_known : has (key_of start i) ≡ true → IsWriting start (suc i) next has members
  writing_known known = record {
    draws = draws_more;
    written = λ q. sym (written_more q ∙ absorbed q (bytes_eq (key_of start i) q) (has q) refl refl known);
    text = w.text ∙ ap (join_by (member_text start) (codes ",\n"))
        (sym (filter_more ∙ ap (λ b. filter (is_new start) (range_with_len 0 i) ++ cond (not b) (i ∷ []) []) (sym (w.written (key_of start i)) ∙ known) ∙ append-nil (filter (is_new start) (range_with_len 0 i))));
  }

  either_way : (h b : Bool) → cond b true h ≡ h || b
  either_way true true = refl
  either_way true false = refl
  either_way false true = refl
  either_way false false = refl

  -- a new key
  pub writing_new : (had : List ℕ → Bool) (more : List ℕ) → has (key_of start i) ≡ false → ((q : List ℕ) → had q ≡ cond (bytes_eq (key_of start i) q) true (has q))
      → more ≡ members ++ ((if nat_lt 0 i then codes ",\n" else []) ++ member_text start i) → IsWriting start (suc i) next had more
  writing_new had more unknown adds writes = record {
    draws = draws_more;
    written = λ q. adds q ∙ either_way (has q) (bytes_eq (key_of start i) q) ∙ sym (written_more q);
    text = writes ∙ ap (λ l. l ++ ((if nat_lt 0 i then codes ",\n" else []) ++ member_text start i)) w.text ∙ sym (text_more start i)
        ∙ ap (join_by (member_text start) (codes ",\n")) (sym (filter_more ∙ ap (λ b. filter (is_new start) (range_with_len 0 i) ++ cond (not b) (i ∷ []) []) (sym (w.written (key_of start i)) ∙ unknown)));
  }

-- the numbers of a loop go up by adding one
pub next_entry : (start i value : ℕ) (has : List ℕ → Bool) (members : List ℕ) → IsWriting start (suc i) value has members → IsWriting start (i + 1) value has members
next_entry start i value has members w = let one : suc i ≡ i + 1 = omega arith in subst (λ k. IsWriting start k value has members) one w
