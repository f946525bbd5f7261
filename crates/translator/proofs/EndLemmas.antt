-- The ends of pieces: what each of them tells, and what becomes of them by one more stroke.
use Rattle.std.proofs.Common.{◌≡◌, ℕ, zero, suc, ◌+◌, ◌<◌, ◌≤◌, List, [], ◌∷◌, ◌++◌, length, take, drop, map, get_or, refl, sym, ap, ◌∙◌, arith, ◌⊎◌, inl, inr, Option, Some, None, Bool, true, false, true≢false, cond, not, is_some, append_assoc, append-nil}
use Rattle.std.specs.List.{concat, AllByRecursion}
use Rattle.stroke.specs.Pieces.{piece_of}
use Rattle.outline_trie.proofs.LookLemmas.{front_none, node_test, root_is, root_number}
use Rattle.steno_rules.specs.Live.{merge}
use Rattle.steno_rules.specs.Nodes.{nodes}
use Rattle.steno_rules.specs.Outlines.{is_entry, entry_number}
use Rattle.steno_rules.specs.Windows.{is_prefix, window_pieces}
use Rattle.steno_rules.proofs.Numbers.{entry_number-Some, number_test, none_there}
use Rattle.steno_rules.proofs.Prefixes.{apart_entry}
use Rattle.translator.specs.inside.Ends.{ends_of, IsEnd, longer_end, is_entry_end, lost_ends, piece_at}

-- ---- one end

-- the end of some strokes is none or a node
pub end_there : (entries : List (List ℕ)) (x : List ℕ) → IsEnd entries (entry_number (nodes entries) x)
end_there entries x = by (entry_number (nodes entries) x) refl
  where
    by : (o : Option ℕ) → entry_number (nodes entries) x ≡ o → IsEnd entries o
    by None is = tt
    by (Some n) is = (entry_number-Some (nodes entries) x n is).0

-- an end with one stroke more is the end of the strokes and that one
pub grown_is : (entries : List (List ℕ)) (x : List ℕ) (c : ℕ) → longer_end entries c (entry_number (nodes entries) x) ≡ entry_number (nodes entries) (x ++ c ∷ [])
grown_is entries x c = by (entry_number (nodes entries) x) refl
  where
    by : (o : Option ℕ) → entry_number (nodes entries) x ≡ o → longer_end entries c o ≡ entry_number (nodes entries) (x ++ c ∷ [])
    by None is = sym (front_none entries x (c ∷ []) is)
    by (Some n) is = ap (λ u. entry_number (nodes entries) (u ++ c ∷ [])) (entry_number-Some (nodes entries) x n is).1

-- the test of an end tells whether its strokes are an entry
pub entry_test : (entries : List (List ℕ)) (x : List ℕ) → is_entry_end entries (entry_number (nodes entries) x) ≡ is_entry entries x
entry_test entries x = by (entry_number (nodes entries) x) refl
  where
    by : (o : Option ℕ) → entry_number (nodes entries) x ≡ o → is_entry_end entries o ≡ is_entry entries x
    by None is = sym (apart_entry entries x (sym (node_test entries x) ∙ ap is_some is))
    by (Some n) is = ap (λ u. is_some (entry_number entries u)) (entry_number-Some (nodes entries) x n is).1 ∙ number_test entries x

-- the piece of an end is that of its strokes, where they begin an entry or are one stroke
pub piece_is : (entries : List (List ℕ)) (x : List ℕ) → (length x ≡ 1) ⊎ (is_prefix entries x ≡ true) → piece_at entries (entry_number (nodes entries) x) ≡ piece_of entries x
piece_is entries x made = by (entry_number (nodes entries) x) refl made
  where
    by : (o : Option ℕ) → entry_number (nodes entries) x ≡ o → (length x ≡ 1) ⊎ (is_prefix entries x ≡ true) → piece_at entries o ≡ piece_of entries x
    by None is (inl one) = rw (one, none_there (entry_number entries x) (number_test entries x ∙ apart_entry entries x (sym (node_test entries x) ∙ ap is_some is))) refl
    by None is (inr begins) = absurd (true≢false (sym begins ∙ sym (node_test entries x) ∙ ap is_some is))
    by (Some n) is _ = ap (piece_of entries) (entry_number-Some (nodes entries) x n is).1

-- ---- all ends

-- each end is none or a node
pub ends_there : (entries ps : List (List ℕ)) → AllByRecursion (IsEnd entries) (ends_of entries ps)
ends_there entries [] = tt
ends_there entries (p ∷ ps) = (end_there entries (concat (p ∷ ps)), ends_there entries ps)

-- there is one for each piece
pub length-ends_of : (entries ps : List (List ℕ)) → length (ends_of entries ps) ≡ length ps
length-ends_of entries [] = refl
length-ends_of entries (p ∷ ps) = ap suc (length-ends_of entries ps)

-- the end of the pieces from a place on, or of no piece
pub end_at : (entries ps : List (List ℕ)) (k : ℕ) → k ≤ length ps → get_or (ends_of entries ps ++ Some 0 ∷ []) k None ≡ entry_number (nodes entries) (concat (drop k ps))
end_at entries [] zero within = sym (root_number entries)
end_at entries [] (suc k) within = absurd (omega arith)
end_at entries (p ∷ ps) zero within = refl
end_at entries (p ∷ ps) (suc k) within = end_at entries ps k (omega arith)

-- that of the last piece
pub end_last : (entries ps : List (List ℕ)) (q : List ℕ) → get_or (ends_of entries (ps ++ q ∷ [])) (length ps) None ≡ entry_number (nodes entries) q
end_last entries [] q = ap (entry_number (nodes entries)) (append-nil q)
end_last entries (p ∷ ps) q = end_last entries ps q

-- the pieces to a place and the rest with one stroke more are all of them with it
joined : (ps : List (List ℕ)) (c k : ℕ) → concat (take k ps ++ (concat (drop k ps) ++ c ∷ []) ∷ []) ≡ concat ps ++ c ∷ []
joined [] c zero = refl
joined [] c (suc k) = refl
joined (p ∷ ps) c zero = append-nil _
joined (p ∷ ps) c (suc k) = ap (λ l. p ++ l) (joined ps c k) ∙ sym (append_assoc p (concat ps) (c ∷ []))

-- the ends with one more stroke, where the pieces from a place on become one
pub ends_after : (entries ps : List (List ℕ)) (c k : ℕ) → k ≤ length ps →
    map (longer_end entries c) (take (suc k) (ends_of entries ps ++ Some 0 ∷ [])) ≡ ends_of entries (take k ps ++ (concat (drop k ps) ++ c ∷ []) ∷ [])
ends_after entries [] c zero within = ap (λ u. entry_number (nodes entries) (u ++ c ∷ []) ∷ []) (root_is entries)
ends_after entries [] c (suc k) within = absurd (omega arith)
ends_after entries (p ∷ ps) c zero within = ap (λ o. o ∷ []) (grown_is entries (concat (p ∷ ps)) c ∙ ap (entry_number (nodes entries)) (sym (append-nil _)))
ends_after entries (p ∷ ps) c (suc k) within =
    rw (grown_is entries (concat (p ∷ ps)) c, ends_after entries ps c k (omega arith), joined ps c k, append_assoc p (concat ps) (c ∷ [])) refl

-- the pieces by one more stroke, at the first place from which on they are an entry with it
pub merge_at : (entries ps : List (List ℕ)) (c place : ℕ) → place ≤ length ps →
    ((k : ℕ) → k < place → is_entry entries (concat (drop k ps) ++ c ∷ []) ≡ false) →
    (place ≡ length ps) ⊎ (is_entry entries (concat (drop place ps) ++ c ∷ []) ≡ true) →
    merge entries ps c ≡ take place ps ++ (concat (drop place ps) ++ c ∷ []) ∷ []
merge_at entries [] c zero within none made = refl
merge_at entries [] c (suc k) within none made = absurd (omega arith)
merge_at entries (p ∷ ps) c zero within none (inl last) = absurd (omega arith)
merge_at entries (p ∷ ps) c zero within none (inr made) = rw made refl
merge_at entries (p ∷ ps) c (suc k) within none made =
    rw (none 0 (omega arith)) (ap (λ l. p ∷ l) (merge_at entries ps c k (omega arith) (λ j below. none (suc j) (omega arith)) (still made)))
  where
    still : (suc k ≡ suc (length ps)) ⊎ (is_entry entries (concat (drop k ps) ++ c ∷ []) ≡ true) → (k ≡ length ps) ⊎ (is_entry entries (concat (drop k ps) ++ c ∷ []) ≡ true)
    still (inl last) = inl (omega arith)
    still (inr made) = inr made

-- ---- the window

-- the pieces of the window are those from the first node on
pub window_is : (entries ps : List (List ℕ)) → drop (lost_ends (ends_of entries ps)) ps ≡ window_pieces entries ps
window_is entries [] = refl
window_is entries (p ∷ ps) = by (is_some (entry_number (nodes entries) (concat (p ∷ ps)))) (node_test entries (concat (p ∷ ps))) (lost_ends (ends_of entries ps)) (window_is entries ps)
  where
    by : (b : Bool) → b ≡ is_prefix entries (concat (p ∷ ps)) → (n : ℕ) → drop n ps ≡ window_pieces entries ps →
        drop (cond (not b) (1 + n) 0) (p ∷ ps) ≡ window_pieces entries (p ∷ ps)
    by true is n rest = rw (← is) refl
    by false is n rest =
        let more : 1 + n ≡ suc n = omega arith in
        rw (← is, more) rest

-- the ends of the pieces from a place on
pub drop-ends_of : (entries ps : List (List ℕ)) (n : ℕ) → drop n (ends_of entries ps) ≡ ends_of entries (drop n ps)
drop-ends_of entries [] zero = refl
drop-ends_of entries [] (suc n) = refl
drop-ends_of entries (p ∷ ps) zero = refl
drop-ends_of entries (p ∷ ps) (suc n) = drop-ends_of entries ps n
