-- The longest entry that strokes begin with, along a chain of entries that each begin the one before.
use Rattle.std.proofs.Common.{◌≡◌, ◌≢◌, ℕ, zero, suc, ◌+◌, ◌<◌, ◌≤◌, max, List, [], ◌∷◌, ◌++◌, length, map, take, drop, get_or, refl, sym, ap, ap₂, subst, append-nil, append_assoc, length-append, ◌∙◌, arith, inl, inr, Bool, true, false, true≢false, Option, Some, None, IfSome, Contains, Less, Equal, Greater}
use Rattle.std.specs.Ordering.{nat_cmp, ordering_then}
use Rattle.std.proofs.lemmas.Bool.{cases_lt, cases_order}
use Rattle.std.proofs.lemmas.List.Elements.{Contains-get_or}
use Rattle.std.proofs.lemmas.List.{get_or_append_left, get_or_at, get_or_default, length_push, take-append-drop, take-append-le, length-take-le, take_at}
use Rattle.std.specs.Cmp.Lexicographic.{nat_list_cmp_total}
use Rattle.steno_rules.proofs.Rising.{turned}
use Rattle.std.specs.Cmp.{nat_cmp_is}
use Rattle.steno_rules.specs.Outlines.{AreEntries, AreRising, begins_with, entry_number, outline_cmp, outline_of}
use Rattle.steno_rules.specs.Segments.{first_piece, longest}
use Rattle.steno_rules.proofs.Entries.{begins_with-Decides}
use Rattle.steno_rules.proofs.LongestLemmas.{longest-covers, longest-fits, longest-found}
use Rattle.steno_rules.proofs.Numbers.{entry_number-outline_of, entry_number-Some}
use Rattle.steno_rules.proofs.SegmentLemmas.{length-first_piece, length_pos, segments_step}
use Rattle.stroke.specs.declared.pieces.Piece.{Piece}
use Rattle.stroke.specs.Pieces.{piece_of, pieces as pieces_of}
use Rattle.report.specs.inside.Indexes.{AreShorter, IsBegunFrom, IsLongestAt, IsLongestOf, previous}

-- ---- beginnings

-- x begins with p, as a decomposition
abbrev Begins : List ℕ → List ℕ → Type 0
Begins x p = (rest : List ℕ) × (x ≡ p ++ rest)

begins_of : (x p : List ℕ) → begins_with x p ≡ true → Begins x p
begins_of x p h =
    let front : p ≡ take (length p) x = (begins_with-Decides x p).0 h in
    (drop (length p) x, sym (take-append-drop (length p) x) ∙ ap (λ l. l ++ drop (length p) x) (sym front))

begins_from : (x p : List ℕ) → Begins x p → begins_with x p ≡ true
begins_from x p h = (begins_with-Decides x p).1 (sym (ap (take (length p)) h.1 ∙ take_at p h.0 (length p) refl))

-- a beginning is no longer
begins_short : (x p : List ℕ) → begins_with x p ≡ true → length p ≤ length x
begins_short x p h = let parts = begins_of x p h in omega (arith, ap length parts.1, length-append p parts.0)

-- what isn't so, is not true
not_true : (b : Bool) → (b ≡ true → ⊥) → b ≡ false
not_true true h = absurd (h refl)
not_true false h = refl

-- a list isn't below its beginning
not_below_beginning : (p rest : List ℕ) → outline_cmp (p ++ rest) p ≡ Less → ⊥
not_below_beginning [] [] h = let wrong : Equal ≡ Less = h in cc
not_below_beginning [] (c ∷ rest) h = let wrong : Greater ≡ Less = h in cc
not_below_beginning (c ∷ p) rest h =
    let same : Equal ≡ nat_cmp c c = nat_cmp_is c c Equal refl in
    not_below_beginning p rest (ap (λ o. ordering_then o (outline_cmp (p ++ rest) p)) same ∙ h)

-- what lies between a list and one that it begins begins with it too
between : (p q rest : List ℕ) → outline_cmp p q ≡ Less → outline_cmp q (p ++ rest) ≡ Less → Begins q p
between [] q rest l m = (q, refl)
between (c ∷ p) [] rest l m = let wrong : Greater ≡ Less = l in absurd cc
between (c ∷ p) (d ∷ q) rest l m = elim (cases_order c d) [
  | inl is ↦
      let there : Equal ≡ nat_cmp c d = nat_cmp_is c d Equal is in
      let back : Equal ≡ nat_cmp d c = nat_cmp_is d c Equal (sym is) in
      let later = between p q rest (ap (λ o. ordering_then o (outline_cmp p q)) there ∙ l) (ap (λ o. ordering_then o (outline_cmp q (p ++ rest))) back ∙ m) in
      (later.0, ap₂ (λ k x. k ∷ x) (sym is) later.1)
  | inr (inl lt) ↦
      let back : Greater ≡ nat_cmp d c = nat_cmp_is d c Greater lt in
      let wrong : Greater ≡ Less = ap (λ o. ordering_then o (outline_cmp q (p ++ rest))) back ∙ m in
      absurd cc
  | inr (inr gt) ↦
      let there : Greater ≡ nat_cmp c d = nat_cmp_is c d Greater gt in
      let wrong : Greater ≡ Less = ap (λ o. ordering_then o (outline_cmp p q)) there ∙ l in
      absurd cc
]

-- of two beginnings of a list the longer begins with the other
both_begin : (y p q : List ℕ) → begins_with y p ≡ true → begins_with y q ≡ true → length p ≤ length q → begins_with q p ≡ true
both_begin y p q h g short =
    let front : p ≡ take (length p) y = (begins_with-Decides y p).0 h in
    let other = begins_of y q g in
    (begins_with-Decides q p).1 (front ∙ ap (take (length p)) other.1 ∙ take-append-le (length p) q other.0 short)

-- a list begins with itself
begins_itself : (x : List ℕ) → begins_with x x ≡ true
begins_itself x = begins_from x x ([], sym (append-nil x))

-- ---- entries

-- an entry begins only with entries up to itself
no_later : (entries : List (List ℕ)) (e k : ℕ) → AreRising entries → e < length entries → k < length entries →
    begins_with (outline_of entries e) (outline_of entries k) ≡ true → k ≤ e
no_later entries e k rising inside inside' h = elim (cases_lt e k) [
  | inr ge ↦ ge
  | inl lt ↦
      let parts = begins_of (outline_of entries e) (outline_of entries k) h in
      absurd (not_below_beginning (outline_of entries k) parts.0 (subst (λ y. outline_cmp y (outline_of entries k) ≡ Less) parts.1 (rising e k [] lt inside')))
]

-- all entries before e that x begins with begin also the last of them, where this is below x
all_begin : (entries : List (List ℕ)) (x : List ℕ) (e k : ℕ) → AreRising entries → k ≤ e → e < length entries → outline_cmp (outline_of entries e) x ≡ Less →
    begins_with x (outline_of entries k) ≡ true → begins_with (outline_of entries e) (outline_of entries k) ≡ true
all_begin entries x e k rising up inside below h = elim (cases_lt k e) [
  | inr ge ↦ let same : e ≡ k = omega arith in subst (λ i. begins_with (outline_of entries e) (outline_of entries i) ≡ true) same (begins_itself (outline_of entries e))
  | inl lt ↦
      let parts = begins_of x (outline_of entries k) h in
      begins_from (outline_of entries e) (outline_of entries k)
      (between (outline_of entries k) (outline_of entries e) parts.0 (rising k e [] lt inside) (subst (λ y. outline_cmp (outline_of entries e) y ≡ Less) parts.1 below))
]

-- ---- the chain

-- The entry before this one begins with all that this one begins with.
pub begun_before : (entries : List (List ℕ)) (e : ℕ) → AreRising entries → e < length entries → IsBegunFrom entries e (outline_of entries e) (previous e)
begun_before entries zero rising inside = λ k l. absurd (omega arith)
begun_before entries (suc e) rising inside = record {
  below = omega arith;
  all = λ k l h. all_begin entries (outline_of entries (suc e)) e k rising (omega arith) (omega arith) (rising e (suc e) [] (omega arith) inside) h;
}

-- One step along the chain, from an entry that x doesn't begin with.
pub begun_next : (entries : List (List ℕ)) (x : List ℕ) (count e : ℕ) (next : Option ℕ) → AreRising entries → count ≤ length entries → begins_with x (outline_of entries e) ≡ false →
    IsLongestOf entries e (outline_of entries e) next → IsBegunFrom entries count x (Some e) → IsBegunFrom entries count x next
begun_next entries x count e next rising fits apart longest h = by next longest
  where
    -- what x begins with comes before e
    earlier : (k : ℕ) → k < count → begins_with x (outline_of entries k) ≡ true → k < e
    earlier k l b =
        let low = no_later entries e k rising (omega (arith, h.below)) (omega arith) (h.all k l b) in
        elim (cases_lt k e) [
          | inl lt ↦ lt
          | inr ge ↦ let same : k ≡ e = omega arith in absurd (true≢false (sym (subst (λ i. begins_with x (outline_of entries i) ≡ true) same b) ∙ apart))
        ]

    by : (next : Option ℕ) → IsLongestOf entries e (outline_of entries e) next → IsBegunFrom entries count x next
    by None none = λ k l. not_true (begins_with x (outline_of entries k)) (λ b. true≢false (sym (h.all k l b) ∙ none k (earlier k l b)))
    by (Some f) found = record {
      below = omega (arith, found.below, h.below);
      all = λ k l b. both_begin (outline_of entries e) (outline_of entries k) (outline_of entries f) (h.all k l b) found.begins (found.longest k (earlier k l b) (h.all k l b));
    }

-- An entry of the chain that x begins with is the longest.
pub begun_found : (entries : List (List ℕ)) (x : List ℕ) (count e : ℕ) → begins_with x (outline_of entries e) ≡ true → IsBegunFrom entries count x (Some e) → IsLongestAt entries count x e
begun_found entries x count e begins h = record {
  below = h.below;
  begins = begins;
  longest = λ k l b. begins_short (outline_of entries e) (outline_of entries k) (h.all k l b);
}

-- ---- where the chain begins

-- the entry is x
pub begun_same : (entries : List (List ℕ)) (x : List ℕ) (e : ℕ) → e < length entries → outline_of entries e ≡ x → IsBegunFrom entries (length entries) x (Some e)
begun_same entries x e inside is = record { below = inside; all = λ k l b. subst (λ y. begins_with y (outline_of entries k) ≡ true) (sym is) b }

-- the entries before `place` are below x, and the others above it
pub begun_place : (entries : List (List ℕ)) (x : List ℕ) (place : ℕ) → AreRising entries → place ≤ length entries →
    ((k : ℕ) → k < place → outline_cmp (outline_of entries k) x ≡ Less) → ((k : ℕ) → place ≤ k → k < length entries → outline_cmp (outline_of entries k) x ≡ Greater) →
    IsBegunFrom entries (length entries) x (previous place)
begun_place entries x place rising fits below above = by place fits below above
  where
    -- x begins with no entry above it
    apart : (k : ℕ) → outline_cmp (outline_of entries k) x ≡ Greater → begins_with x (outline_of entries k) ≡ true → ⊥
    apart k is b =
        let parts = begins_of x (outline_of entries k) b in
        not_below_beginning (outline_of entries k) parts.0
        (subst (λ y. outline_cmp y (outline_of entries k) ≡ Less) parts.1 (turned outline_cmp nat_list_cmp_total (outline_of entries k) x is))

    by : (place : ℕ) → place ≤ length entries → ((k : ℕ) → k < place → outline_cmp (outline_of entries k) x ≡ Less) →
        ((k : ℕ) → place ≤ k → k < length entries → outline_cmp (outline_of entries k) x ≡ Greater) → IsBegunFrom entries (length entries) x (previous place)
    by zero fits below above = λ k l. not_true (begins_with x (outline_of entries k)) (apart k (above k (omega arith) l))
    by (suc e) fits below above = record {
      below = omega arith;
      all = λ k l b. elim (cases_lt k (suc e)) [
        | inl lt ↦ all_begin entries x e k rising (omega arith) (omega arith) (below e (omega arith)) b
        | inr ge ↦ absurd (apart k (above k ge l) b)
      ];
    }

-- ---- the first piece

-- the longest entry that x begins with is that of the definition
longest_is : (entries : List (List ℕ)) (x : List ℕ) (e : ℕ) → IsLongestAt entries (length entries) x e → longest entries x ≡ length (outline_of entries e)
longest_is entries x e h =
    let o : List ℕ = outline_of entries e in
    let short = begins_short x o h.begins in
    let front : o ≡ take (length o) x = (begins_with-Decides x o).0 h.begins in
    let covers : length o ≤ longest entries x = longest-covers entries x (length o) short (subst (Contains entries) front (Contains-get_or entries e [] h.below)) in
    elim (longest-found entries x) [
      | inl none ↦ omega arith
      | inr found ↦
          let at = found.1 in
          let k : ℕ = at.0 in
          let is : outline_of entries k ≡ take (longest entries x) x = at_number entries k (take (longest entries x) x) at.1 at.2 in
          let long : length (outline_of entries k) ≡ longest entries x = ap length is ∙ length-take-le (longest entries x) x found.0 in
          let begins : begins_with x (outline_of entries k) ≡ true = (begins_with-Decides x (outline_of entries k)).1 (is ∙ ap (λ n. take n x) (sym long)) in
          omega (arith, h.longest k at.1 begins, long, covers)
    ]
  where
    at_number : (entries : List (List ℕ)) (k : ℕ) (y : List ℕ) → k < length entries → get_or entries k y ≡ y → outline_of entries k ≡ y
    at_number entries k y inside is = get_or_default entries k [] y inside ∙ is

-- The first piece where x begins with an entry,
pub piece_found : (entries : List (List ℕ)) (x : List ℕ) (e : ℕ) → AreEntries entries → x ≢ [] → IsLongestAt entries (length entries) x e →
    piece_of entries (first_piece entries x) ≡ record { len = length (outline_of entries e); entry = Some e }
piece_found entries x e are some h =
    let o : List ℕ = outline_of entries e in
    let pos : 0 < length o = are.not_empty e [] h.below in
    let long : max 1 (longest entries x) ≡ length o = omega (arith, longest_is entries x e h) in
    let piece : first_piece entries x ≡ o = ap (λ n. take n x) long ∙ sym ((begins_with-Decides x o).0 h.begins) in
    ap (piece_of entries) piece ∙ ap (λ (n : Option ℕ). record { len = length o; entry = n }) (entry_number-outline_of entries e are.rising h.below)

-- and where it begins with none.
pub piece_none : (entries : List (List ℕ)) (x : List ℕ) → AreEntries entries → x ≢ [] → IsLongestOf entries (length entries) x None →
    piece_of entries (first_piece entries x) ≡ record { len = 1; entry = None }
piece_none entries x are some none =
    let zero_is : longest entries x ≡ 0 = elim (longest-found entries x) [
      | inl is ↦ is
      | inr found ↦
          let at = found.1 in
          let is : get_or entries at.0 [] ≡ take (longest entries x) x = get_or_default entries at.0 [] (take (longest entries x) x) at.1 ∙ at.2 in
          let long : length (get_or entries at.0 []) ≡ longest entries x = ap length is ∙ length-take-le (longest entries x) x found.0 in
          let begins : begins_with x (outline_of entries at.0) ≡ true = (begins_with-Decides x (outline_of entries at.0)).1 (is ∙ ap (λ n. take n x) (sym long)) in
          absurd (true≢false (sym begins ∙ none at.0 at.1))
    ] in
    let long : max 1 (longest entries x) ≡ 1 = omega (arith, zero_is) in
    let piece : length (first_piece entries x) ≡ 1 = length-first_piece entries x some ∙ long in
    ap₂ (λ n (o : Option ℕ). record { len = n; entry = o }) piece (by (entry_number entries (first_piece entries x)) refl)
  where
    by : (o : Option ℕ) → entry_number entries (first_piece entries x) ≡ o → o ≡ None
    by None is = refl
    by (Some e) is =
        let found = entry_number-Some entries (first_piece entries x) e is in
        let front : outline_of entries e ≡ take (max 1 (longest entries x)) x = found.1 in
        let begins : Begins x (outline_of entries e) =
        (drop (max 1 (longest entries x)) x, sym (take-append-drop (max 1 (longest entries x)) x) ∙ ap (λ l. l ++ drop (max 1 (longest entries x)) x) (sym front)) in
        absurd (true≢false (sym (begins_from x (outline_of entries e) begins) ∙ none e found.0))

-- an entry of the chain is one of the first so many
pub link_inside : (entries : List (List ℕ)) (x : List ℕ) (e n : ℕ) (o : Option ℕ) → e ≤ n → IsLongestOf entries e x o → IfSome o (λ f. f < n)
link_inside entries x e n None fits h = tt
link_inside entries x e n (Some f) fits h = omega (arith, h.below)

-- one entry more on a chain
pub shorter_more : (entries : List (List ℕ)) (n : ℕ) (shorter : List (Option ℕ)) (found : Option ℕ) → AreShorter entries n shorter → IsLongestOf entries n (outline_of entries n) found →
    AreShorter entries (n + 1) (shorter ++ found ∷ [])
shorter_more entries n shorter found h longest = record {
  long = omega (arith, length_push shorter found, h.long);
  each = λ e low. elim (cases_lt e n) [
    | inl lt ↦ subst (IsLongestOf entries e (outline_of entries e)) (sym (get_or_append_left shorter (found ∷ []) None e (omega (arith, h.long)))) (h.each e lt)
    | inr ge ↦
        let same : n ≡ e = omega arith in
        subst (λ i. IsLongestOf entries i (outline_of entries i) (get_or (shorter ++ found ∷ []) i None)) same
        (subst (IsLongestOf entries n (outline_of entries n)) (sym (get_or_at shorter found [] None n h.long)) longest)
  ];
}

-- The pieces of strokes, one at a time.
pub pieces_next : (entries : List (List ℕ)) (x : List ℕ) (piece : Piece) → x ≢ [] → piece ≡ piece_of entries (first_piece entries x) → pieces_of entries x ≡ piece ∷ pieces_of entries (drop piece.len x)
pieces_next entries x piece some is =
    ap (map (piece_of entries)) (segments_step entries x some)
    ∙ ap₂ (λ (p : Piece) (n : ℕ). p ∷ pieces_of entries (drop n x)) (sym is) (ap (λ (p : Piece). p.len) (sym is))

pub piece_fits : (entries : List (List ℕ)) (x : List ℕ) (piece : Piece) → x ≢ [] → piece ≡ piece_of entries (first_piece entries x) → (1 ≤ piece.len) × (piece.len ≤ length x)
piece_fits entries x piece some is =
    let long : piece.len ≡ max 1 (longest entries x) = ap (λ (p : Piece). p.len) is ∙ length-first_piece entries x some in
    (omega (arith, long), omega (arith, long, longest-fits entries x, length_pos x some))

-- one piece more is listed
pub pieces_joined : (entries : List (List ℕ)) (found : List Piece) (rest : List ℕ) (piece : Piece) (all : List Piece) → rest ≢ [] → piece ≡ piece_of entries (first_piece entries rest) →
    found ++ pieces_of entries rest ≡ all → (found ++ piece ∷ []) ++ pieces_of entries (drop piece.len rest) ≡ all
pieces_joined entries found rest piece all some is joined =
    append_assoc found (piece ∷ []) (pieces_of entries (drop piece.len rest)) ∙ ap (λ l. found ++ l) (sym (pieces_next entries rest piece some is)) ∙ joined
