-- The rows of a valid certificate are the conflicts.
use Rattle.std.proofs.Common.{◌≡◌, ℕ, zero, suc, ◌+◌, ◌-◌, List, [], ◌∷◌, ◌++◌, length, take, drop, refl, sym, ap, subst, arith, Bool, true, false, true≢false, Some, ◌∙◌, Contains, inl, inr, AllPairs}
use Rattle.std.specs.Prelude.{◌&&◌, ◌==◌, nat_lt, nat_le, slice_get, slice_index_or}
use Rattle.std.specs.List.{list_all, list_any}
use Rattle.std.proofs.lemmas.List.{take-append-drop}
use Rattle.std.proofs.lemmas.List.Elements.{filter_map-append}
use Rattle.std.proofs.lemmas.Bool.{eqb-true, ltb-true, lt-ltb, leb-true}
use Rattle.steno_rules.specs.Outlines.{AreEntries, flagged_entries}
use Rattle.steno_rules.specs.Conflicts.{IsWordNumber, AreWordNumbers, joined_strokes}
use Rattle.steno_rules.proofs.FlaggedWords.{flagged-are, flagged-flag}
use Rattle.steno_rules.proofs.Lists.{in_cons, in_first, in_later, none_in_nil, in_filter, pairs_cons, pairs_tail, pairs_first, all_of}
use Rattle.closure_laws.specs.Listings.{IsListing, IsListedRow}
use Rattle.closure_laws.proofs.ListingLemmas.{listed_of_conflict, least_of_row}
use Rattle.certificate_laws.specs.RowTests.{words_show}
use Rattle.certificate_laws.proofs.RowTests.{words_show-Decides}
use Rattle.certificate.specs.declared.lines.CertLine.TheVariants as of
use Rattle.certificate.specs.CertReading.{read_lines}
use Rattle.certificate.specs.CertTexts.{Listed}
use Rattle.certificate_laws.specs.Checks.{Lines, line_at, conflicts_line, upper_lines, listed_in, upper_checks, announced, certificate_rows}
use Rattle.certificate_laws.specs.Closures.{Closure, Pair, closure_of}
use Rattle.certificate_laws.specs.Validity.{content_check, is_listed_within, move_checks, hit_distances, inner_pairs, listed_pairs, listing_checks, is_least_of, is_word_number, is_row_of, row_checks, all_checks, IsValid}
use Rattle.longest_match.specs.Rows.{Row, IsShortest, IsBefore, AreConflicts}
use Rattle.certificate_laws.proofs.HoldLemmas.{both, AllHold-append, accepted_holds, list_all_in}
use Rattle.certificate_laws.specs.inside.Holding.{AllHold}
use Rattle.certificate_laws.proofs.HitLemmas.{outline_past}
use Rattle.certificate_laws.proofs.UpperLemmas.{upper_checks-from}
use Rattle.certificate_laws.proofs.ListingLemmas.{listing, is_listing, distance_there}
use Rattle.certificate_laws.proofs.RowLemmas.{AreRowsOf, upper_rows, rows_behind}
use Rattle.certificate_laws.proofs.PairLemmas.{Before, inner_pairs-rise, in_inner_pairs, pairs_filter}

-- ---- one row

-- what the test of a row says
pub record SaysRow (closure : Closure) (all : List Listed) (p : Pair) (r : Row) : Type 0 where
  pub entry : r.entry ≡ p.entry
  pub place : r.place ≡ p.place
  pub least : is_least_of r.strokes (hit_distances closure all p) ≡ true
  pub are_words : list_all (is_word_number closure) r.words ≡ true
  pub strokes : length (joined_strokes closure.outlines r.words) ≡ r.strokes
  pub shown : words_show closure.outlines r.words r.entry r.place ≡ true

pub row_says : (closure : Closure) (all : List Listed) (p : Pair) (r : Row) → is_row_of closure all p (Some (of.Row r)) ≡ true → SaysRow closure all p r
row_says closure all p r h =
    let a = both (r.entry == p.entry && r.place == p.place && is_least_of r.strokes (hit_distances closure all p) && list_all (is_word_number closure) r.words && (length (joined_strokes closure.outlines r.words) == r.strokes)) (words_show closure.outlines r.words r.entry r.place) h in
    let b = both (r.entry == p.entry && r.place == p.place && is_least_of r.strokes (hit_distances closure all p) && list_all (is_word_number closure) r.words) (length (joined_strokes closure.outlines r.words) == r.strokes) a.0 in
    let c = both (r.entry == p.entry && r.place == p.place && is_least_of r.strokes (hit_distances closure all p)) (list_all (is_word_number closure) r.words) b.0 in
    let d = both (r.entry == p.entry && r.place == p.place) (is_least_of r.strokes (hit_distances closure all p)) c.0 in
    let e = both (r.entry == p.entry) (r.place == p.place) d.0 in
    record {
      entry = eqb-true r.entry p.entry e.0;
      place = eqb-true r.place p.place e.1;
      least = d.1;
      are_words = c.1;
      strokes = eqb-true (length (joined_strokes closure.outlines r.words)) r.strokes b.1;
      shown = a.1;
    }

flag_there : (flags : List Bool) (w : ℕ) → slice_index_or flags w false ≡ true → slice_get flags w ≡ Some true
flag_there [] w e = absurd (true≢false (sym e))
flag_there (b ∷ bs) zero e = ap Some e
flag_there (b ∷ bs) (suc w) e = flag_there bs w e

pub word_number : (entries : List (List ℕ)) (flags : List Bool) (w : ℕ) → AreEntries entries → is_word_number (closure_of entries flags) w ≡ true → IsWordNumber entries (flagged_entries entries flags) w
word_number entries flags w are h =
    let two = both (nat_lt w (length entries)) (slice_index_or flags w false) h in
    let below = ltb-true w (length entries) two.0 in
    (below, (flagged-flag entries flags w are.rising below).1 (flag_there flags w two.1))

pub are_words_of : (entries : List (List ℕ)) (flags : List Bool) (ws : List ℕ) → AreEntries entries → list_all (is_word_number (closure_of entries flags)) ws ≡ true → AreWordNumbers entries (flagged_entries entries flags) ws
are_words_of entries flags ws are h = all_of (IsWordNumber entries (flagged_entries entries flags)) ws (λ w has. word_number entries flags w are (list_all_in (is_word_number (closure_of entries flags)) ws w h has))

pair_is : (p : Pair) (e j : ℕ) → e ≡ p.entry → j ≡ p.place → p ≡ record { entry = e; place = j }
pair_is p e j same_entry same_place = sym (ap (λ k. record { entry = k; place = j }) same_entry ∙ ap (λ k. record { entry = p.entry; place = k }) same_place)

-- A row of a listed_in pair is one of the listing.
pub listed_row : (entries : List (List ℕ)) (flags : List Bool) (all : List Listed) (p : Pair) (r : Row) → AreEntries entries → SaysRow (closure_of entries flags) all p r →
    IsListedRow entries (flagged_entries entries flags) (listing all) r.entry r.place r.strokes r.words
listed_row entries flags all p r are says =
    let all_words = flagged-are entries flags are in
    let same = pair_is p r.entry r.place says.entry says.place in
    let least = subst (λ q. is_least_of r.strokes (hit_distances (closure_of entries flags) all q) ≡ true) same says.least in
    let ds = hit_distances (closure_of entries flags) all (record { entry = r.entry; place = r.place }) in
    record {
      least = λ d h. leb-true r.strokes d (list_all_in (nat_le r.strokes) ds d (both (list_any (λ k. k == r.strokes) ds) (list_all (nat_le r.strokes) ds) least).1
          (distance_there entries flags all (record { entry = r.entry; place = r.place }) d all_words h));
      are_words = are_words_of entries flags r.words are says.are_words;
      shows = (words_show-Decides entries r.words r.entry r.place).0 says.shown;
      strokes = says.strokes;
    }

shortest_row : (entries : List (List ℕ)) (flags : List Bool) (all : List Listed) (p : Pair) (r : Row) → AreEntries entries → IsListing entries (flagged_entries entries flags) (listing all) →
    SaysRow (closure_of entries flags) all p r → IsShortest entries (flagged_entries entries flags) r
shortest_row entries flags all p r are is says =
    let row = listed_row entries flags all p r are says in record {
      are_words = row.are_words;
      shown = row.shows;
      strokes = row.strokes;
      least = (least_of_row entries (flagged_entries entries flags) (listing all) r.entry r.place r.strokes r.words (flagged-are entries flags are) is row).least;
    }

-- ---- all rows

module _ (closure : Closure) (all : List Listed) where
  pair_of_row : (ps : List Pair) (rs : List Row) (r : Row) → AreRowsOf closure all ps rs → Contains rs r → (p : Pair) × Contains ps p × SaysRow closure all p r
  pair_of_row [] [] r h has = absurd (none_in_nil r has)
  pair_of_row [] (x ∷ rs) r h has = absurd h
  pair_of_row (p ∷ ps) [] r h has = absurd h
  pair_of_row (p ∷ ps) (x ∷ rs) r h has = elim (in_cons x rs r has) [
    | inl is ↦ (p, in_first p ps, subst (SaysRow closure all p) is (row_says closure all p x h.0))
    | inr later ↦ (let y = pair_of_row ps rs r h.1 later in (y.0, in_later p ps y.0 y.1, y.2))
  ]

  row_of_pair : (ps : List Pair) (rs : List Row) (p : Pair) → AreRowsOf closure all ps rs → Contains ps p → (r : Row) × Contains rs r × SaysRow closure all p r
  row_of_pair [] rs p h has = absurd (none_in_nil p has)
  row_of_pair (q ∷ ps) [] p h has = absurd h
  row_of_pair (q ∷ ps) (x ∷ rs) p h has = elim (in_cons q ps p has) [
    | inl is ↦ (x, in_first x rs, subst (λ y. SaysRow closure all y x) is (row_says closure all q x h.0))
    | inr later ↦ (let y = row_of_pair ps rs p h.1 later in (y.0, in_later x rs y.0 y.1, y.2))
  ]

  before_row : (p q : Pair) (r s : Row) → SaysRow closure all p r → SaysRow closure all q s → Before p q → IsBefore r s
  before_row p q r s a b (inl less) = let e = a.entry in let f = b.entry in inl (omega (arith, e, f))
  before_row p q r s a b (inr same) = let e = a.place in let f = b.place in inr (a.entry ∙ (same.0 ∙ sym b.entry), omega (arith, same.1, e, f))

  no_rows : (rs : List Row) → AreRowsOf closure all [] rs → rs ≡ []
  no_rows [] h = refl
  no_rows (r ∷ rs) h = absurd h

  rows_rise : (ps : List Pair) (rs : List Row) → AreRowsOf closure all ps rs → AllPairs Before ps → AllPairs IsBefore rs
  rows_rise ps [] h rise = λ k e d lt below. absurd (omega (arith, below))
  rows_rise [] (r ∷ rs) h rise = absurd h
  rows_rise (p ∷ ps) (r ∷ rs) h rise = pairs_cons IsBefore r rs (all_of (IsBefore r) rs (λ s has.
      let y = pair_of_row ps rs s h.1 has in before_row p y.0 r s (row_says closure all p r h.0) y.2 (pairs_first Before p ps y.0 rise y.1)))
      (rows_rise ps rs h.1 (pairs_tail Before p ps rise))

  pub as_many : (ps : List Pair) (rs : List Row) → AreRowsOf closure all ps rs → length ps ≡ length rs
  as_many [] [] h = refl
  as_many [] (r ∷ rs) h = absurd h
  as_many (p ∷ ps) [] h = absurd h
  as_many (p ∷ ps) (r ∷ rs) h = ap suc (as_many ps rs h.1)

some_there : (xs : List ℕ) (x : ℕ) → Contains xs x → nat_lt 0 (length xs) ≡ true
some_there [] x has = absurd (none_in_nil x has)
some_there (y ∷ ys) x has = lt-ltb 0 (suc (length ys)) (omega arith)

-- Rows of all listed_in pairs, behind a listing that the moves keep, are the conflicts.
pub conflict_rows : (entries : List (List ℕ)) (flags : List Bool) (all : List Listed) (rs : List Row) → AreEntries entries → IsListing entries (flagged_entries entries flags) (listing all) →
    AreRowsOf (closure_of entries flags) all (listed_pairs (closure_of entries flags) all) rs → AreConflicts entries (flagged_entries entries flags) rs
conflict_rows entries flags all rs are is rows =
    let c = closure_of entries flags in
    let pairs = listed_pairs c all in
    let test : Pair → Bool = λ p. nat_lt 0 (length (hit_distances c all p)) in
    record {
      each = all_of (IsShortest entries (flagged_entries entries flags)) rs (λ r has. let p = pair_of_row c all pairs rs r rows has in shortest_row entries flags all p.0 r are is p.2);
      all = λ e place conflict.
          let hit = listed_of_conflict entries (flagged_entries entries flags) (listing all) e place (flagged-are entries flags are) is conflict in
          let p : Pair = record { entry = e; place = place } in
          let some = some_there (hit_distances c all p) hit.0 (distance_there entries flags all p hit.0 (flagged-are entries flags are) hit.1) in
          let inner = in_inner_pairs entries e place (outline_past entries e (let a = conflict.shows.after_start in let b = conflict.shows.before_end in omega (arith, a, b))) conflict.shows.after_start conflict.shows.before_end in
          let r = row_of_pair c all pairs rs p rows ((in_filter test (inner_pairs entries) p).1 (inner, some)) in
          record { row = r.0; there = r.1; entry_is = r.2.entry; place_is = r.2.place };
      in_order = rows_rise c all pairs rs rows (pairs_filter Before test (inner_pairs entries) (inner_pairs-rise entries));
    }

-- ---- the file

-- what the checks of a valid certificate say
pub record Holding (closure : Closure) (lines : Lines) : Type 0 where
  pub start : is_listed_within (listed_in (upper_lines lines)) 0 0 ≡ true
  pub moves : AllHold (move_checks closure.targets (conflicts_line lines) (upper_lines lines))
  pub count : announced (line_at lines (conflicts_line lines)) ≡ length (listed_pairs closure (listed_in (upper_lines lines)))
  pub rows : AreRowsOf closure (listed_in (upper_lines lines)) (listed_pairs closure (listed_in (upper_lines lines))) (certificate_rows lines)

pub holding : (closure : Closure) (lines : Lines) → AllHold (all_checks closure lines) → Holding closure lines
holding closure lines h =
    let at = conflicts_line lines in
    let all = listed_in (upper_lines lines) in
    let pairs = listed_pairs closure all in
    let a = AllHold-append (upper_checks (content_check closure) lines) _ h in
    let b = AllHold-append (listing_checks closure closure.targets at (upper_lines lines) (announced (line_at lines at))) _ a.1 in
    let c = AllHold-append (row_checks closure all lines at pairs) _ b.1 in
    let d = AllHold-append (move_checks closure.targets at (upper_lines lines)) _ b.0.1 in
    let none = upper_rows (content_check closure) [] lines (subst AllHold (upper_checks-from (content_check closure) lines) a.0) in
    let split : certificate_rows lines ≡ certificate_rows (take at lines) ++ certificate_rows (drop at lines) = ap certificate_rows (sym (take-append-drop at lines)) ∙ filter_map-append _ (take at lines) (drop at lines) in
    record {
      start = b.0.0;
      moves = d.0;
      count = eqb-true (announced (line_at lines at)) (length pairs) d.1.0;
      rows = subst (AreRowsOf closure all pairs) (sym (split ∙ ap (λ rs. rs ++ certificate_rows (drop at lines)) none)) (rows_behind closure all lines at pairs c.0 c.1);
    }

-- The rows of a valid certificate are the conflicts, and it tells their number.
pub valid_rows : (entries : List (List ℕ)) (flags : List Bool) (bytes : List ℕ) → AreEntries entries → (v : IsValid (closure_of entries flags) bytes) →
    AreConflicts entries (flagged_entries entries flags) (certificate_rows (read_lines bytes)) × (v.0 ≡ length (certificate_rows (read_lines bytes)))
valid_rows entries flags bytes are v =
    let c = closure_of entries flags in
    let lines = read_lines bytes in
    let all = accepted_holds (announced (line_at lines (conflicts_line lines))) v.0 (all_checks c lines) v.1 in
    let h = holding c lines all.0 in
    let is = is_listing entries flags (conflicts_line lines) (upper_lines lines) (flagged-are entries flags are) h.start h.moves in
    (conflict_rows entries flags (listed_in (upper_lines lines)) (certificate_rows lines) are is h.rows, sym all.1 ∙ (h.count ∙ as_many c (listed_in (upper_lines lines)) (listed_pairs c (listed_in (upper_lines lines))) (certificate_rows lines) h.rows))
