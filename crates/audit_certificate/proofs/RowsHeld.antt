-- The rows of a certificate hold: they are those of the listed pairs, in order.
use Rattle.std.proofs.Common.{◌≡◌, ℕ, zero, suc, ◌+◌, ◌≤◌, List, [], ◌∷◌, ◌++◌, length, map, refl, sym, ap, subst, arith, Bool, true, false, true≢false, Option, Some, ◌∙◌, append_assoc, Contains, inl, inr, ◌⊎◌, AllPairs}
use Rattle.std.specs.Prelude.{◌&&◌, ◌==◌, nat_lt, nat_le, slice_get, slice_index_or}
use Rattle.std.specs.List.{list_all, list_any}
use Rattle.std.proofs.lemmas.Bool.{eq-eqb, lt-ltb, le-leb, ltb-true}
use Rattle.std.proofs.lemmas.List.{length_push}
use Rattle.std.proofs.lemmas.List.Elements.{All-contains}
use Rattle.graph_rules.specs.Graphs.{AreSettled, most_numbers}
use Rattle.steno_rules.specs.Outlines.{AreEntries, AreWords, flagged_entries}
use Rattle.steno_rules.specs.Conflicts.{IsLeast, IsWordNumber, joined_strokes}
use Rattle.steno_rules.specs.StateNumbers.{number_count}
use Rattle.steno_rules.specs.ClosureGraphs.{kept_lists}
use Rattle.steno_rules.proofs.FlaggedWords.{flagged-are, flagged-flag}
use Rattle.steno_rules.proofs.Lists.{in_cons, in_first, in_later, none_in_nil, in_filter, in_map, in_map_of, pairs_cons, pairs_first, pairs_tail, all_of}
use Rattle.closure_laws.proofs.HitNumberLemmas.{Conflict-number, IsLeast-number}
use Rattle.longest_match.specs.Rows.{AreConflicts, IsBefore, IsShortest, Row}
use Rattle.certificate.specs.declared.lines.CertLine.{CertLine}
use Rattle.certificate.specs.declared.lines.CertLine.TheVariants as of
use Rattle.certificate.specs.CertTexts.{Listed}
use Rattle.certificate_laws.specs.Checks.{Lines, end_checks, is_end_line, is_row_line}
use Rattle.certificate_laws.specs.Closures.{Closure, Pair, closure_of}
use Rattle.certificate_laws.specs.Validity.{hit_distances, inner_pairs, is_least_of, is_row_of, is_word_number, listed_pairs, row_checks}
use Rattle.certificate_laws.specs.RowTests.{words_show}
use Rattle.certificate_laws.specs.inside.Holding.{AllHold}
use Rattle.certificate_laws.proofs.HitLemmas.{outline_past}
use Rattle.certificate_laws.proofs.HoldLemmas.{both_back}
use Rattle.certificate_laws.proofs.PairLemmas.{Before, inner_pairs-rise, in_inner_pairs, pairs_filter}
use Rattle.certificate_laws.proofs.RowLemmas.{AreRowsOf}
use Rattle.certificate_laws.proofs.RowTests.{words_show-Decides}
use Rattle.certificate_laws.proofs.UpperLemmas.{line_after}
use Rattle.audit_certificate.specs.OwnCertificates.{reached_states}
use Rattle.audit_certificate.proofs.PassingAll.{all_pass, one_passes}
use Rattle.audit_certificate.proofs.HitDistances.{hit_there, hit_among}

-- ---- lists in order that have the same elements

not_both : (a b : Pair) → Before a b → Before b a → ⊥
not_both a b (inl l) (inl m) = absurd (omega (arith, l, m))
not_both a b (inl l) (inr m) = let e = m.0 in absurd (omega (arith, l, e))
not_both a b (inr l) (inl m) = let e = l.0 in absurd (omega (arith, m, e))
not_both a b (inr l) (inr m) = let x = l.1 in let y = m.1 in absurd (omega (arith, x, y))

tail_in : (x y : Pair) (xs ys : List Pair) → x ≡ y → AllPairs Before (x ∷ xs) → ((p : Pair) → Contains (x ∷ xs) p → Contains (y ∷ ys) p) → (p : Pair) → Contains xs p → Contains ys p
tail_in x y xs ys same rise to p has = elim (in_cons y ys p (to p (in_later x xs p has))) [
  | inl here ↦ (let before = pairs_first Before x xs p rise has in absurd (not_both x p before (subst (λ q. Before q x) (same ∙ here) (subst (Before x) (sym (same ∙ here)) before))))
  | inr later ↦ later
]

-- Lists in order that have the same pairs are the same.
same_pairs : (xs ys : List Pair) → AllPairs Before xs → AllPairs Before ys → ((p : Pair) → Contains xs p → Contains ys p) → ((p : Pair) → Contains ys p → Contains xs p) → xs ≡ ys
same_pairs [] [] a b to back = refl
same_pairs [] (y ∷ ys) a b to back = absurd (none_in_nil y (back y (in_first y ys)))
same_pairs (x ∷ xs) [] a b to back = absurd (none_in_nil x (to x (in_first x xs)))
same_pairs (x ∷ xs) (y ∷ ys) a b to back =
    let same : x ≡ y = first (in_cons y ys x (to x (in_first x xs))) (in_cons x xs y (back y (in_first y ys))) in
    ap (λ z. z ∷ xs) same ∙ ap (λ zs. y ∷ zs) (same_pairs xs ys (pairs_tail Before x xs a) (pairs_tail Before y ys b) (tail_in x y xs ys same a to) (tail_in y x ys xs (sym same) b back))
  where
    first : (y ≡ x) ⊎ Contains ys x → (x ≡ y) ⊎ Contains xs y → x ≡ y
    first (inl e) f = sym e
    first (inr later) (inl f) = f
    first (inr later) (inr sooner) = absurd (not_both x y (pairs_first Before x xs y a sooner) (pairs_first Before y ys x b later))

-- ---- the pairs of the rows

abbrev pub pair_of : Row → Pair
pair_of r = record { entry = r.entry; place = r.place }

pairs_rise : (rows : List Row) → AllPairs IsBefore rows → AllPairs Before (map pair_of rows)
pairs_rise [] rise = λ i j d lt below. absurd (omega (arith, below))
pairs_rise (r ∷ rs) rise = pairs_cons Before (pair_of r) (map pair_of rs) (all_of (Before (pair_of r)) (map pair_of rs) (λ p has.
    let x = in_map pair_of rs p has in subst (Before (pair_of r)) x.2 (pairs_first IsBefore r rs x.0 rise x.1))) (pairs_rise rs (pairs_tail IsBefore r rs rise))

some_distance : (ds : List ℕ) → nat_lt 0 (length ds) ≡ true → (d : ℕ) × Contains ds d
some_distance [] e = absurd (let l = ltb-true 0 0 e in omega (arith, l))
some_distance (d ∷ ds) e = (d, in_first d ds)

has_distance : (ds : List ℕ) (d : ℕ) → Contains ds d → nat_lt 0 (length ds) ≡ true
has_distance [] d has = absurd (none_in_nil d has)
has_distance (x ∷ ds) d has = lt-ltb 0 (suc (length ds)) (omega arith)

flag_there : (flags : List Bool) (w : ℕ) → slice_get flags w ≡ Some true → slice_index_or flags w false ≡ true
flag_there [] w e = absurd (true≢false cc)
flag_there (b ∷ bs) zero e = let same : b ≡ true = cc in same
flag_there (b ∷ bs) (suc w) e = flag_there bs w e

six : (a b c d e f : Bool) → a ≡ true → b ≡ true → c ≡ true → d ≡ true → e ≡ true → f ≡ true → (a && b && c && d && e && f) ≡ true
six a b c d e f ea eb ec ed ee ef = rw (ea, eb, ec, ed, ee, ef) refl

module _ (entries : List (List ℕ)) (flags : List Bool) (table : List ℕ) (rows : List Row) (are : AreEntries entries) (few : number_count entries ≤ most_numbers)
    (settled : AreSettled 0 (kept_lists entries (flagged_entries entries flags)) table) (conflicts : AreConflicts entries (flagged_entries entries flags) rows) where
  abbrev words : List (List ℕ)
  words = flagged_entries entries flags

  abbrev closure : Closure
  closure = closure_of entries flags

  abbrev all : List Listed
  all = reached_states table

  abbrev distances : Pair → List ℕ
  distances p = hit_distances closure all p

  are_words : AreWords entries words
  are_words = flagged-are entries flags are

  shortest : (r : Row) → Contains rows r → IsShortest entries words r
  shortest r has = All-contains (IsShortest entries words) rows r conflicts.each has

  -- the least strokes of a row are the conflict's
  pub least_of : (r : Row) → Contains rows r → IsLeast entries words r.entry r.place r.strokes
  least_of r has = let s = shortest r has in record { ws = r.words; are_words = s.are_words; shows = s.shown; strokes = s.strokes; least = s.least }

  is_number : (w : ℕ) → IsWordNumber entries words w → is_word_number closure w ≡ true
  is_number w h = both_back (nat_lt w (length entries)) (slice_index_or flags w false) (lt-ltb w (length entries) h.0) (flag_there flags w ((flagged-flag entries flags w are.rising h.0).0 h.1))

  -- A row is that of its pair.
  pub row_held : (r : Row) → Contains rows r → is_row_of closure all (pair_of r) (Some (of.Row r)) ≡ true
  row_held r has =
      let s = shortest r has in
      let least = (IsLeast-number entries words table r.entry r.place r.strokes are_words settled).0 (least_of r has) in
      let there : list_any (λ d. d == r.strokes) (distances (pair_of r)) ≡ true =
      one_passes (λ d. d == r.strokes) (distances (pair_of r)) r.strokes (hit_there entries flags table are few settled r.entry r.place least.number r.strokes least.is) (eq-eqb r.strokes r.strokes refl) in
      let each : list_all (nat_le r.strokes) (distances (pair_of r)) ≡ true =
      all_pass (nat_le r.strokes) (distances (pair_of r)) (λ d at. let h = hit_among entries flags table are few settled (pair_of r) d at in le-leb r.strokes d (least.least h.0 d h.1)) in
      let numbers : list_all (is_word_number closure) r.words ≡ true =
      all_pass (is_word_number closure) r.words (λ w at. is_number w (All-contains (IsWordNumber entries words) r.words w s.are_words at)) in
      six (r.entry == r.entry) (r.place == r.place) (is_least_of r.strokes (distances (pair_of r))) (list_all (is_word_number closure) r.words) (length (joined_strokes entries r.words) == r.strokes) (words_show entries r.words r.entry r.place)
      (eq-eqb r.entry r.entry refl) (eq-eqb r.place r.place refl) (both_back _ (list_all (nat_le r.strokes) (distances (pair_of r))) there each) numbers (eq-eqb (length (joined_strokes entries r.words)) r.strokes s.strokes) ((words_show-Decides entries r.words r.entry r.place).1 s.shown)

  rows_held : (rs : List Row) → ((r : Row) → Contains rs r → Contains rows r) → AreRowsOf closure all (map pair_of rs) rs
  rows_held [] within = tt
  rows_held (r ∷ rs) within = (row_held r (within r (in_first r rs)), rows_held rs (λ s has. within s (in_later r rs s has)))

  listed_to_row : (p : Pair) → Contains (listed_pairs closure all) p → Contains (map pair_of rows) p
  listed_to_row p has =
      let two = (in_filter (λ q. nat_lt 0 (length (distances q))) (inner_pairs entries) p).0 has in
      let d = some_distance (distances p) two.1 in
      let h = hit_among entries flags table are few settled p d.0 d.1 in
      let row = conflicts.all p.entry p.place ((Conflict-number entries words table p.entry p.place are_words settled).1 (h.0, d.0, h.1)) in
      let same : pair_of row.row ≡ p = ap (λ n. record { entry = n; place = row.row.place }) row.entry_is ∙ ap (λ n. record { entry = p.entry; place = n }) row.place_is in
      subst (Contains (map pair_of rows)) same (in_map_of pair_of rows row.row row.there)

  row_to_listed : (p : Pair) → Contains (map pair_of rows) p → Contains (listed_pairs closure all) p
  row_to_listed p has =
      let x = in_map pair_of rows p has in
      let r = x.0 in
      let s = shortest r x.1 in
      let least = (IsLeast-number entries words table r.entry r.place r.strokes are_words settled).0 (least_of r x.1) in
      let there = hit_there entries flags table are few settled r.entry r.place least.number r.strokes least.is in
      let some = has_distance (distances (pair_of r)) r.strokes there in
      let inner = in_inner_pairs entries r.entry r.place (outline_past entries r.entry (let a = s.shown.after_start in let b = s.shown.before_end in omega (arith, a, b))) s.shown.after_start s.shown.before_end in
      subst (Contains (listed_pairs closure all)) x.2 ((in_filter (λ q. nat_lt 0 (length (distances q))) (inner_pairs entries) (pair_of r)).1 (inner, some))

  -- The listed pairs are those of the rows.
  pub listed_pairs-rows : listed_pairs closure all ≡ map pair_of rows
  listed_pairs-rows = same_pairs (listed_pairs closure all) (map pair_of rows) (pairs_filter Before (λ q. nat_lt 0 (length (distances q))) (inner_pairs entries) (inner_pairs-rise entries)) (pairs_rise rows conflicts.in_order) listed_to_row row_to_listed

  -- So the rows are those of the listed pairs.
  pub rows_of_listed : AreRowsOf closure all (map pair_of rows) rows
  rows_of_listed = rows_held rows (λ r has. has)

-- ---- their lines

-- the line of a row
abbrev pub row_line : Row → Option CertLine
row_line r = Some (of.Row r)

-- The checks of the rows and of the end hold on their lines.
pub row_lines_held : (c : Closure) (listed : List Listed) (before : Lines) (pairs : List Pair) (rows : List Row) → AreRowsOf c listed pairs rows →
    AllHold (row_checks c listed (before ++ (map row_line rows ++ Some of.End ∷ [])) (length before) pairs)
row_lines_held c listed before [] [] h = tt
row_lines_held c listed before [] (r ∷ rs) h = absurd h
row_lines_held c listed before (p ∷ ps) [] h = absurd h
row_lines_held c listed before (p ∷ ps) (r ∷ rs) h =
    let lines : Lines = before ++ (row_line r ∷ (map row_line rs ++ Some of.End ∷ [])) in
    let here = line_after before (row_line r ∷ (map row_line rs ++ Some of.End ∷ [])) in
    let shifted : (before ++ row_line r ∷ []) ++ (map row_line rs ++ Some of.End ∷ []) ≡ lines = append_assoc before (row_line r ∷ []) (map row_line rs ++ Some of.End ∷ []) in
    let rest = subst (λ n. AllHold (row_checks c listed ((before ++ row_line r ∷ []) ++ (map row_line rs ++ Some of.End ∷ [])) n ps)) (length_push before (row_line r)) (row_lines_held c listed (before ++ row_line r ∷ []) ps rs h.1) in
    (ap is_row_line here, (ap (is_row_of c listed p) here ∙ h.0, subst (λ ls. AllHold (row_checks c listed ls (length before + 1) ps)) shifted rest))

pub end_held : (lines : Lines) → AllHold (end_checks (lines ++ Some of.End ∷ []) (length lines))
end_held lines =
    let here = line_after lines (Some of.End ∷ []) in
    (ap is_end_line here, (le-leb (length (lines ++ Some of.End ∷ [])) (length lines + 1) (let e = length_push lines (Some of.End) in omega (arith, e)), tt))
