-- The quick test of a row is the definition's.
use Rattle.std.proofs.Common.{◌≡◌, ℕ, zero, suc, ◌+◌, ◌<◌, ◌≤◌, List, [], ◌∷◌, ◌++◌, length, take, refl, sym, ap, subst, arith, Bool, true, false, true≢false, ◌∙◌, Some, inl, inr, ◌↔◌, get_or, length-append}
use Rattle.std.specs.Prelude.{◌&&◌, ◌==◌, nat_lt, nat_le, slice_index_or, IsTrue, All, IfOk, Result, Ok, Err}
use Rattle.std.specs.declared.alloc.AllocError.{AllocError}
use Rattle.std.specs.List.{list_all, list_any}
use Rattle.std.proofs.lemmas.Bool.{eqb-true, eq-eqb, leb-true, ltb-true, lt-ltb, cases_lt}
use Rattle.std.proofs.lemmas.List.{take_more}
use Rattle.std.proofs.lemmas.List.Folds.{list_all-append}
use Rattle.steno_rules.specs.Outlines.{AreEntries, outline_of}
use Rattle.steno_rules.specs.Conflicts.{AreEntryNumbers, Shows, joined_strokes}
use Rattle.steno_rules.proofs.Lists.{all_of}
use Rattle.longest_match.specs.Rows.{Row}
use Rattle.certificate.specs.declared.lines.CertLine.TheVariants as of
use Rattle.certificate.specs.CertTexts.{Listed}
use Rattle.certificate_laws.specs.Closures.{Closure}
use Rattle.certificate_laws.specs.RowTests.{words_show}
use Rattle.certificate_laws.specs.Validity.{hit_distances, is_least_of, is_row_of, is_word_number}
use Rattle.certificate_laws.proofs.ConflictRows.{row_says}
use Rattle.certificate_laws.proofs.HoldLemmas.{both, both_back, list_all_in, list_any_in}
use Rattle.certificate_laws.proofs.RowTests.{words_show-Decides}
use Rattle.std.proofs.Math.Bool.{and-false}
use Rattle.cert_check.specs.declared.founds.Found.{Found}
use Rattle.cert_check.specs.inside.Founds.{HasNoFarRow}
use Rattle.cert_check.specs.inside.RowAnswers.{IsRowTest, are_such_words, is_of_pair, pair_of}

same_bool : (a b : Bool) → (a ≡ true → b ≡ true) → (b ≡ true → a ≡ true) → a ≡ b
same_bool true b f g = sym (f refl)
same_bool false true f g = absurd (true≢false (sym (g refl)))
same_bool false false f g = refl

-- two least numbers of one list are the same
least_once : (a b : ℕ) (ds : List ℕ) → is_least_of a ds ≡ true → is_least_of b ds ≡ true → a ≡ b
least_once a b ds x y = let p = below a b x y in let q = below b a y x in omega (arith, p, q)
  where
    below : (m n : ℕ) → is_least_of m ds ≡ true → is_least_of n ds ≡ true → m ≤ n
    below m n u v =
        let found = list_any_in (λ k. k == n) ds (both (list_any (λ k. k == n) ds) (list_all (nat_le n) ds) v).0 in
        let same : found.0 ≡ n = eqb-true found.0 n found.2 in
        let le = leb-true m found.0 (list_all_in (nat_le m) ds found.0 (both (list_any (λ k. k == m) ds) (list_all (nat_le m) ds) u).1 found.1) in
        omega (arith, same, le)

four : (a b c d : Bool) → a ≡ true → b ≡ true → c ≡ true → d ≡ true → (a && (b && (c && d))) ≡ true
four a b c d ea eb ec ed = rw (ea, eb, ec, ed) refl

-- a right row passes both quick tests
says_pair : (closure : Closure) (found : Found) (row : Row) (all : List Listed) → HasNoFarRow closure all → is_least_of found.distance (hit_distances closure all (pair_of found)) ≡ true → is_row_of closure all (pair_of found) (Some (of.Row row)) ≡ true → is_of_pair found row ≡ true
says_pair closure found row all near least is =
    let says = row_says closure all (pair_of found) row is in
    let same = least_once row.strokes found.distance (hit_distances closure all (pair_of found)) says.least least in
    four (row.entry == found.entry) (row.place == found.place) (row.strokes == found.distance) (nat_lt found.distance 67108864)
    (eq-eqb row.entry found.entry says.entry) (eq-eqb row.place found.place says.place) (eq-eqb row.strokes found.distance same)
    (elim (cases_lt found.distance 67108864) [
      | inl lt ↦ lt-ltb found.distance 67108864 lt
      | inr far ↦ absurd (true≢false (sym is ∙ near (pair_of found) found.distance row least far))
    ])

-- The row is another's.
pub row_of_other : (closure : Closure) (found : Found) (row : Row) → is_of_pair found row ≡ false → IsRowTest closure found row false
row_of_other closure found row other all near least = by (is_row_of closure all (pair_of found) (Some (of.Row row))) refl
  where
    by : (b : Bool) → is_row_of closure all (pair_of found) (Some (of.Row row)) ≡ b → false ≡ b
    by true is = absurd (true≢false (sym (says_pair closure found row all near least is) ∙ other))
    by false is = refl

-- Its words are none, or have other strokes.
pub row_without_words : (closure : Closure) (found : Found) (row : Row) → are_such_words closure row.words row.strokes ≡ false → IsRowTest closure found row false
row_without_words closure found row other all near least = by (is_row_of closure all (pair_of found) (Some (of.Row row))) refl
  where
    by : (b : Bool) → is_row_of closure all (pair_of found) (Some (of.Row row)) ≡ b → false ≡ b
    by true is =
        let says = row_says closure all (pair_of found) row is in
        absurd (true≢false (sym (both_back (list_all (is_word_number closure) row.words) (length (joined_strokes closure.outlines row.words) == row.strokes) says.are_words (eq-eqb (length (joined_strokes closure.outlines row.words)) row.strokes says.strokes)) ∙ other))
    by false is = refl

six : (a b c d e f : Bool) → a ≡ true → b ≡ true → c ≡ true → d ≡ true → e ≡ true → f ≡ true → (a && b && c && d && e && f) ≡ true
six a b c d e f ea eb ec ed ee ef = rw (ea, eb, ec, ed, ee, ef) refl

-- what the test of the pair says
pub record IsOfPair (found : Found) (row : Row) : Type 0 where
  pub entry : row.entry ≡ found.entry
  pub place : row.place ≡ found.place
  pub strokes : row.strokes ≡ found.distance
  pub few : found.distance < 67108864

pub of_pair : (found : Found) (row : Row) → is_of_pair found row ≡ true → IsOfPair found row
of_pair found row is =
    let a = both (row.entry == found.entry) (row.place == found.place && (row.strokes == found.distance && nat_lt found.distance 67108864)) is in
    let b = both (row.place == found.place) (row.strokes == found.distance && nat_lt found.distance 67108864) a.1 in
    let c = both (row.strokes == found.distance) (nat_lt found.distance 67108864) b.1 in
    record {
      entry = eqb-true row.entry found.entry a.0;
      place = eqb-true row.place found.place b.0;
      strokes = eqb-true row.strokes found.distance c.0;
      few = ltb-true found.distance 67108864 c.1;
    }

-- Otherwise all is decided by whether its words show the pair.
pub row_shown : (closure : Closure) (found : Found) (row : Row) (answer : Bool) → is_of_pair found row ≡ true → are_such_words closure row.words row.strokes ≡ true →
    IsTrue answer ↔ Shows closure.outlines row.words found.entry found.place → IsRowTest closure found row answer
row_shown closure found row answer pair words shown all near least =
    let is = of_pair found row pair in
    let w = both (list_all (is_word_number closure) row.words) (length (joined_strokes closure.outlines row.words) == row.strokes) words in
    let decides = words_show-Decides closure.outlines row.words row.entry row.place in
    same_bool answer (is_row_of closure all (pair_of found) (Some (of.Row row)))
    (λ t. six (row.entry == found.entry) (row.place == found.place) (is_least_of row.strokes (hit_distances closure all (pair_of found))) (list_all (is_word_number closure) row.words) (length (joined_strokes closure.outlines row.words) == row.strokes) (words_show closure.outlines row.words row.entry row.place)
    (eq-eqb row.entry found.entry is.entry) (eq-eqb row.place found.place is.place) (subst (λ k. is_least_of k (hit_distances closure all (pair_of found)) ≡ true) (sym is.strokes) least) w.0 w.1
    (decides.1 (subst (λ e. Shows closure.outlines row.words e row.place) (sym is.entry) (subst (λ j. Shows closure.outlines row.words found.entry j) (sym is.place) (shown.0 t)))))
    (λ t. shown.1 (subst (λ e. Shows closure.outlines row.words e found.place) is.entry (subst (λ j. Shows closure.outlines row.words row.entry j) is.place (decides.0 (row_says closure all (pair_of found) row t).shown))))

-- ---- its words

-- The numbers of words are those of entries.
pub such_numbers : (closure : Closure) (ws : List ℕ) → list_all (is_word_number closure) ws ≡ true → AreEntryNumbers closure.outlines ws
such_numbers closure ws h = all_of (λ w. w < length closure.outlines) ws (λ w has. ltb-true w (length closure.outlines) (both (nat_lt w (length closure.outlines)) (slice_index_or closure.words w false) (list_all_in (is_word_number closure) ws w h has)).0)

-- the strokes of one word more
pub strokes_push : (entries : List (List ℕ)) (ws : List ℕ) (w : ℕ) → length (joined_strokes entries (ws ++ w ∷ [])) ≡ length (joined_strokes entries ws) + length (outline_of entries w)
strokes_push entries [] w = (let e = length-append (outline_of entries w) [] in omega (arith, e))
strokes_push entries (x ∷ xs) w =
    let a = length-append (outline_of entries x) (joined_strokes entries (xs ++ w ∷ [])) in
    let b = length-append (outline_of entries x) (joined_strokes entries xs) in
    let c = strokes_push entries xs w in
    omega (arith, a, b, c)

-- those of the first so many words are no more than all
pub strokes_up : (entries : List (List ℕ)) (ws : List ℕ) (k : ℕ) → length (joined_strokes entries (take k ws)) ≤ length (joined_strokes entries ws)
strokes_up entries ws zero = omega arith
strokes_up entries [] (suc k) = omega arith
strokes_up entries (x ∷ xs) (suc k) =
    let a = length-append (outline_of entries x) (joined_strokes entries (take k xs)) in
    let b = length-append (outline_of entries x) (joined_strokes entries xs) in
    let c = strokes_up entries xs k in
    omega (arith, a, b, c)

-- Each word has a stroke.
pub words_few : (entries : List (List ℕ)) (ws : List ℕ) → AreEntries entries → AreEntryNumbers entries ws → length ws ≤ length (joined_strokes entries ws)
words_few entries [] are each = omega arith
words_few entries (x ∷ xs) are each =
    let a = length-append (outline_of entries x) (joined_strokes entries xs) in
    let below : x < length entries = each 0 x (omega arith) in
    let some : 0 < length (outline_of entries x) = are.not_empty x [] below in
    let rest = words_few entries xs are (λ k d lt. each (suc k) d (omega (arith, lt))) in
    omega (arith, a, some, rest)

-- ---- the loop over the words

-- what the loop keeps: the words so far are some, and have so many strokes
pub record AreSuchSoFar (closure : Closure) (ws : List ℕ) (i sum most : ℕ) : Type 0 where
  pub all : list_all (is_word_number closure) (take i ws) ≡ true
  pub sum_is : sum ≡ length (joined_strokes closure.outlines (take i ws))
  pub within : sum ≤ most

pub such_none : (closure : Closure) (ws : List ℕ) (most : ℕ) → AreSuchSoFar closure ws 0 0 most
such_none closure ws most = record { all = refl; sum_is = refl; within = omega arith }

-- one word more
such_more : (closure : Closure) (ws : List ℕ) (i sum most w : ℕ) → i < length ws → w ≡ get_or ws i w → AreSuchSoFar closure ws i sum most → length (joined_strokes closure.outlines (take (i + 1) ws)) ≡ sum + length (outline_of closure.outlines w)
such_more closure ws i sum most w below is h =
    ap (λ xs. length (joined_strokes closure.outlines xs)) (take_more ws i w below ∙ ap (λ x. take i ws ++ x ∷ []) (sym is))
    ∙ (strokes_push closure.outlines (take i ws) w ∙ ap (λ k. k + length (outline_of closure.outlines w)) (sym h.sum_is))

pub such_next : (closure : Closure) (ws : List ℕ) (i sum most w new : ℕ) → i < length ws → w ≡ get_or ws i w → is_word_number closure w ≡ true → new ≡ sum + length (outline_of closure.outlines w) → new ≤ most →
    AreSuchSoFar closure ws i sum most → AreSuchSoFar closure ws (i + 1) new most
such_next closure ws i sum most w new below is word new_is within h = record {
  all =
      ap (list_all (is_word_number closure)) (take_more ws i w below ∙ ap (λ x. take i ws ++ x ∷ []) (sym is))
      ∙ (list_all-append (is_word_number closure) (take i ws) (w ∷ []) ∙ both_back (list_all (is_word_number closure) (take i ws)) (list_all (is_word_number closure) (w ∷ [])) h.all (both_back (is_word_number closure w) true word refl));
  sum_is = new_is ∙ sym (such_more closure ws i sum most w below is h);
  within = within;
}

all_false : (p : ℕ → Bool) (ws : List ℕ) (i w : ℕ) → i < length ws → w ≡ get_or ws i w → p w ≡ false → list_all p ws ≡ false
all_false p [] i w lt is e = absurd (omega (arith, lt))
all_false p (x ∷ xs) zero w lt is e = ap (λ b. b && list_all p xs) (ap p (sym is) ∙ e)
all_false p (x ∷ xs) (suc i) w lt is e = by (p x) (all_false p xs i w (omega (arith, lt)) is e)
  where
    by : (b : Bool) → list_all p xs ≡ false → (b && list_all p xs) ≡ false
    by true r = r
    by false r = refl

-- A number that is no word's.
pub such_stranger : (closure : Closure) (ws : List ℕ) (i w most : ℕ) → i < length ws → w ≡ get_or ws i w → is_word_number closure w ≡ false → are_such_words closure ws most ≡ false
such_stranger closure ws i w most below is e = ap (λ b. b && (length (joined_strokes closure.outlines ws) == most)) (all_false (is_word_number closure) ws i w below is e)

differs : (a b : ℕ) → b < a → (a == b) ≡ false
differs a b lt = by (a == b) refl
  where
    by : (c : Bool) → (a == b) ≡ c → c ≡ false
    by true e = absurd (let same = eqb-true a b e in omega (arith, same, lt))
    by false e = refl

-- More strokes than there may be.
pub such_long : (closure : Closure) (ws : List ℕ) (i sum most w new : ℕ) → i < length ws → w ≡ get_or ws i w → new ≡ sum + length (outline_of closure.outlines w) → most < new → AreSuchSoFar closure ws i sum most → are_such_words closure ws most ≡ false
such_long closure ws i sum most w new below is new_is long h =
    let more = such_more closure ws i sum most w below is h in
    let up = strokes_up closure.outlines ws (i + 1) in
    ap (λ b. list_all (is_word_number closure) ws && b) (differs (length (joined_strokes closure.outlines ws)) most (omega (arith, more, up, new_is, long))) ∙ and-false (list_all (is_word_number closure) ws)

-- All words.
pub such_all : (closure : Closure) (ws : List ℕ) (i sum most : ℕ) → take i ws ≡ ws → AreSuchSoFar closure ws i sum most → are_such_words closure ws most ≡ (sum == most)
such_all closure ws i sum most all h =
    ap (λ b. b && (length (joined_strokes closure.outlines ws) == most)) (ap (list_all (is_word_number closure)) (sym all) ∙ h.all)
    ∙ ap (λ k. k == most) (sym (h.sum_is ∙ ap (λ xs. length (joined_strokes closure.outlines xs)) all))

-- A flag says whether its number is that of a word.
pub flag_word : (closure : Closure) (flags : List Bool) (w : ℕ) (b : Bool) → b ≡ (nat_lt w (length flags) && slice_index_or flags w false) → flags ≡ closure.words → length closure.words ≡ length closure.outlines → b ≡ is_word_number closure w
flag_word closure flags w b is words each =
    is ∙ (ap (λ fs. nat_lt w (length fs) && slice_index_or fs w false) words ∙ ap (λ n. nat_lt w n && slice_index_or closure.words w false) each)

-- Where the pair and the words are right, the answer is whether the words show the pair.
pub row_decided : (closure : Closure) (found : Found) (row : Row) (r : Result Bool AllocError) (outlines : List (List ℕ)) (ws : List ℕ) → outlines ≡ closure.outlines → ws ≡ row.words → is_of_pair found row ≡ true → are_such_words closure row.words row.strokes ≡ true →
    IfOk r (λ answer. IsTrue answer ↔ Shows outlines ws found.entry found.place) → IfOk r (IsRowTest closure found row)
row_decided closure found row (Ok answer) outlines ws o w pair words shown =
    row_shown closure found row answer pair words (subst (λ x. IsTrue answer ↔ Shows x row.words found.entry found.place) o (subst (λ x. IsTrue answer ↔ Shows outlines x found.entry found.place) w shown))
row_decided closure found row (Err x) outlines ws o w pair words shown = tt

-- Words of so few strokes are few.
pub such_few : (closure : Closure) (found : Found) (row : Row) (ws : List ℕ) → AreEntries closure.outlines → ws ≡ row.words → is_of_pair found row ≡ true → are_such_words closure row.words row.strokes ≡ true → length ws < 67108864
such_few closure found row ws are w pair words =
    let is = of_pair found row pair in
    let two = both (list_all (is_word_number closure) row.words) (length (joined_strokes closure.outlines row.words) == row.strokes) words in
    let few = words_few closure.outlines row.words are (such_numbers closure row.words two.0) in
    let sum = eqb-true (length (joined_strokes closure.outlines row.words)) row.strokes two.1 in
    let strokes = is.strokes in let most = is.few in
    omega (arith, few, sum, strokes, most, ap length w)
