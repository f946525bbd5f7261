-- The rows of conflicts are small, where entries are outlines and these and their states are few.
use Rattle.std.proofs.Common.{ℕ, zero, suc, ◌+◌, ◌*◌, ◌<◌, ◌≤◌, inl, inr, List, [], All, length, ap, arith, get_or}
use Rattle.std.specs.Prelude.{AllPairs}
use Rattle.std.proofs.lemmas.Bool.{cases_lt}
use Rattle.std.proofs.lemmas.List.{length-map}
use Rattle.std.proofs.Math.ListN.{get_or-eq_default}
use Rattle.steno_rules.specs.Outlines.{AreEntries, AreWords, IsOutline, outline_of}
use Rattle.steno_rules.specs.Conflicts.{AreEntryNumbers}
use Rattle.steno_rules.specs.StateNumbers.{number_count}
use Rattle.longest_match.specs.Rows.{AreConflicts, AreSmall, IsBefore, IsShortest, IsSmall, Row}
use Rattle.report_json.specs.JsonReports.{IsInner}
use Rattle.report_json.proofs.InnerPlaces.{inner_places}
use Rattle.certificate_laws.proofs.NearLemmas.{least_below}
use Rattle.cert_check.proofs.RowAnswers.{words_few}
use Rattle.dict_stack.specs.Stacks.{most_entries}
use Rattle.state_numbering.specs.Causes.{most_states}

-- the entry of a row that is shown is one
entry_below : (entries words : List (List ℕ)) (row : Row) → IsShortest entries words row → row.entry < length entries
entry_below entries words row is = elim (cases_lt row.entry (length entries)) [
  | inl lt ↦ lt
  | inr ge ↦ absurd (omega (arith, ap length (get_or-eq_default entries [] ge), is.shown.before_end))
]

-- words that show a row have no more strokes than there are numbers of states
small_row : (entries words : List (List ℕ)) (row : Row) → AreEntries entries → AreWords entries words → number_count entries ≤ most_states → IsShortest entries words row → IsSmall entries row
small_row entries words row are are_words few is =
    let numbers : AreEntryNumbers entries row.words = λ k d below. (is.are_words k d below).0 in
    let boundary = is.shown.boundary in
    let count = length-map row.words (outline_of entries) in
    let short = words_few entries row.words are numbers in
    let least = least_below entries words row.entry row.place row.strokes are_words (record { ws = row.words; are_words = is.are_words; shows = is.shown; strokes = is.strokes; least = is.least }) in
    record {
      entry = entry_below entries words row is;
      words = numbers;
      some = omega (arith, boundary.2, count);
      few = omega (arith, short, is.strokes, least, few);
    }

-- the rank of a row among all pairs of an entry and an inner place
abbrev rank : Row → ℕ
rank row = row.entry * 64 + row.place

-- rows in order have rising ranks
ranks_rise : (rows : List Row) → AllPairs IsBefore rows → All IsInner rows → (k : ℕ) (d : Row) → k < length rows → k ≤ rank (get_or rows k d)
ranks_rise rows order inside zero d below = omega arith
ranks_rise rows order inside (suc k) d below =
    let before = ranks_rise rows order inside k d (omega arith) in
    let place = (inside k d (omega arith)).at_most in
    elim (order k (suc k) d (omega arith) below) [
      | inl lt ↦ omega (arith, before, place, lt)
      | inr same ↦ omega (arith, before, same.0, same.1)
    ]

few_rows : (rows : List Row) (n : ℕ) → AllPairs IsBefore rows → All IsInner rows → ((k : ℕ) (d : Row) → k < length rows → Row.entry (get_or rows k d) < n) → length rows ≤ n * 64
few_rows rows n order inside entries = by (length rows) (λ k below. ranks_rise rows order inside k none below) (λ k below. entries k none below) (λ k below. (inside k none below).at_most)
  where
    none : Row
    none = record { entry = 0; place = 0; strokes = 0; words = [] }

    by : (count : ℕ) → ((k : ℕ) → k < count → k ≤ rank (get_or rows k none)) → ((k : ℕ) → k < count → Row.entry (get_or rows k none) < n) → ((k : ℕ) → k < count → Row.place (get_or rows k none) < 64) → count ≤ n * 64
    by zero ranks below inner = omega arith
    by (suc count) ranks below inner = let a = ranks count (omega arith) in let b = below count (omega arith) in let c = inner count (omega arith) in omega (arith, a, b, c)

pub small-rows : (entries words : List (List ℕ)) (rows : List Row) → AreEntries entries → AreWords entries words → All IsOutline entries → length entries ≤ most_entries → number_count entries ≤ most_states
    → AreConflicts entries words rows → AreSmall entries rows
small-rows entries words rows are are_words outlines few numbers conflicts =
    let count = few_rows rows (length entries) conflicts.in_order (inner_places entries words rows outlines conflicts) (λ k d below. entry_below entries words (get_or rows k d) (conflicts.each k d below)) in
    record {
      each = λ k d below. small_row entries words (get_or rows k d) are are_words numbers (conflicts.each k d below);
      few = omega (arith, count, few);
    }
