-- What a search and its conflicts give to the writing of their certificate.
use Rattle.std.proofs.Common.{ℕ, ◌^◌, ◌<◌, ◌≤◌, List, length, arith, Bool}
use Rattle.std.specs.Prelude.{All}
use Rattle.graph_rules.specs.Graphs.{AreSettled, most_numbers}
use Rattle.steno_rules.specs.ClosureGraphs.{kept_lists}
use Rattle.steno_rules.specs.Outlines.{AreEntries, IsOutline, flagged_entries}
use Rattle.steno_rules.specs.StateNumbers.{number_count}
use Rattle.steno_rules.specs.States.{kept_targets}
use Rattle.closure_laws.proofs.GraphLemmas.{length-lists}
use Rattle.longest_match.specs.Rows.{AreConflicts, AreSmall, Row}
use Rattle.audit_certificate.specs.OwnCertificates.{IsAudited}

-- There are as many words as numbers of states,
pub table_few : (entries words : List (List ℕ)) (table : List ℕ) → AreSettled 0 (kept_lists entries words) table → number_count entries ≤ most_numbers → length table ≤ most_numbers
table_few entries words table settled few =
    let count = settled.count in
    let lists = length-lists entries words (kept_targets entries words) in
    omega (arith, count, lists, few)

-- and each row has a word.
pub rows_have_words : (entries : List (List ℕ)) (rows : List Row) → AreSmall entries rows → All (λ row. 0 < length row.words) rows
rows_have_words entries rows small = λ i d lt. (small.each i d lt).some

-- So the table and the rows are those of an audit.
pub is_audited : (entries : List (List ℕ)) (flags : List Bool) (table : List ℕ) (rows : List Row) → AreEntries entries → All IsOutline entries → length entries < 2 ^ 32 → number_count entries ≤ most_numbers
    → AreSettled 0 (kept_lists entries (flagged_entries entries flags)) table → AreConflicts entries (flagged_entries entries flags) rows → AreSmall entries rows → IsAudited entries flags table rows
is_audited entries flags table rows are outlines few numbers settled conflicts small = record {
  are_entries = are;
  are_outlines = outlines;
  few_entries = few;
  few_numbers = numbers;
  settled = settled;
  conflicts = conflicts;
  small = small;
}
