-- What is expected of `rows`.
--     IsRows bytes result     by the bytes of the report, where they are known
use Rattle.std.specs.Prelude.{ℕ, ◌≡◌, List, length, Option, Some, None}
use Rattle.dict_json.specs.Reading.{reading}
use Rattle.dict_files.specs.Refusals.{if_over}
use Rattle.dict_files.specs.declared.loading.TheConstants.{MAX_BYTES}
use Rattle.report.specs.Refusals.{RefusalView, not_json, not_report, too_many_bytes}
use Rattle.report_json.specs.JsonLines.{listing_text}
use Rattle.report_json.specs.ReadOutcomes.{IsReadOutcome, ReadOutcome, a_report, another_value, no_value}
use Rattle.audit_top.specs.Outcomes.{Expected, UnlessRefused, prints, refused}
use Rattle.audit_top.specs.declared.status.Status.TheVariants.{Clean}

-- the lines of a report's rows, or why there is no report
abbrev pub rows_result : ReadOutcome → Expected
rows_result (a_report report) = prints Clean (listing_text report)
rows_result no_value = refused (not_json 1)
rows_result another_value = refused (not_report 1)

-- by what the bytes come to
pub record ListsRows (bytes : List ℕ) (result : Expected) : Type 0 where
  pub outcome : ReadOutcome
  pub is : IsReadOutcome (reading bytes) outcome
  pub produces : result ≡ rows_result outcome

-- the limit on a report's length
abbrev pub bytes_limit : List ℕ → Option RefusalView
bytes_limit bytes = if_over MAX_BYTES (λ _. too_many_bytes 1) (length bytes)

abbrev pub IsListed : List ℕ → Expected → Type 0
IsListed bytes result = UnlessRefused (bytes_limit bytes) (ListsRows bytes) result

-- where the files don't tell the bytes, it is so for some
abbrev pub IsRows : Option (List ℕ) → Expected → Type 0
IsRows (Some bytes) result = IsListed bytes result
IsRows None result = (bytes : List ℕ) × IsListed bytes result
