-- What the bytes of a file are as a report.
--     IsReadOutcome value outcome   bytes that read as this value, or as none, come to this
use Rattle.std.specs.Prelude.{◌≡◌, Option, Some, None}
use Rattle.serde_json.specs.Data.{Data}
use Rattle.report_json.specs.JsonFaults.{IsOtherValue}
use Rattle.report_json.specs.JsonReports.{IsJsonReport, JsonReportView, report_value}

-- a report, or one of two refusals
pub data ReadOutcome : Type 0 where
  a_report : JsonReportView → ReadOutcome
  no_value : ReadOutcome
  another_value : ReadOutcome

-- the value is that of the report
pub record IsOfReport (value : Option Data) (report : JsonReportView) : Type 0 where
  pub is_report : IsJsonReport report
  pub is : value ≡ Some (report_value report)

abbrev pub IsReadOutcome : Option Data → ReadOutcome → Type 0
IsReadOutcome value (a_report report) = IsOfReport value report
IsReadOutcome value no_value = value ≡ None
IsReadOutcome value another_value = IsOtherValue value
