-- Why bytes are no report.
--     IsJsonCause value fault   the cause of a fault, where the bytes read as this value or as none
use Rattle.std.specs.Prelude.{◌≡◌, ⊤, Option, Some, None}
use Rattle.serde_json.specs.Data.{Data}
use Rattle.report_json.specs.JsonReports.{IsReportValue}
use Rattle.report_json.specs.declared.faults.JsonFault.{JsonFault}
use Rattle.report_json.specs.declared.faults.JsonFault.TheVariants.{NotJson, NotReport, Memory}

-- the bytes have a reading, which is the value of no report
pub record IsOtherValue (value : Option Data) : Type 0 where
  pub there : Data
  pub is : value ≡ Some there
  pub other : IsReportValue there → ⊥

-- memory may run out whatever the bytes are
abbrev pub IsJsonCause : Option Data → JsonFault → Type 0
IsJsonCause value NotJson = value ≡ None
IsJsonCause value NotReport = IsOtherValue value
IsJsonCause value Memory = ⊤
