-- A report's value has no number with a point.
use Rattle.std.proofs.Common.{ℕ, ◌≡◌, ◌||◌, List, [], ◌∷◌, Bool, false, ap, refl, map}
use Rattle.serde_json.specs.View.{items_of}
use Rattle.serde_json.specs.Written.{has_float, items_have_float}
use Rattle.report_json.specs.JsonReports.{JsonReportView, JsonRowView, outline_value, row_value}
use Rattle.report_json.specs.inside.Rests.{rest_value}

words_no_float : (words : List (List ℕ)) → items_have_float (items_of (map outline_value words)) ≡ false
words_no_float [] = refl
words_no_float (word ∷ words) = words_no_float words

pub row_no_float : (row : JsonRowView) → has_float (row_value row) ≡ false
row_no_float row = ap (λ (b : Bool). b || false) (words_no_float row.words)

pub rest_no_float : (report : JsonReportView) → has_float (rest_value report) ≡ false
rest_no_float report = refl
