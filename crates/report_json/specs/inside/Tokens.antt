-- The tokens of a report's text, before those that follow.
--     each_token one xs rest        those of each of a list, one after another
--     row_tokens row rest           those of a row
--     report_tokens report rest     those of a report
use Rattle.std.specs.Prelude.{ℕ, List, [], ◌∷◌, codes, decimal}
use Rattle.json.specs.Token.{Token, begin_object, end_object, begin_array, end_array, key, string, number}
use Rattle.steno_order.specs.Canonical.{canonical_text}
use Rattle.report_json.specs.JsonReports.{JsonReportView, JsonRowView}

abbrev pub each_token : {A : Type 0} → (A → List Token → List Token) → List A → List Token → List Token
each_token one [] rest = rest
each_token one (x ∷ xs) rest = one x (each_token one xs rest)

abbrev pub word_tokens : List ℕ → List Token → List Token
word_tokens word rest = string (canonical_text word) ∷ rest

-- a member whose value is a number
abbrev pub number_tokens : List ℕ → ℕ → List Token → List Token
number_tokens name n rest = key name ∷ number (decimal n) ∷ rest

abbrev pub row_tokens : JsonRowView → List Token → List Token
row_tokens row rest =
    begin_object ∷ key (codes "outline") ∷ string (canonical_text row.outline) ∷
    number_tokens (codes "place") row.place (number_tokens (codes "strokes") row.strokes
    (key (codes "words") ∷ begin_array ∷ each_token word_tokens row.words (end_array ∷ end_object ∷ rest)))

-- the six numbers, and the end of the object
abbrev pub rest_tokens : JsonReportView → List Token → List Token
rest_tokens report rest =
    number_tokens (codes "entries") report.entries (number_tokens (codes "folded") report.folded
    (number_tokens (codes "rounds") report.rounds (number_tokens (codes "skipped") report.skipped
    (number_tokens (codes "states") report.states (number_tokens (codes "strokes") report.strokes
    (end_object ∷ rest))))))

abbrev pub report_tokens : JsonReportView → List Token → List Token
report_tokens report rest =
    begin_object ∷ key (codes "conflicts") ∷ begin_array ∷
    each_token row_tokens report.rows (end_array ∷ rest_tokens report rest)
