-- The worked examples of reports as JSON, computed by the definitions.
use Rattle.std.proofs.Common.{◌≡◌, ◌+◌, ◌^◌, ℕ, [], ◌∷◌, None, codes, refl}
use Rattle.std.specs.Fmt.{digits}
use Rattle.std.specs.Str.{is_utf8, chars}
use Rattle.serde_json.proofs.OnLiterals.{serde_json_on_literals}
use Rattle.dict_json.specs.Reading.{reading}
use Rattle.report_json.specs.JsonLines.{json_text, listing_text}
use Rattle.report_json.specs.JsonReports.{JsonReportView, JsonRowView}

-- K-, T-, A- and -T, and so on: the codes of two strokes
abbrev kat : ℕ
kat = 8 + 2 ^ 8 + 2 ^ 19

abbrev tel : ℕ
tel = 4 + 2 ^ 11 + 2 ^ 17

abbrev cattle : JsonRowView
cattle = record { outline = kat ∷ tel ∷ []; place = 1; strokes = 2; words = (kat ∷ []) ∷ (tel ∷ []) ∷ [] }

abbrev of_three : JsonReportView
of_three = record { entries = 3; folded = 0; rounds = 3; skipped = 0; states = 9; strokes = 2; rows = cattle ∷ [] }

abbrev of_none : JsonReportView
of_none = record { entries = 0; folded = 0; rounds = 1; skipped = 0; states = 1; strokes = 0; rows = [] }

text_of_three : json_text of_three
    ≡ codes "{\"conflicts\":[{\"outline\":\"KAT/TEL\",\"place\":1,\"strokes\":2,\"words\":[\"KAT\",\"TEL\"]}],\"entries\":3,\"folded\":0,\"rounds\":3,\"skipped\":0,\"states\":9,\"strokes\":2}"
unfolding digits serde_json_on_literals
text_of_three = refl

text_of_none : json_text of_none ≡ codes "{\"conflicts\":[],\"entries\":0,\"folded\":0,\"rounds\":1,\"skipped\":0,\"states\":1,\"strokes\":0}"
unfolding digits serde_json_on_literals
text_of_none = refl

lines_of_three : listing_text of_three ≡ codes "conflict KAT/TEL place 1 strokes 2\nwords KAT | TEL\n"
unfolding digits
lines_of_three = refl

lines_of_none : listing_text of_none ≡ []
lines_of_none = refl

-- an open bracket has no reading
nothing_read : reading (codes "{") ≡ None
unfolding reading serde_json_on_literals is_utf8 chars
nothing_read = refl
