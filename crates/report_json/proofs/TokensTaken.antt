-- The tokens that are taken are those of a report's value.
use Rattle.std.proofs.Common.{ℕ, ◌≡◌, ◌∙◌, List, [], ◌∷◌, ◌++◌, ◌<◌, ◌≤◌, IsUtf8, Some, ap, append_assoc, arith, codes, length, map, refl, sym}
use Rattle.json.specs.Json.{after_end_array}
use Rattle.json.specs.Lex.{tokens}
use Rattle.json.specs.Token.{Token, begin_array, begin_object, end_array, end_object, key, string}
use Rattle.json.specs.Tree.{items_tokens, json_tokens}
use Rattle.json.proofs.Grammar.{closed_array}
use Rattle.serde_json.specs.View.{items_of}
use Rattle.serde_json.specs.Written.{items_outline, outline}
use Rattle.steno_order.specs.Canonical.{canonical_text}
use Rattle.dict_json.specs.Reading.{reading}
use Rattle.dict_json.proofs.ReadingLemmas.{reading-of_text}
use Rattle.report_json.specs.JsonReports.{IsJsonReport, JsonReportView, JsonRowView, outline_value, report_value, row_value}
use Rattle.report_json.specs.inside.Tokens.{each_token, number_tokens, report_tokens, rest_tokens, row_tokens, word_tokens}
use Rattle.report_json.proofs.ReadBack.{read_report, read_tokens}

-- one more at the end
pub each_pushed : {A : Type 0} (one : A → List Token → List Token) (xs : List A) (x : A) (rest : List Token) → each_token one (xs ++ x ∷ []) rest ≡ each_token one xs (one x rest)
each_pushed one [] x rest = refl
each_pushed one (y ∷ xs) x rest = ap (one y) (each_pushed one xs x rest)

words_are : (words : List (List ℕ)) (rest : List Token) → items_tokens (items_outline (items_of (map outline_value words))) ++ rest ≡ each_token word_tokens words (end_array ∷ rest)
words_are [] rest = refl
words_are (word ∷ words) rest = ap (λ (ts : List Token). string (canonical_text word) ∷ ts) (words_are words rest)

row_is : (row : JsonRowView) (rest : List Token) → json_tokens (outline (row_value row)) ++ rest ≡ row_tokens row rest
row_is row rest =
    let words = items_tokens (items_outline (items_of (map outline_value row.words))) in
    ap (λ (ts : List Token). begin_object ∷ key (codes "outline") ∷ string (canonical_text row.outline) ∷ number_tokens (codes "place") row.place (number_tokens (codes "strokes") row.strokes (key (codes "words") ∷ begin_array ∷ ts)))
    (append_assoc words (end_object ∷ []) rest ∙ words_are row.words (end_object ∷ rest))

rows_are : (rows : List JsonRowView) (rest : List Token) → items_tokens (items_outline (items_of (map row_value rows))) ++ rest ≡ each_token row_tokens rows (end_array ∷ rest)
rows_are [] rest = refl
rows_are (row ∷ rows) rest =
    let others = items_tokens (items_outline (items_of (map row_value rows))) in
    append_assoc (json_tokens (outline (row_value row))) others rest ∙ row_is row (others ++ rest) ∙ ap (row_tokens row) (rows_are rows rest)

report_is : (report : JsonReportView) → json_tokens (outline (report_value report)) ≡ report_tokens report []
report_is report = ap (λ (ts : List Token). begin_object ∷ key (codes "conflicts") ∷ begin_array ∷ ts) (rows_are report.rows (rest_tokens report []))

-- a text that has a report's tokens is read as its value
pub read_of_tokens : (text : List ℕ) (report : JsonReportView) → IsUtf8 text → IsJsonReport report → tokens text ≡ report_tokens report [] → reading text ≡ Some (report_value report)
read_of_tokens text report utf8 is are =
    reading-of_text text (report_value report) utf8 (read_tokens 4 (report_value report) text (read_report report is) (omega arith) (are ∙ sym (report_is report)))

-- ---- of the loops

-- one more is taken, and put behind those so far
pub one_more : {A : Type 0} (one : A → List Token → List Token) (xs ys : List A) (x : A) (start now next rest : List Token) → start ≡ each_token one xs now → next ≡ now → next ≡ one x rest → ys ≡ xs ++ x ∷ [] → start ≡ each_token one ys rest
one_more one xs ys x start now next rest so_far same taken pushed =
    so_far ∙ ap (each_token one xs) (sym same ∙ taken) ∙ sym (each_pushed one xs x rest) ∙ ap (λ l. each_token one l rest) (sym pushed)

-- all are taken, and the end of their array
pub all_taken : {A : Type 0} (one : A → List Token → List Token) (xs : List A) (start now rest : List Token) → start ≡ each_token one xs now → after_end_array now ≡ Some rest → start ≡ each_token one xs (end_array ∷ rest)
all_taken one xs start now rest so_far end = so_far ∙ ap (each_token one xs) (closed_array now rest end)

longer_words : (words : List (List ℕ)) (rest : List Token) → length rest ≤ length (each_token word_tokens words rest)
longer_words [] rest = omega arith
longer_words (word ∷ words) rest = omega (arith, longer_words words rest)

-- a row has a token
pub longer_row : (row : JsonRowView) (rest : List Token) → length rest < length (row_tokens row rest)
longer_row row rest = omega (arith, longer_words row.words (end_array ∷ end_object ∷ rest))
