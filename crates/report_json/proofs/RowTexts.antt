-- The texts of rows, one after another.
use Rattle.std.proofs.Common.{ℕ, ◌≡◌, ◌+◌, ◌<◌, ◌∙◌, List, [], ◌∷◌, ◌++◌, ap, ap₂, sym, subst, refl, arith, Option, append_assoc, drop, get_or, length, map, Bool, true, false, nat_lt, Result, Vec, Global, IfOk, codes}
use Rattle.std.proofs.lemmas.Bool.Decides.{nat_tests}
use Rattle.std.proofs.lemmas.List.{drop_more}
use Rattle.std.proofs.lemmas.Result.{IfOk-weaker}
use Rattle.std.specs.declared.alloc.AllocError.{AllocError}
use Rattle.json.specs.Print.{quoted}
use Rattle.serde_json.proofs.OnLiterals.{serde_json_on_literals}
use Rattle.serde_json.specs.Data.{Data, Items, Members, array, member, no_members, object}
use Rattle.serde_json.specs.View.{items_of, view}
use Rattle.serde_json.specs.Written.{comma_if, compact_text, has_float, items_text}
use Rattle.serde_json.specs.declared.value.Value.{Value}
use Rattle.outside.specs.Sink.{Puts}
use Rattle.outside.specs.declared.fault.OutsideFault.{OutsideFault}
use Rattle.report_json.specs.JsonLines.{json_text}
use Rattle.report_json.specs.JsonReports.{JsonReportView, JsonRowView, number_value, row_value}
use Rattle.report_json.proofs.NoFloats.{row_no_float}
use Rattle.report_json.specs.inside.Rests.{item_text, rest_value, rows_left}

-- the next of the texts that are left
pub next_text : (rows : List JsonRowView) (i : ℕ) (d row : JsonRowView) → i < length rows → row ≡ get_or rows i d
    → rows_left (nat_lt 0 i) (drop i rows) ≡ item_text (nat_lt 0 i) row ++ rows_left (nat_lt 0 (i + 1)) (drop (i + 1) rows)
next_text rows i d row inside is =
    let later : true ≡ nat_lt 0 (i + 1) = grind (arith, nat_tests) in
    ap (rows_left (nat_lt 0 i)) (drop_more rows i d inside)
    ∙ ap₂ (λ (r : JsonRowView) (b : Bool). item_text (nat_lt 0 i) r ++ rows_left b (drop (i + 1) rows)) (sym is) later

-- the rows and then the bracket behind them are the text of the array
pub items_written : (later : Bool) (rows : List JsonRowView) → items_text later (items_of (map row_value rows)) ≡ rows_left later rows ++ 93 ∷ []
items_written later [] = refl
items_written later (row ∷ rows) =
    ap (λ (l : List ℕ). comma_if later ++ (compact_text (row_value row) ++ l)) (items_written true rows)
    ∙ ap (λ (l : List ℕ). comma_if later ++ l) (sym (append_assoc (compact_text (row_value row)) (rows_left true rows) (93 ∷ [])))
    ∙ sym (append_assoc (comma_if later) (compact_text (row_value row) ++ rows_left true rows) (93 ∷ []))
    ∙ ap (λ (l : List ℕ). l ++ (93 ∷ [])) (sym (append_assoc (comma_if later) (compact_text (row_value row)) (rows_left true rows)))

-- the text that is made of a row's value
pub text_of_row : (made : Result (Vec ℕ Global) AllocError) (value : Value) (row : JsonRowView) → view value ≡ row_value row
    → IfOk made (λ text. has_float (view value) ≡ false → text.items ≡ compact_text (view value)) → IfOk made (λ text. text.items ≡ compact_text (row_value row))
text_of_row made value row is text =
    IfOk-weaker made (λ text. has_float (view value) ≡ false → text.items ≡ compact_text (view value)) (λ text. text.items ≡ compact_text (row_value row))
    (λ text h. h (ap has_float is ∙ row_no_float row) ∙ ap compact_text is) text

-- the name of the first member
first_name : quoted (codes "conflicts") ≡ codes "\"conflicts\""
unfolding serde_json_on_literals
first_name = refl

-- an object whose first member is an array, with the members behind it as an object's
front_text : (name : List ℕ) (items : Items) (next : List ℕ) (value : Data) (ms : Members) →
    compact_text (object (member name (array items) (member next value ms))) ≡ 123 ∷ (quoted name ++ 58 ∷ 91 ∷ (items_text false items ++ 44 ∷ drop 1 (compact_text (object (member next value ms)))))
front_text name items next value ms = refl

-- the same in three parts
three_parts : (name text : List ℕ) (items : Items) (rows next : List ℕ) (value : Data) (ms : Members) → quoted name ≡ text → items_text false items ≡ rows ++ 93 ∷ [] →
    compact_text (object (member name (array items) (member next value ms)))
    ≡ (123 ∷ (text ++ 58 ∷ 91 ∷ [])) ++ (rows ++ 93 ∷ 44 ∷ drop 1 (compact_text (object (member next value ms))))
three_parts name text items rows next value ms is are =
    let rest = drop 1 (compact_text (object (member next value ms))) in
    front_text name items next value ms
    ∙ ap₂ (λ (t l : List ℕ). 123 ∷ (t ++ 58 ∷ 91 ∷ (l ++ 44 ∷ rest))) is are
    ∙ ap (λ (l : List ℕ). 123 ∷ (text ++ 58 ∷ 91 ∷ l)) (append_assoc rows (93 ∷ []) (44 ∷ rest))
    ∙ sym (ap (λ (l : List ℕ). 123 ∷ l) (append_assoc text (58 ∷ 91 ∷ []) (rows ++ 93 ∷ 44 ∷ rest)))

-- the text of a report in three parts
pub report_parts : (report : JsonReportView) → json_text report ≡ codes "{\"conflicts\":[" ++ (rows_left false report.rows ++ (codes "]," ++ drop 1 (compact_text (rest_value report))))
report_parts report = three_parts (codes "conflicts") (codes "\"conflicts\"") (items_of (map row_value report.rows)) (rows_left false report.rows) (codes "entries") (number_value report.entries)
    (member (codes "folded") (number_value report.folded)
    (member (codes "rounds") (number_value report.rounds)
    (member (codes "skipped") (number_value report.skipped)
    (member (codes "states") (number_value report.states)
    (member (codes "strokes") (number_value report.strokes)
    no_members))))) first_name (items_written false report.rows)

-- where its parts were put, the text was
pub json_puts : {T : Type 0} (report : JsonReportView) (rows : List JsonRowView) (result : Result T OutsideFault) (old new : Option (List ℕ)) (before after : ℕ) → rows ≡ report.rows
    → Puts (codes "{\"conflicts\":[" ++ (rows_left false rows ++ (codes "]," ++ drop 1 (compact_text (rest_value report))))) result old new before after
    → Puts (json_text report) result old new before after
json_puts report rows result old new before after are h =
    let rest = codes "]," ++ drop 1 (compact_text (rest_value report)) in
    subst (λ (l : List ℕ). Puts l result old new before after) (ap (λ (rs : List JsonRowView). codes "{\"conflicts\":[" ++ (rows_left false rs ++ rest)) are ∙ sym (report_parts report)) h
