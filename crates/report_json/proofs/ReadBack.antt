-- The text of a report is read as its value.
use Rattle.std.proofs.Common.{ℕ, ◌≡◌, ◌+◌, ◌<◌, ◌≤◌, ◌^◌, ◌∙◌, List, [], ◌∷◌, All, Bool, true, false, IsUtf8, None, Some, ap, append-nil, arith, codes, map, refl, sym}
use Rattle.std.specs.Prelude.{option_and_then, option_map}
use Rattle.std.proofs.lemmas.List.Elements.{All-head, All-tail}
use Rattle.std.proofs.lemmas.Str.{IsUtf8-append, IsUtf8-nil}
use Rattle.json.specs.Json as json
use Rattle.json.specs.Lex.{tokens}
use Rattle.json.specs.Print.{quoted}
use Rattle.json.specs.Tree as tree
use Rattle.json.specs.Tree.{HasNumbers, ItemsHaveNumbers, json_tokens}
use Rattle.json.proofs.Printed.Decimals.{IsNumber-decimal}
use Rattle.json.proofs.Printed.Tokens.{tokens-print}
use Rattle.json.proofs.Printed.Trees.{ArePrintable-json_tokens, value-json_tokens}
use Rattle.json.proofs.Printed.Utf8.{IsUtf8-are_ascii, IsUtf8-quoted, are_ascii}
use Rattle.serde_json.specs.Data.{Data, Items, Members, array, item, member, no_members, number, object, put}
use Rattle.serde_json.specs.Read.{max_depth, of_items, of_json, of_members, read}
use Rattle.serde_json.specs.View.{items_of}
use Rattle.serde_json.specs.Written.{comma_if, compact_text, items_outline, items_text, members_outline, members_text, outline}
use Rattle.serde_json.proofs.Numbers.{number_of-decimal}
use Rattle.serde_json.proofs.Texts.{print-outline}
use Rattle.steno_rules.specs.Outlines.{IsOutline}
use Rattle.dict_json.specs.Reading.{reading}
use Rattle.dict_json.proofs.ReadingLemmas.{reading-of_text}
use Rattle.report_json.specs.JsonLines.{json_text}
use Rattle.report_json.specs.JsonReports.{IsJsonReport, IsJsonRow, JsonReportView, JsonRowView, number_value, outline_value, report_value, row_value}
use Rattle.report_json.specs.inside.Readings.{report_object, row_object, rows_value, words_value}
use Rattle.report_json.specs.JsonFaults.{IsJsonCause}
use Rattle.report_json.specs.declared.faults.JsonFault.{JsonFault}
use Rattle.report_json.specs.declared.faults.JsonFault.TheVariants.{NotJson, NotReport, Memory}
use Rattle.report_json.proofs.AsciiTexts.{utf8_number, utf8_outline}
use Rattle.report_json.proofs.SameReports.{same_reports}

-- the value's text is read as the value, where it nests no deeper
pub record IsRead (depth : ℕ) (value : Data) : Type 0 where
  pub same : of_json (outline value) ≡ Some value
  pub numbers : HasNumbers (outline value)
  pub utf8 : IsUtf8 (compact_text value)
  pub shallow : tree.depth (outline value) ≤ depth

record AreRead (depth : ℕ) (values : Items) : Type 0 where
  same : of_items (items_outline values) ≡ Some values
  numbers : ItemsHaveNumbers (items_outline values)
  utf8 : (later : Bool) → IsUtf8 (items_text later values)
  shallow : tree.items_depth (items_outline values) ≤ depth

-- ---- leaves

read_number : (n : ℕ) → n < 2 ^ 64 → IsRead 0 (number_value n)
read_number n fits = record {
  same = ap (option_map number) (number_of-decimal n fits);
  numbers = IsNumber-decimal n fits;
  utf8 = utf8_number n fits;
  shallow = omega arith;
}

read_outline : (strokes : List ℕ) → IsRead 0 (outline_value strokes)
read_outline strokes = record { same = refl; numbers = tt; utf8 = IsUtf8-quoted _ (utf8_outline strokes); shallow = omega arith }

-- ---- lists

utf8_comma : (later : Bool) → IsUtf8 (comma_if later)
utf8_comma true = IsUtf8-are_ascii (44 ∷ []) refl
utf8_comma false = IsUtf8-nil

more_read : (depth : ℕ) (value : Data) (values : Items) → IsRead depth value → AreRead depth values → AreRead depth (item value values)
more_read depth value values is are = record {
  same = ap (option_and_then (λ d. option_map (item d) (of_items (items_outline values)))) is.same ∙ ap (option_map (item value)) are.same;
  numbers = (is.numbers, are.numbers);
  utf8 = λ later. IsUtf8-append (comma_if later) _ (utf8_comma later) (IsUtf8-append (compact_text value) _ is.utf8 (are.utf8 true));
  shallow = omega (arith, is.shallow, are.shallow);
}

all_read : {A : Type 0} (depth : ℕ) (Is : A → Type 0) (made : A → Data) (each : (a : A) → Is a → IsRead depth (made a)) (xs : List A) → All Is xs → AreRead depth (items_of (map made xs))
all_read depth Is made each [] are = record { same = refl; numbers = tt; utf8 = λ later. IsUtf8-are_ascii (93 ∷ []) refl; shallow = omega arith }
all_read depth Is made each (x ∷ xs) are = more_read depth (made x) (items_of (map made xs)) (each x (All-head Is x xs are)) (all_read depth Is made each xs (All-tail Is x xs are))

read_list : (depth : ℕ) (values : Items) → AreRead depth values → IsRead (depth + 1) (array values)
read_list depth values are = record {
  same = ap (option_map array) are.same;
  numbers = are.numbers;
  utf8 = IsUtf8-append (91 ∷ []) _ (IsUtf8-are_ascii (91 ∷ []) refl) (are.utf8 false);
  shallow = omega (arith, are.shallow);
}

-- ---- members

-- a member goes to the place of its name among those that were found
found_more : (name : List ℕ) (value : Data) (rest : json.Members) (found : Members) → of_json (outline value) ≡ Some value
    → of_members (json.member name (outline value) rest) found ≡ of_members rest (put name value found)
found_more name value rest found same = ap (option_and_then (λ d. of_members rest (put name d found))) same

utf8_member : (later : Bool) (name : List ℕ) (value : Data) (rest : Members) → are_ascii name ≡ true → IsUtf8 (compact_text value) → IsUtf8 (members_text true rest) → IsUtf8 (members_text later (member name value rest))
utf8_member later name value rest ascii utf8 more =
    IsUtf8-append (comma_if later) _ (utf8_comma later)
    (IsUtf8-append (quoted name) _ (IsUtf8-quoted name (IsUtf8-are_ascii name ascii))
    (IsUtf8-append (58 ∷ []) _ (IsUtf8-are_ascii (58 ∷ []) refl) (IsUtf8-append (compact_text value) _ utf8 more)))

utf8_object : (ms : Members) → IsUtf8 (members_text false ms) → IsUtf8 (compact_text (object ms))
utf8_object ms utf8 = IsUtf8-append (123 ∷ []) _ (IsUtf8-are_ascii (123 ∷ []) refl) utf8

utf8_end : IsUtf8 (members_text true no_members)
utf8_end = IsUtf8-are_ascii (125 ∷ []) refl

-- ---- a row

read_row_object : (outline place strokes words : Data) → IsRead 0 outline → IsRead 0 place → IsRead 0 strokes → IsRead 1 words → IsRead 2 (row_object outline place strokes words)
read_row_object a b c d is_a is_b is_c is_d =
    let last : Members = member (codes "words") d no_members in
    let third : Members = member (codes "strokes") c last in
    let second : Members = member (codes "place") b third in
    let one : Members = member (codes "outline") a no_members in
    let two : Members = member (codes "outline") a (member (codes "place") b no_members) in
    let three : Members = member (codes "outline") a (member (codes "place") b (member (codes "strokes") c no_members)) in
    record {
      same = ap (option_map object) (
          found_more (codes "outline") a (members_outline second) no_members is_a.same ∙ found_more (codes "place") b (members_outline third) one is_b.same
          ∙ found_more (codes "strokes") c (members_outline last) two is_c.same ∙ found_more (codes "words") d json.no_members three is_d.same);
      numbers = (is_a.numbers, (is_b.numbers, (is_c.numbers, (is_d.numbers, tt))));
      utf8 = utf8_object (member (codes "outline") a second) (
          utf8_member false (codes "outline") a second refl is_a.utf8 (utf8_member true (codes "place") b third refl is_b.utf8
          (utf8_member true (codes "strokes") c last refl is_c.utf8 (utf8_member true (codes "words") d no_members refl is_d.utf8 utf8_end))));
      shallow = omega (arith, is_a.shallow, is_b.shallow, is_c.shallow, is_d.shallow);
    }

read_row : (row : JsonRowView) → IsJsonRow row → IsRead 2 (row_value row)
read_row row is =
    let words = all_read 0 IsOutline outline_value (λ a is_a. read_outline a) row.words is.words in
    read_row_object (outline_value row.outline) (number_value row.place) (number_value row.strokes) (words_value row.words)
    (read_outline row.outline) (read_number row.place (omega (arith, is.place))) (read_number row.strokes (omega (arith, is.strokes))) (read_list 0 _ words)

-- ---- a report

read_report_object : (conflicts entries folded rounds skipped states strokes : Data) → IsRead 3 conflicts → IsRead 0 entries → IsRead 0 folded → IsRead 0 rounds → IsRead 0 skipped → IsRead 0 states → IsRead 0 strokes
    → IsRead 4 (report_object conflicts entries folded rounds skipped states strokes)
read_report_object a b c d e f g is_a is_b is_c is_d is_e is_f is_g =
    let last : Members = member (codes "strokes") g no_members in
    let sixth : Members = member (codes "states") f last in
    let fifth : Members = member (codes "skipped") e sixth in
    let fourth : Members = member (codes "rounds") d fifth in
    let third : Members = member (codes "folded") c fourth in
    let second : Members = member (codes "entries") b third in
    let one : Members = member (codes "conflicts") a no_members in
    let two : Members = member (codes "conflicts") a (member (codes "entries") b no_members) in
    let three : Members = member (codes "conflicts") a (member (codes "entries") b (member (codes "folded") c no_members)) in
    let four : Members = member (codes "conflicts") a (member (codes "entries") b (member (codes "folded") c (member (codes "rounds") d no_members))) in
    let five : Members = member (codes "conflicts") a (member (codes "entries") b (member (codes "folded") c (member (codes "rounds") d (member (codes "skipped") e no_members)))) in
    let six : Members =
    member (codes "conflicts") a (member (codes "entries") b (member (codes "folded") c (member (codes "rounds") d (member (codes "skipped") e (member (codes "states") f no_members))))) in
    record {
      same = ap (option_map object) (
          found_more (codes "conflicts") a (members_outline second) no_members is_a.same ∙ found_more (codes "entries") b (members_outline third) one is_b.same
          ∙ found_more (codes "folded") c (members_outline fourth) two is_c.same ∙ found_more (codes "rounds") d (members_outline fifth) three is_d.same
          ∙ found_more (codes "skipped") e (members_outline sixth) four is_e.same ∙ found_more (codes "states") f (members_outline last) five is_f.same
          ∙ found_more (codes "strokes") g json.no_members six is_g.same);
      numbers = (is_a.numbers, (is_b.numbers, (is_c.numbers, (is_d.numbers, (is_e.numbers, (is_f.numbers, (is_g.numbers, tt)))))));
      utf8 = utf8_object (member (codes "conflicts") a second) (
          utf8_member false (codes "conflicts") a second refl is_a.utf8 (utf8_member true (codes "entries") b third refl is_b.utf8
          (utf8_member true (codes "folded") c fourth refl is_c.utf8 (utf8_member true (codes "rounds") d fifth refl is_d.utf8
          (utf8_member true (codes "skipped") e sixth refl is_e.utf8 (utf8_member true (codes "states") f last refl is_f.utf8
          (utf8_member true (codes "strokes") g no_members refl is_g.utf8 utf8_end)))))));
      shallow = omega (arith, is_a.shallow, is_b.shallow, is_c.shallow, is_d.shallow, is_e.shallow, is_f.shallow, is_g.shallow);
    }

pub read_report : (report : JsonReportView) → IsJsonReport report → IsRead 4 (report_value report)
read_report report is =
    let rows = all_read 2 IsJsonRow row_value read_row report.rows is.rows in
    read_report_object (rows_value report.rows) (number_value report.entries) (number_value report.folded) (number_value report.rounds) (number_value report.skipped) (number_value report.states) (number_value report.strokes)
    (read_list 2 _ rows) (read_number report.entries (omega (arith, is.entries))) (read_number report.folded is.folded) (read_number report.rounds (omega (arith, is.rounds))) (read_number report.skipped is.skipped)
    (read_number report.states (omega (arith, is.states))) (read_number report.strokes (omega (arith, is.strokes)))

-- ---- the text

-- a text whose tokens are those of a value is read as the value
pub read_tokens : (depth : ℕ) (value : Data) (text : List ℕ) → IsRead depth value → depth ≤ max_depth → tokens text ≡ json_tokens (outline value) → read text ≡ Some value
read_tokens depth value text is fits are =
    let tree = outline value in
    ap (λ ts. option_and_then of_json (option_and_then (λ p. json.if_last p.0 p.1) (json.value max_depth ts))) (are ∙ sym (append-nil (json_tokens tree)))
    ∙ ap (λ r. option_and_then of_json (option_and_then (λ p. json.if_last p.0 p.1) r)) (value-json_tokens tree max_depth [] (omega (arith, is.shallow, fits)))
    ∙ is.same

-- a text is read as the value that it was printed for
read_printed : (depth : ℕ) (value : Data) → IsRead depth value → depth ≤ max_depth → read (compact_text value) ≡ Some value
read_printed depth value is fits =
    let tree = outline value in
    read_tokens depth value (compact_text value) is fits (ap tokens (sym (print-outline value)) ∙ tokens-print (json_tokens tree) (ArePrintable-json_tokens tree is.numbers))

-- the text of a report is read as its value
pub reads_back : (report : JsonReportView) → IsJsonReport report → reading (json_text report) ≡ Some (report_value report)
reads_back report is =
    let read = read_report report is in
    reading-of_text (json_text report) (report_value report) read.utf8 (read_printed 4 (report_value report) read (omega arith))

some_same : (a b : Data) → Some a ≡ Some b → a ≡ b
some_same a b e = cc

-- what is read of the text of a report is the report
pub same_back : (report back : JsonReportView) → IsJsonReport report → IsJsonReport back → reading (json_text report) ≡ Some (report_value back) → back ≡ report
same_back report back is is_back e = same_reports back report is_back is (some_same (report_value back) (report_value report) (sym e ∙ reads_back report is))

-- the text of a report is refused for want of memory alone
pub only_memory : (report : JsonReportView) (fault : JsonFault) → IsJsonReport report → IsJsonCause (reading (json_text report)) fault → fault ≡ Memory
only_memory report NotJson is h = absurd (apart (report_value report) (sym h ∙ reads_back report is))
  where
    apart : (value : Data) → None ≡ Some value → ⊥
    apart value e = cc
only_memory report NotReport is h =
    absurd (h.other (record { report = report; is_report = is; is = some_same h.there (report_value report) (sym h.is ∙ reads_back report is) }))
only_memory report Memory is h = refl
