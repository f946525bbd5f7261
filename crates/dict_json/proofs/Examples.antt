-- The worked examples of dictionaries and of the generator, computed by the definitions.
use Rattle.std.proofs.Common.{◌≡◌, refl}
use Rattle.std.specs.Prelude.{◌+◌, ◌^◌, [], ◌∷◌, codes}
use Rattle.std.specs.Fmt.{digits}
use Rattle.serde_json.proofs.OnLiterals.{serde_json_on_literals}
use Rattle.std.specs.Str.{is_utf8, chars}
use Rattle.dict_json.specs.Reading.{reading}
use Rattle.dict_json.specs.Outcomes.{dictionary_outcome, not_json, not_object, not_text, dictionary}
use Rattle.dict_json.specs.Generated.{generated_text, drawn, first_draw}

draw_1 : drawn 8 ≡ 134456
draw_1 = refl

draw_2 : drawn 134456 ≡ 112318345
draw_2 = refl

entry_2 : first_draw 7 1 ≡ 562936852
entry_2 = refl

generated_0 : generated_text 7 0 ≡ codes "{}\n"
generated_0 = refl

generated_2 : generated_text 7 2 ≡ codes "{\n\"TPAFRPB/SKWRAOBG/KAER\": \"w0\",\n\"SAOPL/AOBG\": \"w1\"\n}\n"
unfolding digits
generated_2 = refl

folds : dictionary_outcome (codes "{\"-S\": \"a\", \"S-S\": \"b\", \"STS\": \"c\", \"ST-S\": \"d\"}")
    ≡ dictionary (record { entries = record { outline = (2 ^ 20) ∷ []; text = codes "a" } ∷ record { outline = (2 + 2 ^ 20) ∷ []; text = codes "b" } ∷ record { outline = (2 + 4 + 2 ^ 20) ∷ []; text = codes "c" } ∷ []; skipped = []; folded = 1 })
unfolding reading serde_json_on_literals is_utf8 chars
folds = refl

skips : dictionary_outcome (codes "{\"TEL\": \"tell\", \"UE\": \"\", \"\": \"x\"}") ≡ dictionary (record { entries = record { outline = (4 + 2 ^ 11 + 2 ^ 17) ∷ []; text = codes "tell" } ∷ []; skipped = [] ∷ codes "UE" ∷ []; folded = 0 })
unfolding reading serde_json_on_literals is_utf8 chars
skips = refl

reads_number : dictionary_outcome (codes "{\"TEL\": 1, \"KAT\": 2}") ≡ not_text (codes "KAT")
unfolding reading serde_json_on_literals is_utf8 chars
reads_number = refl

reads_list : dictionary_outcome (codes "[]") ≡ not_object
unfolding reading serde_json_on_literals is_utf8 chars
reads_list = refl

reads_unended : dictionary_outcome (codes "{\"KAT\": \"cat\"") ≡ not_json
unfolding reading serde_json_on_literals is_utf8 chars
reads_unended = refl

reads_nothing : dictionary_outcome [] ≡ not_json
unfolding reading serde_json_on_literals is_utf8 chars
reads_nothing = refl

reads_more : dictionary_outcome (codes "{\"KAT\": \"cat\"} x") ≡ not_json
unfolding reading serde_json_on_literals is_utf8 chars
reads_more = refl

reads_no_text : dictionary_outcome (255 ∷ []) ≡ not_json
unfolding reading serde_json_on_literals is_utf8 chars
reads_no_text = refl
