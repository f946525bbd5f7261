-- What is expected of the commands that translate, and of `generate`.
--     IsReplay outline stack result        the replay of an outline
--     IsExplained outlines stack result    the replay of outlines that are written one after another, and their boundaries
--     IsGenerated start count result       the generated dictionary
use Rattle.std.specs.Prelude.{ℕ, ◌≡◌, List, [], ◌++◌, length, map, unwrap_or}
use Rattle.std.specs.List.{concat}
use Rattle.steno_order.specs.Reading.{spelt_strokes}
use Rattle.stroke.specs.Pieces.{pieces}
use Rattle.dict_json.specs.Generated.{generated_text}
use Rattle.dict_stack.specs.Stacks.{StackView}
use Rattle.report.specs.Replays.{replay_text}
use Rattle.typed_view.specs.Covers.{covers_of}
use Rattle.typed_view.specs.CoverLines.{covers_text}
use Rattle.audit_top.specs.Outcomes.{Expected, prints}
use Rattle.audit_top.specs.declared.status.Status.TheVariants.{Clean}

-- the strokes of a readable outline
abbrev pub typed_strokes : List ℕ → List ℕ
typed_strokes outline = unwrap_or (spelt_strokes outline) []

abbrev pub IsReplay : List ℕ → StackView → Expected → Type 0
IsReplay outline stack result =
    result ≡ prints Clean (replay_text stack (typed_strokes outline))

-- the strokes of outlines, and how many each has
abbrev pub all_typed : List (List ℕ) → List ℕ
all_typed outlines = concat (map typed_strokes outlines)

abbrev pub typed_parts : List (List ℕ) → List ℕ
typed_parts outlines = map (λ outline. length (typed_strokes outline)) outlines

-- the replay of strokes that are typed in parts of these lengths, and then a line for each boundary between two parts
abbrev pub typed_text : StackView → List ℕ → List ℕ → List ℕ
typed_text stack strokes parts =
    replay_text stack strokes
    ++ covers_text stack.outlines (covers_of parts (pieces stack.outlines strokes))

abbrev pub IsTypedText : List ℕ → List ℕ → StackView → Expected → Type 0
IsTypedText strokes parts stack result = result ≡ prints Clean (typed_text stack strokes parts)

abbrev pub IsExplained : List (List ℕ) → StackView → Expected → Type 0
IsExplained outlines stack result =
    IsTypedText (all_typed outlines) (typed_parts outlines) stack result

abbrev pub IsGenerated : ℕ → ℕ → Expected → Type 0
IsGenerated start count result = result ≡ prints Clean (generated_text start count)
