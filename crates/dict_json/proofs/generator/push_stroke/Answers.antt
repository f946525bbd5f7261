use Rattle.std.proofs.Common.{[], ◌≡◌, ◌++◌, ◌∙◌, ap, ap₂, ◌%◌, ◌/◌, slice_index_or, string_bytes}
use Rattle.dict_json.specs.Generated.{left_texts, vowel_texts, right_texts}
use Rattle.dict_json.proofs.DrawLemmas.{pushed}
use Rattle.dict_json.proofs.generator.push_stroke.Goals as goal

pub returns : goal.returns
returns c =
    let left : c.text_at.result.now ≡ slice_index_or left_texts (c.args.number % 16) [] = c.text_at.ensures in
    let vowels : c.text_at-2.result.now ≡ slice_index_or vowel_texts (c.args.number / 16 % 8) [] = c.text_at-2.ensures in
    let right : c.text_at-3.result.now ≡ slice_index_or right_texts (c.args.number / 128) [] = c.text_at-3.ensures in
    let first = c.in_ok-push_str.ensures.bytes ∙ ap (λ l. string_bytes c.args.key.now ++ l) left in
    let second = c.in_ok-push_str-2.ensures.bytes ∙ ap₂ (λ k l. k ++ l) first vowels in
    c.in_ok-push_str-3.ensures.bytes ∙ ap₂ (λ k l. k ++ l) second right ∙ pushed (string_bytes c.args.key.now) (slice_index_or left_texts (c.args.number % 16) []) (slice_index_or vowel_texts (c.args.number / 16 % 8) []) (slice_index_or right_texts (c.args.number / 128) [])
