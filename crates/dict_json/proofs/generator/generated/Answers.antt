use Rattle.std.proofs.Common.{◌≡◌, subst, ap, ◌∙◌}
use Rattle.std.specs.Str.{IsUtf8}
use Rattle.std.proofs.lemmas.Str.{IsUtf8-string_bytes}
use Rattle.dict_json.specs.Generated.{generated_text}
use Rattle.dict_json.specs.Outcomes.{dictionary_outcome}
use Rattle.dict_json.proofs.GeneratedReads.{generated_whole}
use Rattle.dict_json.proofs.GeneratedLengths.{generated_few}
use Rattle.dict_json.proofs.generator.generated.Goals as goal

pub returns : goal.returns
returns c =
    let text = generated_text c.args.start c.args.count in
    let bytes : c.into_bytes.result.items ≡ text = ap (λ v. v.items) c.into_bytes.ensures.value ∙ c.in_ok-object.ensures in
    let whole = generated_whole c.args.start c.args.count c.requires (subst IsUtf8 c.in_ok-object.ensures (IsUtf8-string_bytes c.in_ok-object.field-0)) in
    record {
      bytes = bytes;
      few = generated_few c.args.start c.args.count c.into_bytes.result.items c.requires bytes;
      reads = (whole.0, ap dictionary_outcome bytes ∙ whole.1, whole.2);
    }
