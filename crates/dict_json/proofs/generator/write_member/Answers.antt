use Rattle.std.proofs.Common.{◌++◌, ◌∙◌, ap, arith, string_bytes}
use Rattle.dict_json.proofs.PlainTexts.{member_plain}
use Rattle.dict_json.proofs.WalkLemmas.{on_ok}
use Rattle.dict_json.proofs.generator.write_member.Goals as goal

pub returns : goal.returns
returns c = on_ok c.write.result _ _ c.write.ensures.bytes (λ is. is ∙ ap (λ l. string_bytes c.args.members.now ++ l) (member_plain c.args.key.now c.args.number c.requires (omega (arith, c.ranges.number.fits))))
