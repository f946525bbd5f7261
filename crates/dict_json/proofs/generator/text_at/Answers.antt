use Rattle.dict_json.proofs.DrawLemmas.{text_at}
use Rattle.dict_json.proofs.generator.text_at.Goals as goal

pub returns : goal.returns
returns c = text_at c.args.texts.now c.args.place _ c.requires
