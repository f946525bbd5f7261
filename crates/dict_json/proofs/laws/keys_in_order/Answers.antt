use Rattle.dict_json.proofs.ReadingLemmas.{names_in_order}
use Rattle.dict_json.proofs.laws.keys_in_order.Goals as goal

pub returns : goal.returns
returns c = names_in_order
