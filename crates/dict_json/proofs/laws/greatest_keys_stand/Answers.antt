use Rattle.dict_json.proofs.StandingKeys.{outcome-IsOfObject}
use Rattle.dict_json.proofs.laws.greatest_keys_stand.Goals as goal

pub returns : goal.returns
returns c = outcome-IsOfObject
