use Rattle.round_core.proofs.OneSearch.{search_once}
use Rattle.round_core.proofs.one_search.Goals as goal

pub returns : goal.returns
returns c = search_once
