use Rattle.std.proofs.Common.{Some, ap, ◌∙◌}
use Rattle.serde_json.specs.View.{view, members_view}
use Rattle.serde_json.proofs.Views.{view-Object}
use Rattle.dict_json.proofs.ReadingLemmas.{short_names}
use Rattle.dict_json.proofs.reading.keys_of_value.Goals as goal

pub walk-requires : goal.walk-requires
walk-requires c = short_names c.args.bytes.now (members_view c.in-Object.map.entries) c.requires (c.in_ok-map.ensures.ok ∙ ap Some (ap view c.in-Object.is ∙ view-Object c.in-Object.map))
