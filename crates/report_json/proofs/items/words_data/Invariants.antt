use Rattle.std.proofs.Common.{◌≡◌, map, take}
use Rattle.serde_json.specs.View.{view}
use Rattle.report_json.specs.JsonReports.{outline_value}
use Rattle.report_json.proofs.items.words_data.Given as goal

abbrev pub invariant-loop-word : goal.invariant-loop-word
invariant-loop-word l = map view l.texts.items ≡ map outline_value (take l.word-index l.words)
