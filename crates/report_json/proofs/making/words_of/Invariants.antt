use Rattle.std.proofs.Common.{◌≡◌, take}
use Rattle.steno_rules.specs.Conflicts.{outlines_of}
use Rattle.report_json.proofs.making.words_of.Given as goal

abbrev pub invariant-loop-word : goal.invariant-loop-word
invariant-loop-word l = l.copies.items ≡ outlines_of l.outlines (take l.word-index l.words)
