use Rattle.std.specs.Prelude.{string_bytes}
use Rattle.report.proofs.TextIndexes.{IsTextsSoFar}
use Rattle.report.proofs.indexes.texts_of.Given as goal

abbrev pub invariant-loop-outline : goal.invariant-loop-outline
invariant-loop-outline l = IsTextsSoFar l.outlines l.outline-index (string_bytes l.text) l.ends.items
