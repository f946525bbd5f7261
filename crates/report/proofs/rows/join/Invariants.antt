use Rattle.std.proofs.Common.{◌≡◌, take}
use Rattle.steno_rules.specs.Conflicts.{joined_strokes}
use Rattle.report.proofs.rows.join.Given as goal

-- the strokes of the words so far
abbrev pub invariant-loop-word : goal.invariant-loop-word
invariant-loop-word l = l.strokes.items ≡ joined_strokes l.index.outlines (take l.word-index l.words)
