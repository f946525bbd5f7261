use Rattle.std.proofs.Common.{◌≤◌, length}
use Rattle.report.specs.inside.Indexes.{AreShorter}
use Rattle.report.proofs.indexes.shorter_of.Given as goal

-- the entries so far are on chains
abbrev pub invariant-loop-entry : goal.invariant-loop-entry
invariant-loop-entry l = record { fits : l.entry ≤ length l.outlines; shorter : AreShorter l.outlines l.entry l.shorter.items }
