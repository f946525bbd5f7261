use Rattle.std.proofs.Common.{length}
use Rattle.closure_laws.specs.Examples.{trail}
use Rattle.conflict_example.specs.inside.Spellings.{IsSpelling}
use Rattle.conflict_example.proofs.examples.example.Given as goal

-- the numbers that were taken from the path are spelt
abbrev pub invariant-loop-number : goal.invariant-loop-number
invariant-loop-number l = IsSpelling l.numbering.entries l.numbering.words (trail l.words l.distance l.number) l.scratch.path.items l.node l.made.items

abbrev pub decreases-loop-number : goal.decreases-loop-number
decreases-loop-number l = length l.scratch.path.items
