use Rattle.dict_stack.specs.inside.Candidates.{IsMerged}
use Rattle.dict_stack.proofs.columns.standing.Given as goal

abbrev pub invariant-loop-candidate : goal.invariant-loop-candidate
invariant-loop-candidate l = IsMerged l.yielded l.columns
