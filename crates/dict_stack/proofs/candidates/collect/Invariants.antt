use Rattle.dict_stack.specs.inside.Candidates.{IsCollected}
use Rattle.dict_stack.proofs.candidates.collect.Given as goal

abbrev pub invariant-loop-dictionary : goal.invariant-loop-dictionary
invariant-loop-dictionary l = IsCollected l.yielded l.word_files l.collected
