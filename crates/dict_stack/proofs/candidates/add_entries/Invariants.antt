use Rattle.std.proofs.Common.{◌≡◌, ◌++◌, map}
use Rattle.dict_stack.specs.inside.Candidates.{candidate}
use Rattle.dict_stack.proofs.candidates.add_entries.Given as goal

abbrev pub invariant-loop-entry : goal.invariant-loop-entry
invariant-loop-entry l = l.candidates.items ≡ l.fn.candidates.items ++ map (candidate l.place l.is_word) l.yielded
