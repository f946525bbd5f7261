use Rattle.std.proofs.Common.{◌≡◌, ◌++◌, take}
use Rattle.brief_trial.proofs.stacks.push_copies.Given as goal

-- the outlines so far were added
abbrev pub invariant-loop-outline : goal.invariant-loop-outline
invariant-loop-outline l = l.all.items ≡ l.fn.all.items ++ take l.outline-index l.outlines
