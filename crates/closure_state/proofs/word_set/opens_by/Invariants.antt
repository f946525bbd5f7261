use Rattle.std.proofs.Common.{ℕ, take, Contains}
use Rattle.closure_state.specs.inside.NodeFlags.{GoesOn, flags_at}
use Rattle.closure_state.proofs.word_set.opens_by.Given as goal

abbrev pub invariant-loop-pair : goal.invariant-loop-pair
invariant-loop-pair l = (pair : ℕ × ℕ) → Contains (take l.pair-index l.row) pair → GoesOn (flags_at l.flags pair.1) → ⊥
