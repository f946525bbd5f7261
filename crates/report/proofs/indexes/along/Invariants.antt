use Rattle.std.proofs.Common.{ℕ, suc, ◌<◌, ◌≤◌, length, Option, Some, None, IfSome}
use Rattle.report.specs.inside.Indexes.{IsBegunFrom}
use Rattle.report.proofs.indexes.along.Given as goal

-- all entries that begin the strokes still stand on the chain
abbrev pub invariant-loop-at : goal.invariant-loop-at
invariant-loop-at l = record {
  inside : IfSome l.at (λ e. e < length l.shorter);
  begun : (count : ℕ) → count ≤ length l.outlines → IsBegunFrom l.outlines count l.strokes l.fn.from → IsBegunFrom l.outlines count l.strokes l.at;
}

-- the chain falls
abbrev pub falls : Option ℕ → ℕ
falls None = 0
falls (Some e) = suc e

abbrev pub decreases-loop-at : goal.decreases-loop-at
decreases-loop-at l = falls l.at
