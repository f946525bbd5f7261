use Rattle.edge_pool.specs.inside.Runs.{IsCleared}
use Rattle.edge_pool.proofs.cells.clear.Given as goal

abbrev pub invariant-loop-place : goal.invariant-loop-place
invariant-loop-place l = IsCleared l.fn.cells l.cells l.from l.place
