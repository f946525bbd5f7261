use Rattle.std.proofs.Common.{◌≡◌, ◌≤◌, map, length, take}
use Rattle.steno_rules.specs.Nodes.{in_order}
use Rattle.dict_stack.specs.inside.Candidates.{candidate_outline}
use Rattle.dict_stack.proofs.columns.live_count.Given as goal

abbrev pub invariant-loop-place : goal.invariant-loop-place
invariant-loop-place l = record {
  is : l.count ≡ length (in_order (map candidate_outline (take l.place l.candidates)));
  few : l.count ≤ l.place;
}
