use Rattle.std.proofs.Common.{◌≡◌, ◌+◌, ◌≤◌, vec_capacity}
use Rattle.translator.proofs.AdvanceLemmas.{IsGrowing}
use Rattle.translator.proofs.ends.advance.Given as goal

abbrev pub invariant-loop-place : goal.invariant-loop-place
invariant-loop-place g l = record {
  growing : IsGrowing l.trie l.stroke l.fn.ends.items l.ends.items l.place;
  capacity : vec_capacity l.ends ≡ vec_capacity l.fn.ends;
  cost : l.steps ≤ l.fn.steps + l.place;
}
