use Rattle.std.proofs.Common.{ℕ, ◌≡◌, ◌+◌, ◌≤◌, ◌++◌, drop, take, map}
use Rattle.std.specs.Prelude.{sum}
use Rattle.typed_view.specs.Covers.{cover_at, covers_of, ends_behind}
use Rattle.typed_view.proofs.boundaries.covers.Given as goal

-- the boundaries so far are covered, and the rest of the pieces serves for those that are left
abbrev pub invariant-loop-part : goal.invariant-loop-part
invariant-loop-part l = record {
  made : l.covers.items ++ map (cover_at l.pieces) (ends_behind (sum (take l.part-index l.firsts)) (drop l.part-index l.firsts)) ≡ covers_of l.parts l.pieces;
  later : (k : ℕ) → cover_at l.rest (l.at + k) ≡ cover_at l.pieces (sum (take l.part-index l.firsts) + k);
  less : l.at ≤ sum (take l.part-index l.firsts);
}
