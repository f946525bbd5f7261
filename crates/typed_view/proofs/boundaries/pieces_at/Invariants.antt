use Rattle.std.proofs.Common.{ℕ, ◌≡◌, ◌+◌, ◌≤◌, drop}
use Rattle.typed_view.specs.Covers.{cover_at}
use Rattle.typed_view.proofs.boundaries.pieces_at.Given as goal

-- the boundary lies before none of the pieces that were passed
abbrev pub invariant-loop-i : goal.invariant-loop-i
invariant-loop-i l = record {
  later : (k : ℕ) → cover_at (drop l.i l.pieces) (l.left + k) ≡ cover_at l.pieces (l.at + k);
  less : l.left ≤ l.at;
}
