-- Cells after a run of them was cleared.
use Rattle.std.specs.Prelude.{ℕ, ◌≡◌, ◌<◌, ◌≤◌, List, length, get_or}

pub record IsCleared (old new : List (ℕ × ℕ)) (from to : ℕ) : Type 0 where
  pub length : length new ≡ length old
  pub cleared : (k : ℕ) → from ≤ k → k < to → get_or new k (0, 0) ≡ (0, 0)
  pub before : (k : ℕ) → k < from → get_or new k (0, 0) ≡ get_or old k (0, 0)
  pub behind : (k : ℕ) → to ≤ k → get_or new k (0, 0) ≡ get_or old k (0, 0)
