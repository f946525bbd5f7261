-- Where an outline would stand among others.
--     IsMissing outlines x place     x is none of them, and would stand at this place
use Rattle.std.specs.Prelude.{ℕ, ◌≡◌, ◌<◌, ◌≤◌, List, length, None}
use Rattle.std.specs.declared.cmp.Ordering.TheVariants.{Less, Greater}
use Rattle.steno_rules.specs.Outlines.{entry_number, outline_cmp, outline_of}

pub record IsMissing (outlines : List (List ℕ)) (x : List ℕ) (place : ℕ) : Type 0 where
  pub apart : entry_number outlines x ≡ None
  pub within : place ≤ length outlines
  pub before : (k : ℕ) → k < place → outline_cmp (outline_of outlines k) x ≡ Less
  pub behind : (k : ℕ) → place ≤ k → k < length outlines
      → outline_cmp (outline_of outlines k) x ≡ Greater
