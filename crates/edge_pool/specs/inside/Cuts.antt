-- What the fields of a pool stand for. The history tells of each block that was cut when it became live or free, the newest first.
--     block_at cuts place     the class and the length of the block at a place, as last told; the length of a free block is 0
--     contents cells cuts     the live blocks with their pairs, read from the cells
--     IsChain ..              the free blocks of a class, each of which holds the place of the next
--     AreSound ..             what the fields have in common
use Rattle.std.specs.Prelude.{ℕ, zero, suc, ◌≡◌, ◌≢◌, ◌+◌, ◌<◌, ◌≤◌, nat_eq, List, [], ◌∷◌, length, take, drop, get_or, sum, Option, Some, None, if◌then◌else◌}
use Rattle.std.specs.Ordering.{nat_cmp}
use Rattle.std.specs.FinMap as map
use Rattle.edge_pool.specs.Classes.{class_of, size_of, class_count}
use Rattle.edge_pool.specs.Pools.{most_cells}
use Rattle.edge_pool.specs.declared.cut.Cut.{Cut}

abbrev pub block_at : List Cut → ℕ → Option (ℕ × ℕ)
block_at [] place = None
block_at (c ∷ cuts) place = if nat_eq place c.place then (Some (c.class, c.len)) else (block_at cuts place)

abbrev pub contents : List (ℕ × ℕ) → List Cut → map.FinMap nat_cmp (List (ℕ × ℕ))
contents cells [] = map.empty
contents cells (c ∷ cuts) =
    if nat_eq c.len 0 then (map.remove (contents cells cuts) c.place) else (map.insert (contents cells cuts) c.place (take c.len (drop c.place cells)))

-- the place that a free block holds
abbrev pub next_free : List (ℕ × ℕ) → ℕ → ℕ
next_free cells place = (get_or cells place (0, 0)).0

-- none of the n free blocks from `at` on stands at this place
abbrev pub Avoids : List (ℕ × ℕ) → ℕ → ℕ → ℕ → Type 0
Avoids cells place at zero = Unit {0}
Avoids cells place at (suc n) = (at ≢ place) × Avoids cells place (next_free cells at) n

-- n different free blocks of a class, the first of which is `at`
abbrev pub IsChain : List (ℕ × ℕ) → List Cut → ℕ → ℕ → ℕ → Type 0
IsChain cells cuts class at zero = Unit {0}
IsChain cells cuts class at (suc n) = (block_at cuts at ≡ Some (class, 0)) × Avoids cells at (next_free cells at) n × IsChain cells cuts class (next_free cells at) n

-- a block lies in the cut cells, and has the class of its length
pub record IsBlock (cut place class len : ℕ) : Type 0 where
  pub known : class < class_count
  pub within : place + size_of class ≤ cut
  pub fits : len ≤ size_of class
  pub classed : 0 < len → class_of len ≡ class

pub record AreSound (cells : List (ℕ × ℕ)) (heads spare : List ℕ) (cut : ℕ) (cuts : List Cut) : Type 0 where
  pub few : length cells ≤ most_cells
  pub within : cut ≤ length cells
  pub classes : (length heads ≡ class_count) × (length spare ≡ class_count)
  pub blocks : (place class len : ℕ) → block_at cuts place ≡ Some (class, len) → IsBlock cut place class len
  pub apart : (p q c d m n : ℕ) → block_at cuts p ≡ Some (c, m) → block_at cuts q ≡ Some (d, n) → p < q → p + size_of c ≤ q
  pub free : (class : ℕ) → class < class_count → IsChain cells cuts class (get_or heads class 0) (get_or spare class 0)
  pub counted : map.len (contents cells cuts) + sum spare ≤ cut
