-- The room that the rows need. A row of no cells has no block.
--     rows_in counts              how many rows have cells, where counts are the cells of each
--     rows_of_class counts class  how many of them are of a class
--     weight kinds n              the cells of so many blocks of each of the first n classes
--     HasRoom ..                  a pool has a free block for each row, and the columns have places for all of them
--     IsReserved ..               the blocks of the first classes are free, and no others
--     spare_after pool len        the free blocks of each class after a row was made
use Rattle.std.specs.Prelude.{ℕ, zero, suc, ◌≡◌, ◌+◌, ◌-◌, ◌*◌, ◌<◌, ◌≤◌, nat_eq, List, length, get_or, if◌then◌else◌}
use Rattle.std.specs.List.{sum_by}
use Rattle.edge_pool.specs.Classes.{class_of, size_of, class_count}
use Rattle.edge_pool.specs.Pools.{Pool, spare_of, with_spare}

abbrev pub has_cells : ℕ → ℕ
has_cells len = if nat_eq len 0 then 0 else 1

abbrev pub has_class : ℕ → ℕ → ℕ
has_class class len = if nat_eq len 0 then 0 else (if nat_eq (class_of len) class then 1 else 0)

abbrev pub rows_in : List ℕ → ℕ
rows_in counts = sum_by has_cells counts

abbrev pub rows_of_class : List ℕ → ℕ → ℕ
rows_of_class counts class = sum_by (has_class class) counts

unfoldable pub weight : List ℕ → ℕ → ℕ
weight kinds zero = 0
weight kinds (suc n) = weight kinds n + size_of n * get_or kinds n 0

pub record HasRoom (counts : List ℕ) (pool : Pool) (block_places index_places : ℕ) : Type 0 where
  pub long : length pool.spare ≡ class_count
  pub spare : (class : ℕ) → class < class_count → rows_of_class counts class ≤ get_or pool.spare class 0
  pub blocks : rows_in counts ≤ block_places
  pub indexes : length counts ≤ index_places

pub record IsReserved (kinds spare : List ℕ) (classes : ℕ) : Type 0 where
  pub long : length spare ≡ class_count
  pub done : (class : ℕ) → class < classes → get_or spare class 0 ≡ get_or kinds class 0
  pub todo : (class : ℕ) → classes ≤ class → class < class_count → get_or spare class 0 ≡ 0

abbrev pub spare_after : Pool → ℕ → List ℕ
spare_after pool len = if nat_eq len 0 then pool.spare else (with_spare pool len (spare_of pool len - 1))
