-- The rows of children, as they lie in a pool.
--     row_at pool blocks index            the pairs of a row, by the index of its block
--     rows_at pool blocks indexes         the rows of all nodes
--     AreRows pool blocks indexes         what the pool, the blocks and the indexes have in common
use Rattle.std.specs.Prelude.{ℕ, ◌≡◌, ◌<◌, ◌≤◌, [], nat_eq, length, get_or, map, List, if◌then◌else◌}
use Rattle.edge_pool.specs.Pools.{Extent, Pool, ListsBlock, pairs_of}
use Rattle.outline_trie.specs.Tries.{most_nodes}
use Rattle.outline_trie.specs.inside.Tables.{none_number}

-- what an index past the end reads, which no row has
abbrev pub no_block : Extent
no_block = record { place = 0; len = 0 }

abbrev pub row_at : Pool → List Extent → ℕ → List (ℕ × ℕ)
row_at pool blocks index = if nat_eq index none_number then [] else (pairs_of pool (get_or blocks index no_block))

abbrev pub rows_at : Pool → List Extent → List ℕ → List (List (ℕ × ℕ))
rows_at pool blocks indexes = map (row_at pool blocks) indexes

pub record AreRows (pool : Pool) (blocks : List Extent) (indexes : List ℕ) : Type 0 where
  pub few : length indexes ≤ most_nodes
  pub fewer : length blocks ≤ length indexes
  pub known : (node : ℕ) → node < length indexes → (get_or indexes node 0 ≡ none_number → ⊥) → get_or indexes node 0 < length blocks
  pub once : (m n : ℕ) → m < length indexes → n < length indexes → (get_or indexes m 0 ≡ none_number → ⊥) → get_or indexes m 0 ≡ get_or indexes n 0 → m ≡ n
  pub listed : (index : ℕ) → index < length blocks → ListsBlock pool (get_or blocks index no_block)
  pub apart : (i j : ℕ) → i < j → j < length blocks → (get_or blocks i no_block).place ≡ (get_or blocks j no_block).place → ⊥
