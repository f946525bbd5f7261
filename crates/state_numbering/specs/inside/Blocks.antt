-- Blocks of equally many numbers, each with the place of a part at which a scan for its numbers begins.
--     starts_at parts node               the first number of a part
--     IsLastBegun parts number node      the last part that begins at or before the number
--     AreBlockStarts parts width nodes   for each block a part that begins at or before its first number
use Rattle.std.specs.Prelude.{ℕ, List, ◌<◌, ◌≤◌, ◌+◌, ◌*◌, length, get_or, slice_index_or}
use Rattle.state_numbering.specs.declared.part.Part.{Part}

abbrev pub starts_at : List Part → ℕ → ℕ
starts_at parts node = (slice_index_or parts node (record { start = 0; depth = 0 })).start

pub record BeginsBy (parts : List Part) (number node : ℕ) : Type 0 where
  pub inside : node < length parts
  pub from : starts_at parts node ≤ number

pub record IsLastBegun (parts : List Part) (number node : ℕ) : Type 0 where
  pub begun : BeginsBy parts number node
  pub next : node + 1 < length parts → number < starts_at parts (node + 1)

abbrev pub AreBlockStarts : List Part → ℕ → List ℕ → Type 0
AreBlockStarts parts width nodes = (block : ℕ) → block < length nodes → BeginsBy parts (block * width) (get_or nodes block 0)
