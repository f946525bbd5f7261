-- What a refusal to make a trie says of the number of nodes.
use Rattle.std.specs.Prelude.{ℕ, ◌≡◌, ◌<◌, ◌≤◌}
use Rattle.outline_trie.specs.Tries.{most_nodes}
use Rattle.outline_trie.specs.declared.trie.TrieFault.{TrieFault}
use Rattle.outline_trie.specs.declared.trie.TrieFault.TheVariants.{TooManyNodes, Memory}

-- there are too many, and the fault says how many; or memory ran out, and there are few enough
abbrev pub IsTrieCause : ℕ → TrieFault → Type 0
IsTrieCause count (TooManyNodes told) = (told ≡ count) × (most_nodes < count)
IsTrieCause count Memory = count ≤ most_nodes
