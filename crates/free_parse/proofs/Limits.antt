-- The limit of the forks' numbers, from that of the states.
use Rattle.std.proofs.Common.{ℕ, ◌<◌, ◌≤◌, List, length, arith, inl, inr}
use Rattle.graph_rules.specs.Graphs.{AreSettled, most_numbers, word_half}
use Rattle.steno_rules.specs.StateNumbers.{number_count}
use Rattle.reading_laws.specs.ForkNumbers.{fork_count, fork_lists}
use Rattle.reading_laws.proofs.FewForks.{few_forks}
use Rattle.reading_laws.proofs.ForkNumberLemmas.{length-fork_lists}

-- Where the states can be numbered, the forks can.
pub forks_fit : (entries : List (List ℕ)) → number_count entries ≤ most_numbers → fork_count entries ≤ most_numbers
forks_fit entries few = elim (few_forks entries) [
  | inl two ↦ omega (arith, two)
  | inr less ↦ omega (arith, few, less)
]

-- And then a search of them leaves few words.
pub few_fork_words : (entries words : List (List ℕ)) (table : List ℕ) → number_count entries ≤ most_numbers → AreSettled 0 (fork_lists entries words) table → length table < word_half
few_fork_words entries words table few settled = omega (arith, forks_fit entries few, settled.count, length-fork_lists entries words)
