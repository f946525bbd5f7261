-- What the faults of lower crates are here.
use Rattle.outline_trie.specs.declared.trie.TrieFault.{TrieFault}
use Rattle.outline_trie.specs.declared.trie.TrieFault.TheVariants as trie
use Rattle.state_numbering.specs.declared.fault.NumberFault.{NumberFault}
use Rattle.state_numbering.specs.declared.fault.NumberFault.TheVariants as numbers
use Rattle.brief_trial.specs.declared.faults.TrialFault.{TrialFault}
use Rattle.brief_trial.specs.declared.faults.TrialFault.TheVariants.{Nodes, States, Memory}

abbrev pub fault_of_trie : TrieFault → TrialFault
fault_of_trie (trie.TooManyNodes count) = Nodes count
fault_of_trie trie.Memory = Memory

abbrev pub fault_of_numbers : NumberFault → TrialFault
fault_of_numbers (numbers.TooManyStates count) = States count
fault_of_numbers numbers.Memory = Memory
