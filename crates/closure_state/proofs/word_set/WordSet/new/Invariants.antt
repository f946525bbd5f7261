use Rattle.std.proofs.Common.{◌-◌}
use Rattle.steno_rules.specs.Outlines.{flagged_entries}
use Rattle.closure_state.proofs.FlagLemmas.{AreFlagsFrom}
use Rattle.closure_state.proofs.word_set.WordSet.new.Given as goal

abbrev pub invariant-loop-done : goal.invariant-loop-done
invariant-loop-done l = AreFlagsFrom l.trie (flagged_entries l.trie l.words) (l.count - l.done) l.flags.items
