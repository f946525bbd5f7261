use Rattle.outline_trie.proofs.tests.counted_child.Given as goal

abbrev pub ghosts-step : goal.ghosts-step
ghosts-step a = record { name = a.blank.name; parts = a.blank.parts }
