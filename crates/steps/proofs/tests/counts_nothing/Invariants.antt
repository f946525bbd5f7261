use Rattle.steps.proofs.tests.counts_nothing.Given as goal

abbrev pub ghosts-walk_from : goal.ghosts-walk_from
ghosts-walk_from a = record { name = a.blank.name; parts = a.blank.parts }
