use Rattle.translator.proofs.tests.pushes_answer_what_changes.Given as goal

abbrev pub ghosts-check_pushes : goal.ghosts-check_pushes
ghosts-check_pushes g a = record { name = a.blank.name; parts = a.blank.parts }
