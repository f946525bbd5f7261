use Rattle.translator.proofs.whole.translate.Given as goal

abbrev pub ghosts-collect : goal.ghosts-collect
ghosts-collect a = record { name = a.blank.name; parts = a.blank.parts }
