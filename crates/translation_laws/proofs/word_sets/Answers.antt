use Rattle.translation_laws.proofs.WordSetLemmas.{word_set-of, word_set-flag, word_set-open}
use Rattle.translation_laws.proofs.word_sets.Goals as goal

pub returns : goal.returns
returns c = record { of = word_set-of; word = word_set-flag; open_word = word_set-open }
