use Rattle.steno_rules.proofs.FlaggedWords.{flagged-are, flagged-flag, flagged-all}
use Rattle.translation_laws.proofs.WordSetLemmas.{flagged-rising}
use Rattle.translation_laws.proofs.flagged_words.Goals as goal

pub returns : goal.returns
returns c = record { are = flagged-are; rising = flagged-rising; number = flagged-flag; all = flagged-all }
