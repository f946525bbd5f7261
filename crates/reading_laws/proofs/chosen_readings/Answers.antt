use Rattle.reading_laws.proofs.ChosenReadingLemmas.{IsFree-word, IsLeastTwo-word, chosen-shortest}
use Rattle.reading_laws.proofs.chosen_readings.Goals as goal

pub returns : goal.returns
returns c = record { free = IsFree-word; strokes = IsLeastTwo-word; shortest = chosen-shortest }
