use Rattle.steno_order.proofs.Spellings.{Spelling-stroke, stroke-Spelling, Spelling-unique}
use Rattle.steno_order.proofs.ListLaws.{Spelling-IsStroke}
use Rattle.steno_order.proofs.laws.spellings.Goals as goal

pub returns : goal.returns
returns c = record { read = λ text code. (Spelling-stroke text code, stroke-Spelling text code); one = Spelling-unique; stroke = Spelling-IsStroke }
