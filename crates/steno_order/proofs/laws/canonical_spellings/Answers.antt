use Rattle.steno_order.proofs.Canonicals.{canonical-Spelling, read_canonical, canonical-unique}
use Rattle.steno_order.proofs.laws.canonical_spellings.Goals as goal

pub returns : goal.returns
returns c = record { spells = λ code h. canonical-Spelling code h.0 h.1; back = λ code h. read_canonical code h.0 h.1; differ = λ a b ha hb. canonical-unique a b ha.0 ha.1 hb.0 hb.1 }
