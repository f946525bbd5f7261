use Rattle.steno_order.proofs.ListLaws.{canonical_text-spells, canonical_text-back, canonical_text-short}
use Rattle.steno_order.proofs.laws.canonical_lists.Goals as goal

pub returns : goal.returns
returns c = record { spells = canonical_text-spells; back = canonical_text-back; short = canonical_text-short }
