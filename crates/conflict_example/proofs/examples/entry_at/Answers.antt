use Rattle.std.proofs.Common.{sym, ◌∙◌}
use Rattle.conflict_example.proofs.Spellings.{node_entry, none_entry}
use Rattle.conflict_example.proofs.examples.entry_at.Goals as goal

pub returns-in-Some : goal.returns-in-Some
returns-in-Some c = λ word is. c.entry.ensures ∙ node_entry c.args.numbering.now.entries c.in-Some.node word (sym c.in-Some.is ∙ is)

pub returns-in-None : goal.returns-in-None
returns-in-None c = λ word is. none_entry c.args.numbering.now.entries word (sym c.in-None.is ∙ is)
