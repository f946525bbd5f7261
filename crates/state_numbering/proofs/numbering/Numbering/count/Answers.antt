use Rattle.std.proofs.Common.{arith, subst}
use Rattle.steno_rules.specs.Outlines.{AreWords}
use Rattle.state_numbering.specs.Numberings.{NumberingView}
use Rattle.state_numbering.proofs.PartLemmas.{count_some}
use Rattle.state_numbering.proofs.numbering.Numbering.count.Goals as goal

pub returns-clause-some : goal.returns-clause-some
returns-clause-some c = omega (arith, c.count.ensures.count, count_some c.self.inside.parts)

pub returns-clause-words : goal.returns-clause-words
returns-clause-words c = subst (λ (v : NumberingView). AreWords v.entries v.words) c.self.view_is c.self.invariant.words_are.are_words
