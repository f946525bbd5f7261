use Rattle.std.proofs.Common.{ap, sym, subst, ◌∙◌, arith}
use Rattle.steno_rules.specs.Outlines.{AreWords}
use Rattle.steno_rules.specs.StateNumbers.{number_count}
use Rattle.state_numbering.specs.Numberings.{NumberingView}
use Rattle.state_numbering.proofs.DecodeLemmas.{found_candidate, past_count}
use Rattle.state_numbering.proofs.HitLemmas.{none_hits, unmarked_hits_not, word_hits_not}
use Rattle.state_numbering.proofs.numbering.Numbering.may_hit.Goals as goal

pub returns-then-number-count : goal.returns-then-number-count
returns-then-number-count c = λ refused.
    let parts_are = c.self.invariant.parts_are ∙ ap (λ (v : NumberingView). v.entries) c.self.view_is in
    let are = subst (λ (v : NumberingView). AreWords v.entries v.words) c.self.view_is c.self.invariant.words_are.are_words in
    none_hits c.args.self.now c.args.number
    (past_count c.args.self.now.entries c.args.self.now.words c.args.number are (omega (arith, c.count.ensures.count, c.if-number-count.true, ap number_count parts_are)))

pub returns-then-lengths-eq0 : goal.returns-then-lengths-eq0
returns-then-lengths-eq0 c = λ refused.
    let E = c.args.self.now.entries in
    let parts_are = c.self.invariant.parts_are ∙ ap (λ (v : NumberingView). v.entries) c.self.view_is in
    let are = subst (λ (v : NumberingView). AreWords v.entries v.words) c.self.view_is c.self.invariant.words_are.are_words in
    let found = found_candidate _ E c.args.number c.node_of.result c.part-part.result c.lengths_at-lengths.result parts_are c.node_of.ensures c.part-part.ensures c.lengths_at-lengths.ensures in
    unmarked_hits_not c.args.self.now c.args.number c.node_of.result c.lengths_at-lengths.result are found.0 (sym c.is_some.ensures ∙ refused)

pub returns-else-lengths-eq0 : goal.returns-else-lengths-eq0
returns-else-lengths-eq0 c = λ refused.
    let E = c.args.self.now.entries in
    let parts_are = c.self.invariant.parts_are ∙ ap (λ (v : NumberingView). v.entries) c.self.view_is in
    let are = subst (λ (v : NumberingView). AreWords v.entries v.words) c.self.view_is c.self.invariant.words_are.are_words in
    let found = found_candidate _ E c.args.number c.node_of.result c.part-part.result c.lengths_at-lengths.result parts_are c.node_of.ensures c.part-part.ensures c.lengths_at-lengths.ensures in
    word_hits_not c.args.self.now c.args.number c.node_of.result c.lengths_at-lengths.result are found.0 found.1 c.if-lengths-eq0.false
