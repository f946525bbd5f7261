use Rattle.std.proofs.Common.{ap, sym, subst, ◌∙◌, arith}
use Rattle.steno_rules.specs.Outlines.{AreWords}
use Rattle.state_numbering.specs.Numberings.{NumberingView}
use Rattle.state_numbering.proofs.DecodeLemmas.{found_candidate, no_word_found, word_found}
use Rattle.state_numbering.proofs.numbering.Numbering.open_word.Goals as goal

pub returns-in-Some : goal.returns-in-Some
returns-in-Some c =
    let E = c.args.self.now.entries in
    let parts_are = c.self.invariant.parts_are ∙ ap (λ (v : NumberingView). v.entries) c.self.view_is in
    let are = subst (λ (v : NumberingView). AreWords v.entries v.words) c.self.view_is c.self.invariant.words_are.are_words in
    let found = found_candidate _ E c.args.number c.node_of-node.result c.part-part.result c.lengths_at-lengths.result parts_are c.node_of-node.ensures c.part-part.ensures c.lengths_at-lengths.ensures in
    word_found c.args.self.now c.args.number c.node_of-node.result c.in-Some.word c.lengths_at-lengths.result are found.0 (omega (arith, found.1)) (sym c.in-Some.is ∙ c.end_of.ensures)

pub returns-in-None : goal.returns-in-None
returns-in-None c =
    let E = c.args.self.now.entries in
    let parts_are = c.self.invariant.parts_are ∙ ap (λ (v : NumberingView). v.entries) c.self.view_is in
    let are = subst (λ (v : NumberingView). AreWords v.entries v.words) c.self.view_is c.self.invariant.words_are.are_words in
    let found = found_candidate _ E c.args.number c.node_of-node.result c.part-part.result c.lengths_at-lengths.result parts_are c.node_of-node.ensures c.part-part.ensures c.lengths_at-lengths.ensures in
    no_word_found c.args.self.now c.args.number c.node_of-node.result 0 c.lengths_at-lengths.result are found.0 (omega (arith, found.1)) (sym c.in-None.is ∙ c.end_of.ensures)
