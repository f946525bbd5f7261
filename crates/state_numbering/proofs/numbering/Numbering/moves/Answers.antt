use Rattle.std.proofs.Common.{ap, arith, length}
use Rattle.std.proofs.lemmas.List.{length-map}
use Rattle.steno_rules.specs.StateNumbers.{state_number}
use Rattle.steno_rules.specs.WordSets.{words_in}
use Rattle.closure_state.specs.NodeStates.{state_at}
use Rattle.state_numbering.proofs.FewTargets.{few_kept}
use Rattle.state_numbering.proofs.PartLemmas.{nodes_within}
use Rattle.state_numbering.proofs.numbering.Numbering.moves.Goals as goal

pub returns-in-Some-clause-few : goal.returns-in-Some-clause-few
returns-in-Some-clause-few c =
    let E = c.self.inside.trie.now in
    let few = few_kept E (words_in E c.self.inside.words.now) (state_at E c.in-Some.state) c.self.invariant.words_are.are_words in
    omega (arith, length-map c.kept.result.left (state_number c.args.self.now.entries), ap length c.kept.ensures.targets, few, nodes_within E, c.self.invariant.within)
