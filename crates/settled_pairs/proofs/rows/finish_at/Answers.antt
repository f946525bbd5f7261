use Rattle.std.proofs.Common.{◌≡◌, Some, None, subst}
use Rattle.steno_rules.specs.StateNumbers.{state_of_number}
use Rattle.steno_rules.specs.WordSets.{words_in}
use Rattle.closure_state.specs.NodeStates.{state_at}
use Rattle.state_numbering.specs.Numberings.{NumberingView}
use Rattle.settled_pairs.proofs.SumLemmas.{finish_nowhere, finish_there}
use Rattle.settled_pairs.proofs.rows.finish_at.Goals as goal

pub returns-in-Some : goal.returns-in-Some
returns-in-Some c =
    let entries = c.args.trie.now in
    let words = words_in entries c.args.words.now in
    let is : state_of_number entries words c.args.number ≡ Some (state_at entries c.in-Some.state) =
    subst (λ (v : NumberingView). state_of_number v.entries v.words c.args.number ≡ Some (state_at v.entries c.in-Some.state)) c.requires.numbering c.in-Some.ensures.number_is in
    finish_there entries words c.args.number (state_at entries c.in-Some.state) c.finish_by.result _ c.unwrap_or.result is c.requires.opened c.finish_by.ensures.finish c.unwrap_or.ensures

pub returns-in-None : goal.returns-in-None
returns-in-None c =
    let entries = c.args.trie.now in
    let words = words_in entries c.args.words.now in
    let none : state_of_number entries words c.args.number ≡ None = subst (λ (v : NumberingView). state_of_number v.entries v.words c.args.number ≡ None) c.requires.numbering c.in-None.ensures in
    finish_nowhere entries words c.args.number _ none
