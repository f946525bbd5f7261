use Rattle.std.proofs.Common.{◌≡◌, None, subst}
use Rattle.std.specs.Prelude.{IfOk, MatchOption}
use Rattle.steno_rules.specs.StateNumbers.{state_of_number}
use Rattle.steno_rules.specs.WordSets.{words_in}
use Rattle.closure_state.specs.NodeStates.{IsNodeState}
use Rattle.state_numbering.specs.ByNumber.{IsStateOf}
use Rattle.state_numbering.specs.Numberings.{NumberingView, numbering_of}
use Rattle.settled_pairs.proofs.SumLemmas.{open_state}
use Rattle.settled_pairs.proofs.tests.finish_of.Goals as goal

pub finish-requires-clause-opened : goal.finish-requires-clause-opened
finish-requires-clause-opened c s =
    let entries = s.expect-trie.result in
    let words = words_in entries s.expect-words.result in
    let v = s.expect-numbering.result in
    let made : v ≡ numbering_of entries s.expect-words.result =
    subst (λ r. IfOk r (λ (n : NumberingView). n ≡ numbering_of entries s.expect-words.result)) s.expect-numbering.ensures s.new-4.ensures.numbered in
    let state : IsStateOf v s.args.number s.expect-state.result =
    subst (λ o. MatchOption o (state_of_number v.entries v.words s.args.number ≡ None) (IsStateOf v s.args.number)) s.expect-state.ensures s.state.ensures in
    open_state entries words s.expect-state.result _ s.in-Some.ensures (subst (λ (w : NumberingView). IsNodeState w.entries w.words s.expect-state.result) made state.state)
