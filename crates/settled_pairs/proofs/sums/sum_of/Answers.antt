use Rattle.std.proofs.Common.{◌≡◌, ◌+◌, ◌/◌, Some, ap, subst, arith}
use Rattle.steno_rules.specs.ClosureGraphs.{kept_lists}
use Rattle.steno_rules.specs.StateNumbers.{state_of_number}
use Rattle.steno_rules.specs.WordSets.{words_in}
use Rattle.closure_state.specs.NodeStates.{state_at}
use Rattle.state_numbering.specs.Numberings.{NumberingView}
use Rattle.conflict_example.proofs.Noted.{graph_count}
use Rattle.conflict_example.proofs.SettledWords.{reached_best}
use Rattle.settled_pairs.proofs.SumLemmas.{no_sum_finish, sum_found, sum_small}
use Rattle.settled_pairs.proofs.sums.sum_of.Goals as goal

pub returns-in-None-clause-sum : goal.returns-in-None-clause-sum
returns-in-None-clause-sum c =
    let entries = c.args.trie.now in
    let words = words_in entries c.args.words.now in
    let is : state_of_number entries words c.args.number ≡ Some (state_at entries c.in_ok-state.state) =
    subst (λ (v : NumberingView). state_of_number v.entries v.words c.args.number ≡ Some (state_at v.entries c.in_ok-state.state)) c.requires.numbering c.in_ok-state.ensures.number_is in
    no_sum_finish entries words c.args.number (state_at entries c.in_ok-state.state) is c.in-None.ensures.finish

pub returns-in-Some-clause-sum : goal.returns-in-Some-clause-sum
returns-in-Some-clause-sum c =
    let entries = c.args.trie.now in
    let words = words_in entries c.args.words.now in
    let is : state_of_number entries words c.args.number ≡ Some (state_at entries c.in_ok-state.state) =
    subst (λ (v : NumberingView). state_of_number v.entries v.words c.args.number ≡ Some (state_at v.entries c.in_ok-state.state)) c.requires.numbering c.in_ok-state.ensures.number_is in
    let best = reached_best (kept_lists entries words) c.args.number c.args.word (omega (arith, graph_count entries words, c.requires.few)) c.requires.settled c.requires.reached in
    sum_found entries words c.args.number (c.args.word / 4294967296) (state_at entries c.in_ok-state.state) c.in_ok-hit.hit c.in-Some.finish is c.in_ok-hit.ensures c.in-Some.ensures.finish best _
    (ap (λ k. c.args.word / 4294967296 + k) c.from.ensures)

pub returns-in-Some-clause-small : goal.returns-in-Some-clause-small
returns-in-Some-clause-small c =
    let entries = c.args.trie.now in
    let words = words_in entries c.args.words.now in
    let best = reached_best (kept_lists entries words) c.args.number c.args.word (omega (arith, graph_count entries words, c.requires.few)) c.requires.settled c.requires.reached in
    omega (arith, sum_small entries words c.args.number (c.args.word / 4294967296) c.in-Some.finish.strokes c.requires.below c.requires.few best c.in-Some.ensures.short, c.from.ensures)
