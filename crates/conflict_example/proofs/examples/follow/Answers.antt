use Rattle.std.proofs.Common.{◌++◌, sym, ◌∙◌}
use Rattle.outline_trie.specs.Tries.{node_strokes}
use Rattle.closure_laws.specs.Examples.{last_stroke}
use Rattle.closure_state.specs.NodeStates.{state_at}
use Rattle.conflict_example.proofs.Spellings.{node_goes_on, node_inside, none_goes_on}
use Rattle.conflict_example.proofs.examples.follow.Goals as goal

pub returns-in-Some-clause-inside : goal.returns-in-Some-clause-inside
returns-in-Some-clause-inside c =
    let entries = c.args.numbering.now.entries in
    node_inside entries c.follow.result (node_strokes entries c.in-Some.node ++ last_stroke (state_at entries c.args.state)) c.follow.ensures

pub returns-in-Some-clause-node : goal.returns-in-Some-clause-node
returns-in-Some-clause-node c = λ strokes is.
    let entries = c.args.numbering.now.entries in
    c.follow.ensures ∙ node_goes_on entries c.in-Some.node strokes (last_stroke (state_at entries c.args.state)) (sym c.in-Some.is ∙ is)

pub returns-in-None-clause-node : goal.returns-in-None-clause-node
returns-in-None-clause-node c = λ strokes is.
    let entries = c.args.numbering.now.entries in
    none_goes_on entries strokes (last_stroke (state_at entries c.args.state)) (sym c.in-None.is ∙ is)
