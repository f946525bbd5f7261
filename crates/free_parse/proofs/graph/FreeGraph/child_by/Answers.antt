use Rattle.std.proofs.Common.{◌++◌, ◌<◌, length, ap, subst, ◌∙◌, sym}
use Rattle.steno_rules.specs.Nodes.{nodes}
use Rattle.steno_rules.specs.Outlines.{entry_number}
use Rattle.outline_trie.specs.Tries.{node_strokes}
use Rattle.reading_laws.specs.ChosenReadings.{final_stroke}
use Rattle.free_parse.specs.FreeGraphs.{FreeGraphView}
use Rattle.free_parse.proofs.NodeLemmas.{final_stroke-node, root_none}
use Rattle.free_parse.proofs.graph.FreeGraph.child_by.Goals as goal

pub returns-in-Some-clause-child : goal.returns-in-Some-clause-child
returns-in-Some-clause-child c =
    let es = c.self.inside.trie.now in
    c.child.ensures ∙ ap (λ l. entry_number (nodes es) (node_strokes es c.args.node ++ l)) (sym (final_stroke-node es c.args.other c.in-Some.stroke c.in-Some.ensures))
    ∙ ap (λ (v : FreeGraphView). entry_number (nodes v.entries) (node_strokes v.entries c.args.node ++ final_stroke (node_strokes v.entries c.args.other))) c.self.view_is

pub returns-in-None-clause-child : goal.returns-in-None-clause-child
returns-in-None-clause-child c =
    let some = subst (λ (v : FreeGraphView). 0 < length (node_strokes v.entries c.args.other)) (sym c.self.view_is) c.requires.some in
    absurd (root_none c.self.inside.trie.now c.args.other c.in-None.ensures some)
