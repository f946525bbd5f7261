use Rattle.std.proofs.Common.{ap, subst, ◌∙◌, sym}
use Rattle.steno_rules.specs.Outlines.{is_word}
use Rattle.outline_trie.specs.Tries.{IsNode, node_strokes}
use Rattle.closure_state.proofs.WaitLemmas.{is_word_flag}
use Rattle.free_parse.specs.FreeGraphs.{FreeGraphView}
use Rattle.free_parse.proofs.graph.FreeGraph.is_word.Goals as goal

pub returns : goal.returns
returns c =
    let inside : IsNode c.self.inside.trie.now c.args.node = subst (λ (v : FreeGraphView). IsNode v.entries c.args.node) (sym c.self.view_is) c.requires in
    c.is_word.ensures ∙ is_word_flag c.self.inside.trie.now c.self.inside.words.now c.args.node inside
    ∙ ap (λ (v : FreeGraphView). is_word v.words (node_strokes v.entries c.args.node)) c.self.view_is
