use Rattle.std.proofs.Common.{◌≡◌, ◌+◌, ◌≤◌, ap, length, subst, ◌∙◌, sym, arith}
use Rattle.std.proofs.lemmas.List.{get_or_read}
use Rattle.steno_rules.specs.Nodes.{nodes}
use Rattle.outline_trie.specs.Tries.{IsNode, node_strokes}
use Rattle.reading_laws.specs.ForkNumbers.{end_number, fork_start}
use Rattle.free_parse.specs.FreeGraphs.{FreeGraphView}
use Rattle.free_parse.proofs.PartLemmas.{part_within, start_is, starts_all}
use Rattle.free_parse.proofs.graph.FreeGraph.part.Goals as goal

pub index-requires : goal.index-requires
index-requires c =
    let inside : IsNode c.self.inside.trie.now c.args.node = subst (λ (v : FreeGraphView). IsNode v.entries c.args.node) (sym c.self.view_is) c.requires in
    omega (arith, c.self.inside.parts.starts.ok.0, starts_all c.self.inside.trie.now c.self.inside.parts.starts.items c.self.invariant.parts_are.starts_are, inside)

pub returns-clause-start : goal.returns-clause-start
returns-clause-start c =
    let inside : IsNode c.self.inside.trie.now c.args.node = subst (λ (v : FreeGraphView). IsNode v.entries c.args.node) (sym c.self.view_is) c.requires in
    let starts = c.self.inside.parts.starts.items in
    let is = c.self.invariant.parts_are.starts_are in
    get_or_read starts c.args.node c.index.result.now (omega (arith, starts_all c.self.inside.trie.now starts is, inside)) c.index.ensures 0
    ∙ start_is c.self.inside.trie.now starts c.args.node is inside ∙ ap (λ (v : FreeGraphView). fork_start (nodes v.entries) c.args.node) c.self.view_is

pub returns-clause-within : goal.returns-clause-within
returns-clause-within c =
    let inside : IsNode c.self.inside.trie.now c.args.node = subst (λ (v : FreeGraphView). IsNode v.entries c.args.node) (sym c.self.view_is) c.requires in
    let starts = c.self.inside.parts.starts.items in
    let is = c.self.invariant.parts_are.starts_are in
    let start : c.index.result.now ≡ fork_start (nodes c.self.inside.trie.now) c.args.node =
    get_or_read starts c.args.node c.index.result.now (omega (arith, starts_all c.self.inside.trie.now starts is, inside)) c.index.ensures 0 ∙ start_is c.self.inside.trie.now starts c.args.node is inside in
    let within = part_within c.self.inside.trie.now c.args.node inside in
    let fits : c.index.result.now + length (node_strokes c.self.inside.trie.now c.args.node) + 1 ≤ end_number c.self.inside.trie.now = omega (arith, within, start) in
    subst (λ (v : FreeGraphView). c.index.result.now + length (node_strokes v.entries c.args.node) + 1 ≤ end_number v.entries) c.self.view_is fits
