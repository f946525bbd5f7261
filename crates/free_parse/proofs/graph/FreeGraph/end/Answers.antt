use Rattle.std.proofs.Common.{◌≡◌, ap, ◌∙◌, arith}
use Rattle.reading_laws.specs.ForkNumbers.{end_number}
use Rattle.free_parse.specs.FreeGraphs.{FreeGraphView}
use Rattle.free_parse.proofs.PartLemmas.{owners_all}
use Rattle.free_parse.proofs.graph.FreeGraph.end.Goals as goal

module _ (c : goal.After-len) where
  all : c.len.result ≡ end_number c.self.inside.trie.now
  all = c.len.ensures ∙ c.self.inside.parts.nodes.ok.0 ∙ owners_all c.self.inside.trie.now c.self.inside.parts.nodes.items c.self.invariant.parts_are.owners_are

pub overflow_cast-result : goal.overflow_cast-result
overflow_cast-result c = omega (arith, all c, c.self.invariant.few)

pub returns-clause-end : goal.returns-clause-end
returns-clause-end c = all c ∙ ap (λ (v : FreeGraphView). end_number v.entries) c.self.view_is

pub returns-clause-few : goal.returns-clause-few
returns-clause-few c = omega (arith, all c, c.self.invariant.few)
