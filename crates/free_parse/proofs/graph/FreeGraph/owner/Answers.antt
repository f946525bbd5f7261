use Rattle.std.proofs.Common.{◌<◌, subst, sym, arith}
use Rattle.std.proofs.lemmas.List.{get_or_read}
use Rattle.reading_laws.specs.ForkNumbers.{end_number}
use Rattle.free_parse.specs.FreeGraphs.{FreeGraphView}
use Rattle.free_parse.specs.inside.Parts.{IsOwner}
use Rattle.free_parse.proofs.PartLemmas.{owner_is, owners_all}
use Rattle.free_parse.proofs.graph.FreeGraph.owner.Goals as goal

pub index-requires : goal.index-requires
index-requires c =
    let below : c.args.number < end_number c.self.inside.trie.now = subst (λ (v : FreeGraphView). c.args.number < end_number v.entries) (sym c.self.view_is) c.requires in
    omega (arith, c.self.inside.parts.nodes.ok.0, owners_all c.self.inside.trie.now c.self.inside.parts.nodes.items c.self.invariant.parts_are.owners_are, below)

pub returns : goal.returns
returns c =
    let below : c.args.number < end_number c.self.inside.trie.now = subst (λ (v : FreeGraphView). c.args.number < end_number v.entries) (sym c.self.view_is) c.requires in
    let owners = c.self.inside.parts.nodes.items in
    let is = c.self.invariant.parts_are.owners_are in
    let read = get_or_read owners c.args.number c.index.result.now (omega (arith, owners_all c.self.inside.trie.now owners is, below)) c.index.ensures 0 in
    subst (λ (v : FreeGraphView). IsOwner v.entries c.args.number c.index.result.now) c.self.view_is
    (subst (IsOwner c.self.inside.trie.now c.args.number) (sym read) (owner_is c.self.inside.trie.now owners c.args.number is below))
