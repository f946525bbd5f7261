use Rattle.std.proofs.Common.{◌*◌, ◌/◌, ◌^◌, ◌<◌, ◌≤◌, ap, subst, sym, arith, length}
use Rattle.std.proofs.lemmas.List.{get_or_read}
use Rattle.std.proofs.Math.Pow.{shr_mono}
use Rattle.steno_rules.specs.StateNumbers.{number_count}
use Rattle.state_numbering.specs.inside.Parts.{IsInPart}
use Rattle.state_numbering.specs.inside.Blocks.{BeginsBy, IsLastBegun}
use Rattle.state_numbering.proofs.BlockLemmas.{begun_of_block}
use Rattle.state_numbering.proofs.PartLemmas.{in_part, nodes_within}
use Rattle.state_numbering.proofs.parts.Parts.node_of.Goals as goal

pub last_begun-requires-clause-from : goal.last_begun-requires-clause-from
last_begun-requires-clause-from c =
    let parts = c.self.inside.parts.items in
    let blocks = c.self.invariant.blocks_are in
    let width = 2 ^ c.self.inside.blocks.bits in
    let block = c.args.number / width in
    let below : c.args.number ≤ c.self.inside.count = omega (arith, c.requires, c.self.invariant.count_is, ap number_count c.self.view_is) in
    let within : block < length c.self.inside.blocks.nodes.items = omega (arith, shr_mono c.self.inside.blocks.bits below, blocks.enough) in
    let begun = subst (BeginsBy parts (block * width)) (sym (get_or_read c.self.inside.blocks.nodes.items block c.index-begin.result.now within c.index-begin.ensures 0)) (blocks.starts block within) in
    subst (λ ps. BeginsBy ps c.args.number c.index-begin.result.now) (sym c.deref.ensures.value) (begun_of_block parts width c.args.number c.index-begin.result.now begun)

pub last_begun-requires-clause-few : goal.last_begun-requires-clause-few
last_begun-requires-clause-few c = omega (arith, ap length c.deref.ensures.value, c.self.invariant.parts_are.long, nodes_within c.self.inside.trie.now, c.self.invariant.count_is, c.self.invariant.within)

pub returns : goal.returns
returns c =
    let parts = c.self.inside.parts.items in
    let last = subst (λ ps. IsLastBegun ps c.args.number c.last_begun.result) c.deref.ensures.value c.last_begun.ensures in
    subst (λ es. IsInPart es c.args.number c.last_begun.result) c.self.view_is (in_part c.self.inside.trie.now parts c.args.number c.last_begun.result c.self.invariant.parts_are (omega (arith, c.requires, ap number_count c.self.view_is)) last)
