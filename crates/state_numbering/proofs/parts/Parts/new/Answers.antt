use Rattle.std.proofs.Common.{arith, ap, length}
use Rattle.outline_trie.proofs.LookLemmas.{root_inside}
use Rattle.state_numbering.proofs.PartLemmas.{nodes_within}
use Rattle.state_numbering.proofs.parts.Parts.new.Goals as goal

pub blocks_of-requires-clause-some : goal.blocks_of-requires-clause-some
blocks_of-requires-clause-some c = let parts = c.in_ok-parts.ensures in omega (arith, ap length c.deref.ensures.value, parts.long, root_inside c.args.trie.now)

pub blocks_of-requires-clause-few : goal.blocks_of-requires-clause-few
blocks_of-requires-clause-few c =
    let parts = c.in_ok-parts.ensures in
    omega (arith, ap length c.deref.ensures.value, parts.long, nodes_within c.args.trie.now, c.count_numbers-count.ensures, c.if-count-gt-MAX_STATES.false)
