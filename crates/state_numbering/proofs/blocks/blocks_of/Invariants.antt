use Rattle.std.proofs.Common.{◌≡◌, ◌*◌, ◌^◌, length}
use Rattle.state_numbering.specs.inside.Blocks.{AreBlockStarts, BeginsBy}
use Rattle.state_numbering.proofs.blocks.blocks_of.Given as goal

abbrev pub invariant-loop-block : goal.invariant-loop-block
invariant-loop-block l = record {
  long : length l.nodes.items ≡ l.block;
  starts : AreBlockStarts l.parts (2 ^ l.bits) l.nodes.items;
  begun : BeginsBy l.parts (l.block * 2 ^ l.bits) l.node;
}
