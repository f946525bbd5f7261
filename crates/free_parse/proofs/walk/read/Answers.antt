use Rattle.free_parse.proofs.WalkLemmas.{reading_none}
use Rattle.free_parse.proofs.walk.read.Goals as goal

pub loop-number-init : goal.loop-number-init
loop-number-init c = record {
  reading = reading_none c.args.graph.now c.args.path.now.items c.fork-at.result c.new-halves.result (c.new-halves.ensures c.args.graph.now.entries) c.fork-at.ensures.is;
  nodes = c.fork-at.ensures.nodes;
}
