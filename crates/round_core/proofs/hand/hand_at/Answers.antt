use Rattle.std.proofs.Common.{◌+◌, refl, get_or}
use Rattle.std.proofs.lemmas.Option.{slice_get-get_or}
use Rattle.round_core.proofs.HandMoves.{batch_moves}
use Rattle.round_core.proofs.hand.hand_at.Goals as goal

pub first-requires : goal.first-requires
first-requires g c = c.requires.front (get_or c.args.front.now c.args.at 0) (c.args.at, slice_get-get_or c.args.front.now c.args.at 0 c.requires.place)

pub returns-clause-moves : goal.returns-clause-moves
returns-clause-moves g c = batch_moves (g.G.StepGraph.lists c.args.graph.now) c.args.front.now c.args.at c.args.size (get_or c.args.front.now c.args.at 0) (c.args.at + 1) (g.G.StepGraph.left c.args.graph.now c.first.result) c.requires.size c.requires.place refl refl c.first.ensures.whole
