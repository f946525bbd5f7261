use Rattle.std.proofs.Common.{◌+◌, ◌-◌, take, drop, get_or, refl, ◌∙◌}
use Rattle.std.proofs.lemmas.Option.{slice_get-get_or}
use Rattle.round_core.specs.Hands.{hand_moves}
use Rattle.round_core.proofs.HandMoves.{told, next_moves, when_none}
use Rattle.round_core.proofs.hand.advance.Goals as goal

pub first-requires : goal.first-requires
first-requires g c = c.requires.front _ (c.loop-next.hand.at, slice_get-get_or c.args.front.now c.loop-next.hand.at 0 c.if-hand-front.true)

pub loop-next-preserved : goal.loop-next-preserved
loop-next-preserved g c =
    let before = when_none _ _ c.loop-next.next c.loop-next-test.ensures c.loop-next.invariant.next in
    let some = c.if-hand-gt0.true in
    let state = get_or c.args.front.now c.loop-next.hand.at 0 in
    record {
      owned = c.next-next-in-loop-next.ensures.mine;
      next = told (g.G.StepGraph.lists c.args.graph.now) state (g.G.StepGraph.left c.args.graph.now c.first.result) (g.G.StepGraph.left c.args.graph.now c.next-next-in-loop-next.new.cursor)
          (take (c.loop-next.hand.more - 1) (drop (c.loop-next.hand.at + 1) c.args.front.now)) (hand_moves (g.G.StepGraph.left c.args.graph.now) (g.G.StepGraph.lists c.args.graph.now) c.args.front.now c.args.hand.now) c.next-next-in-loop-next.result c.next-next-in-loop-next.ensures.next
          (next_moves (g.G.StepGraph.lists c.args.graph.now) c.loop-next.hand.state (g.G.StepGraph.left c.args.graph.now c.loop-next.hand.cursor) c.args.front.now c.loop-next.hand.at c.loop-next.hand.more state (c.loop-next.hand.at + 1) (g.G.StepGraph.left c.args.graph.now c.first.result)
          before.0 some c.if-hand-front.true refl refl c.first.ensures.whole ∙ before.1);
      below = c.next-next-in-loop-next.ensures.below;
    }
