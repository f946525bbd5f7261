use Rattle.std.proofs.Common.{◌≡◌, ◌<◌, [], ◌∷◌, length, MatchOption, ◌-◌}
use Rattle.round_core.specs.Hands.{hand_moves}
use Rattle.round_core.proofs.hand.advance.Given as goal

abbrev pub invariant-loop-next : goal.invariant-loop-next
invariant-loop-next g l = record {
  owned : g.G.StepGraph.owns l.graph l.hand.cursor;
  next : MatchOption l.next ((g.G.StepGraph.left l.graph l.hand.cursor ≡ []) × (hand_moves (g.G.StepGraph.left l.graph) (g.G.StepGraph.lists l.graph) l.front l.hand ≡ hand_moves (g.G.StepGraph.left l.graph) (g.G.StepGraph.lists l.graph) l.front l.fn.hand))
      (λ t. hand_moves (g.G.StepGraph.left l.graph) (g.G.StepGraph.lists l.graph) l.front l.fn.hand ≡ record { source = l.hand.state; target = t } ∷ hand_moves (g.G.StepGraph.left l.graph) (g.G.StepGraph.lists l.graph) l.front l.hand);
  below : MatchOption l.next (Unit {0}) (λ t. t < length (g.G.StepGraph.lists l.graph));
}

abbrev pub decreases-loop-next : goal.decreases-loop-next
decreases-loop-next g l = length l.front - l.hand.at
