use Rattle.std.proofs.Common.{◌+◌, ◌++◌, ◌∷◌, [], None, ap, ◌∙◌, arith}
use Rattle.round_core.proofs.Places.{replicate_more}
use Rattle.round_core.proofs.hand.free_hands.Goals as goal

pub loop-worker-preserved : goal.loop-worker-preserved
loop-worker-preserved g c = c.in_ok-push.ensures.items ∙ ap (λ l. l ++ None ∷ []) c.loop-worker.invariant ∙ replicate_more None c.loop-worker.worker (c.loop-worker.worker + 1) (omega arith)
