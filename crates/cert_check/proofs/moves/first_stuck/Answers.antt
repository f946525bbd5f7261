use Rattle.std.proofs.Common.{arith, sym, ◌∙◌}
use Rattle.std.proofs.lemmas.List.{get_or_default}
use Rattle.cert_check.proofs.MoveLemmas.{stuck_here, stuck_next, pass_all}
use Rattle.cert_check.proofs.moves.first_stuck.Goals as goal

pub returns-then-is_stuck : goal.returns-then-is_stuck
returns-then-is_stuck g c =
    stuck_here (g.G.StepGraph.lists c.args.graph.now) c.args.places.now c.loop-state.state _ c.loop-state-test.true
    (get_or_default c.args.places.now c.loop-state.state _ _ c.loop-state-test.true) (sym c.is_stuck.ensures ∙ c.if-is_stuck.true) c.loop-state.invariant

pub loop-state-preserved : goal.loop-state-preserved
loop-state-preserved g c =
    stuck_next (g.G.StepGraph.lists c.args.graph.now) c.args.places.now c.loop-state.state _ c.loop-state-test.true
    (get_or_default c.args.places.now c.loop-state.state _ _ c.loop-state-test.true) (sym c.is_stuck.ensures ∙ c.if-is_stuck.false) c.loop-state.invariant

pub returns : goal.returns
returns g c = pass_all (g.G.StepGraph.lists c.args.graph.now) c.args.places.now c.loop-state.state (omega (arith, c.loop-state-test.false)) c.loop-state.invariant
