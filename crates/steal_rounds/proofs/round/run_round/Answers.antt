use Rattle.steal_rounds.specs.inside.Moves.{IsLegalPass}
use Rattle.steal_rounds.specs.declared.member.CrewMember.{CrewMember}
use Rattle.steal_rounds.specs.inside.Crews.{IsRound}
use Rattle.steal_rounds.specs.MadeMoves.{HasGraph}
use Rattle.steal_rounds.proofs.Eaches.{all_on}
use Rattle.steal_rounds.proofs.round.run_round.Goals as goal

pub turn_all-requires-after_bounds : goal.turn_all-requires-after_bounds
turn_all-requires-after_bounds g c κs within =
    let P = λ (m : CrewMember). IsLegalPass c.args.table.now m.pass in
    all_on P
    (λ (m : CrewMember). HasGraph c.args.table.now (g.G.StepGraph.origin c.args.graph.now) (g.G.StepGraph.lists c.args.graph.now) × IsRound c.args.table.now c.args.distance c.args.frontier.now × IsLegalPass c.args.table.now m.pass)
    (λ m h. (c.requires.graph, c.requires.round, h)) c.args.crew.now c.requires.passes
