use Rattle.std.proofs.Common.{◌≡◌, take, true}
use Rattle.cert_check.specs.inside.Moves.{all_pass, steps_on}
use Rattle.cert_check.specs.inside.Places.{places_from}
use Rattle.cert_check.proofs.moves.first_stuck.Given as goal

abbrev pub invariant-loop-state : goal.invariant-loop-state
invariant-loop-state g l = all_pass (steps_on (g.G.StepGraph.lists l.graph) l.places) (places_from 0 (take l.state l.places)) ≡ true
