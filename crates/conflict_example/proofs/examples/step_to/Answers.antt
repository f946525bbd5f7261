use Rattle.std.proofs.Common.{ap, ◌∙◌}
use Rattle.conflict_example.specs.inside.Spellings.{node_of}
use Rattle.conflict_example.proofs.States.{no_stroke, open_test}
use Rattle.conflict_example.proofs.examples.step_to.Goals as goal

pub returns-in-Some-clause-ends : goal.returns-in-Some-clause-ends
returns-in-Some-clause-ends c = open_test c.args.numbering.now c.args.number c.in-Some.state c.in-Some.ensures

pub returns-in-None-clause-node : goal.returns-in-None-clause-node
returns-in-None-clause-node c = λ strokes is.
    is ∙ ap (node_of c.args.numbering.now.entries) (no_stroke c.args.numbering.now c.args.number strokes c.in-None.ensures)
