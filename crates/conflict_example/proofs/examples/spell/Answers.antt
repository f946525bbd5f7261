use Rattle.std.proofs.Common.{sym, ◌∙◌}
use Rattle.conflict_example.specs.inside.Spellings.{numbered_state}
use Rattle.conflict_example.proofs.Spellings.{ended, goes_on}
use Rattle.conflict_example.proofs.examples.spell.Goals as goal

pub returns-in_ok-push_word-clause-node : goal.returns-in_ok-push_word-clause-node
returns-in_ok-push_word-clause-node c = λ strokes is.
    let v = c.args.numbering.now in
    ended v.entries (numbered_state v.entries v.words c.args.number) strokes (sym c.step_to-step.ensures.ends ∙ c.if-step.true)

pub returns-else-step-clause-node : goal.returns-else-step-clause-node
returns-else-step-clause-node c = λ strokes is.
    let v = c.args.numbering.now in
    goes_on v.entries (numbered_state v.entries v.words c.args.number) strokes c.step_to-step.result.node (sym c.step_to-step.ensures.ends ∙ c.if-step.false)
    (c.step_to-step.ensures.node strokes is)
