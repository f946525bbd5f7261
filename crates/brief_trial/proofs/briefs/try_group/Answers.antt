use Rattle.std.proofs.Common.{arith}
use Rattle.conflict_example.specs.Chosen.{words_in_stack}
use Rattle.brief_trial.specs.inside.Adding.{IsTried}
use Rattle.brief_trial.proofs.Adding.{zip_of}
use Rattle.brief_trial.proofs.briefs.try_group.Goals as goal

pub returns-clause-adds : goal.returns-clause-adds
returns-clause-adds g c =
    c.push_tried.ensures.adds c.args.stack.now.outlines (words_in_stack c.args.stack.now) c.args.group.now
    (zip_of (IsTried c.args.stack.now.outlines (words_in_stack c.args.stack.now)) c.args.group.now c.in_ok-tried.tried.items (omega (arith, c.in_ok-tried.ensures.len, c.in_ok-tried.tried.ok.0))
    (λ i d e l. (c.in_ok-tried.ensures.each i e l).1.met d))

pub returns-clause-cause : goal.returns-clause-cause
returns-clause-cause g c =
    c.push_tried.ensures.cause c.args.stack.now.outlines (words_in_stack c.args.stack.now) c.args.group.now
    (zip_of (IsTried c.args.stack.now.outlines (words_in_stack c.args.stack.now)) c.args.group.now c.in_ok-tried.tried.items (omega (arith, c.in_ok-tried.ensures.len, c.in_ok-tried.tried.ok.0))
    (λ i d e l. (c.in_ok-tried.ensures.each i e l).1.met d))
