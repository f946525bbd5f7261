use Rattle.std.proofs.Common.{subst, ◌+◌}
use Rattle.cert_check.specs.inside.Runs.{ListsRun}
use Rattle.certificate_laws.specs.Closures.{closure_of}
use Rattle.report.specs.declared.faults.Why.TheVariants as why
use Rattle.cert_check.proofs.AnswerLemmas.{run_answers, lists_closure, lists_sound, no_failure}
use Rattle.cert_check.proofs.upper.Upper.run.Goals as goal

pub returns-clause-answers : goal.returns-clause-answers
returns-clause-answers c flags are words =
    let old = c.args.self.now in let new = c.list.new.self in let numbering = c.args.numbering.now in
    run_answers (closure_of numbering.entries flags) old new c.args.first c.args.last c.args.distance c.may_list_run-may_follow.result c.in_ok-is_right.is_right c.failure_of.result c.failure_of.ensures c.may_list_run-may_follow.ensures.follows
    (λ is. lists_closure numbering.entries numbering.words flags (old.lines + 1) c.args.first c.args.last c.args.distance old.places.items new.places.items c.in_ok-is_right.is_right are words c.requires.sound.last (c.in_ok-is_right.ensures.listed is))
    (λ is content_check. (c.in_ok-is_right.ensures.listed is).adds content_check) c.list.ensures.lines c.list.ensures.version

pub returns-clause-sound : goal.returns-clause-sound
returns-clause-sound c none =
    let old = c.args.self.now in let new = c.list.new.self in let numbering = c.args.numbering.now in
    let both = no_failure c.may_list_run-may_follow.result c.in_ok-is_right.is_right why.Number c.failure_of.result c.failure_of.ensures none in
    lists_sound numbering.entries numbering.words (old.lines + 1) c.args.first c.args.last c.args.distance old new c.requires.sound
    (subst (ListsRun numbering.entries numbering.words (old.lines + 1) c.args.first c.args.last c.args.distance old.places.items new.places.items) both.1 (c.in_ok-is_right.ensures.listed both.0)) c.list.ensures.lines
