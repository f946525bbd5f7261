use Rattle.std.proofs.Common.{[], sym, append-nil}
use Rattle.pages.proofs.PageSteps.{adding_all, adding_as, adding_more, puts_last}
use Rattle.brief_trial.specs.TrialTexts.{trials_text}
use Rattle.brief_trial.proofs.writing.write_trials.Goals as goal

pub returns : goal.returns
returns g c =
    let text = trials_text c.args.stack.now.outlines c.args.trials.now in
    let none = adding_more _ _ _ text text [] tt (adding_as _ _ text text _ (sym (append-nil text)) (adding_all _ text)) c.in_ok-write_all_trials.ensures in
    puts_last _ _ _ [] _ _ text _ c.in_ok-page.ensures c.deref.ensures.value none c.write_all.ensures
