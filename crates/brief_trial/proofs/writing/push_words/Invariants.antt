use Rattle.std.proofs.Common.{◌≡◌, ◌++◌, take}
use Rattle.report.specs.Reports.{words_text}
use Rattle.brief_trial.specs.Trials.{with_brief}
use Rattle.brief_trial.proofs.writing.push_words.Given as goal

-- the words so far
abbrev pub invariant-loop-place : goal.invariant-loop-place
invariant-loop-place l = l.page.items ≡ l.initial.page.items ++ words_text (with_brief l.stack.outlines l.trial.brief) (take l.place l.words)
