use Rattle.std.proofs.Common.{◌<◌, All, length}
use Rattle.brief_trial.proofs.tests.outlines_of.Given as goal

-- each outline so far has strokes
abbrev pub invariant-loop-text : goal.invariant-loop-text
invariant-loop-text g l = All (λ outline. 0 < length outline) l.outlines.items
