use Rattle.std.proofs.Common.{◌≡◌, drop}
use Rattle.round_core.specs.Machines.{none_untaken}
use Rattle.round_core.proofs.round.are_taken.Given as goal

abbrev pub invariant-loop-flag : goal.invariant-loop-flag
invariant-loop-flag l = none_untaken (drop l.flag-index l.untaken) ≡ none_untaken l.untaken
