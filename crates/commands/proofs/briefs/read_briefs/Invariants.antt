use Rattle.std.proofs.Common.{◌≡◌, All, map, take}
use Rattle.steno_rules.specs.Outlines.{IsOutline}
use Rattle.commands.specs.Commands.{brief_texts}
use Rattle.commands.proofs.BriefTexts.{read_text}
use Rattle.commands.proofs.briefs.read_briefs.Given as goal

-- the outlines of the texts so far
abbrev pub invariant-loop-text : goal.invariant-loop-text
invariant-loop-text l = (l.outlines.items ≡ map read_text (take l.text-index (brief_texts l.briefs))) × All IsOutline l.outlines.items
