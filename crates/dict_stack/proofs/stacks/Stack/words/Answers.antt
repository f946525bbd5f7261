use Rattle.std.proofs.Common.{subst}
use Rattle.steno_rules.specs.Outlines.{AreWords, flagged_entries}
use Rattle.steno_rules.proofs.FlaggedWords.{flagged-are}
use Rattle.dict_stack.proofs.stacks.Stack.words.Goals as goal

pub returns-clause-are_words : goal.returns-clause-are_words
returns-clause-are_words c =
    subst (λ s. AreWords s.outlines (flagged_entries s.outlines s.words)) c.self.view_is
    (flagged-are c.self.inside.outlines.items c.self.inside.words.items c.self.invariant.0.are_entries)
