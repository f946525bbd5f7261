use Rattle.std.proofs.Common.{sym, ◌∙◌}
use Rattle.dict_stack.proofs.EndLemmas.{is_end-last}
use Rattle.dict_stack.proofs.columns.is_last.Goals as goal

pub returns-in-Some : goal.returns-in-Some
returns-in-Some c = c.eq.ensures ∙ sym (is_end-last c.args.outlines.now c.in-Some.last.now c.args.outline.now (sym c.in-Some.ensures.value))
