use Rattle.std.proofs.Common.{ap, arith, sym, ◌∙◌}
use Rattle.std.specs.Prelude.{not}
use Rattle.steno_order.proofs.Masks.{has_is}
use Rattle.steno_order.proofs.Needs.{bar_needed, bar_not_needed}
use Rattle.steno_order.proofs.writing.is_barred.Goals as goal

pub returns-then-has : goal.returns-then-has
returns-then-has c = ap not c.has_any.ensures ∙ bar_needed c.args.stroke (sym (has_is c.args.stroke 0 c.has.result c.has.ensures (omega arith)) ∙ c.if-has.true)

pub returns-else-has : goal.returns-else-has
returns-else-has c = c.if-has.false ∙ bar_not_needed c.args.stroke (sym (has_is c.args.stroke 0 c.has.result c.has.ensures (omega arith)) ∙ c.if-has.false)
