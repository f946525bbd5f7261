use Rattle.std.proofs.Common.{ap, sym, ◌∙◌}
use Rattle.std.specs.Prelude.{not}
use Rattle.steno_order.proofs.Needs.{hyphen_needed, hyphen_not_needed}
use Rattle.steno_order.proofs.writing.is_divided.Goals as goal

pub returns-then-has_any : goal.returns-then-has_any
returns-then-has_any c = ap not c.has_any-then-has_any.ensures ∙ hyphen_needed c.args.stroke (sym c.has_any.ensures ∙ c.if-has_any.true)

pub returns-else-has_any : goal.returns-else-has_any
returns-else-has_any c = c.if-has_any.false ∙ hyphen_not_needed c.args.stroke (sym c.has_any.ensures ∙ c.if-has_any.false)
