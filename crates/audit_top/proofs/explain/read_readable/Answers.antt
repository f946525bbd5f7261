use Rattle.std.proofs.Common.{◌∙◌, ap, subst, sym, true≢false}
use Rattle.std.specs.Prelude.{is_some}
use Rattle.steno_order.specs.Faults.{IsStrokesCause}
use Rattle.steno_order.proofs.ListLaws.{none-spelt_strokes}
use Rattle.audit_top.proofs.explain.read_readable.Goals as goal

pub unreachable-requires : goal.unreachable-requires
unreachable-requires c =
    let cause = subst (IsStrokesCause c.args.outline.now) c.in-Err-Unreadable.field-0-is c.in-Err-Unreadable.ensures.err in
    let none = none-spelt_strokes c.args.outline.now _ cause in
    true≢false (sym c.requires.readable ∙ ap is_some none)
