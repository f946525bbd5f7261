use Rattle.std.proofs.Common.{subst, sym, ap, ◌∙◌}
use Rattle.std.specs.Prelude.{Some, option_map}
use Rattle.steno_order.proofs.StrokesRead.{IsRead, all_read, none_next}
use Rattle.steno_order.proofs.Counts.{strokes-fit}
use Rattle.steno_order.proofs.reading.read_strokes.Goals as goal

pub returns-in_default-read_part-clause-err : goal.returns-in_default-read_part-clause-err
returns-in_default-read_part-clause-err c =
    let read = subst (λ o. IsRead c.args.text.now c.loop-rest.strokes.items (option_map (λ rest. rest.now) o)) c.in-Some.is c.loop-rest.invariant in
    let none = c.in_default-read_part.ensures.part in
    none_next c.args.text.now c.loop-rest.strokes.items c.in-Some.bytes.now none.0 read none.1 ∙ ap (λ n. Some n) (sym (c.len.ensures ∙ (c.loop-rest.strokes.ok).0))

pub returns-clause-ok : goal.returns-clause-ok
returns-clause-ok c = all_read c.args.text.now c.loop-rest.strokes.items (subst (λ o. IsRead c.args.text.now c.loop-rest.strokes.items (option_map (λ rest. rest.now) o)) c.in_default.is c.loop-rest.invariant)

pub returns-clause-fits : goal.returns-clause-fits
returns-clause-fits c = strokes-fit c.args.text.now c.loop-rest.strokes.items (returns-clause-ok c)
