use Rattle.std.proofs.Common.{◌+◌, ◌≤◌, subst, sym, ap, ◌∙◌, length}
use Rattle.std.specs.Prelude.{Some, IfErr, option_map}
use Rattle.std.proofs.lemmas.Result.{err_from_is_err_and}
use Rattle.steno_order.specs.Faults.{IsOutlineCause}
use Rattle.steno_rules.specs.Outlines.{IsOutline, most_strokes}
use Rattle.steno_order.proofs.ListLaws.{spelt_strokes-IsOutline}
use Rattle.steno_order.proofs.StrokesRead.{IsHeld, all_read, none_next, one_held, less_left}
use Rattle.steno_order.proofs.reading.read_outline.Goals as goal

pub returns-in_default-read_part-clause-err : goal.returns-in_default-read_part-clause-err
returns-in_default-read_part-clause-err c =
    let h = subst (λ o. IsHeld c.args.text.now c.loop-rest.strokes c.loop-rest.parts (option_map (λ rest. rest.now) o)) c.in-Some.is c.loop-rest.invariant in
    let none = c.in_default-read_part.ensures.part in
    none_next c.args.text.now h.strokes c.in-Some.bytes.now none.0 h.read none.1 ∙ ap (λ n. Some n) h.count

pub loop-rest-preserved : goal.loop-rest-preserved
loop-rest-preserved c =
    let h = subst (λ o. IsHeld c.args.text.now c.loop-rest.strokes c.loop-rest.parts (option_map (λ rest. rest.now) o)) c.in-Some.is c.loop-rest.invariant in
    let next = c.in-Some-read_part.ensures.part in
    let less = less_left c.in-Some-read_part.part.rest c.in-Some.bytes.now c.in-Some-read_part.ensures.shorter in
    subst (λ places. IsHeld c.args.text.now places (c.loop-rest.parts + 1) (option_map (λ rest. rest.now) c.in-Some-read_part.part.rest)) (sym c.put.ensures) (one_held c.args.text.now c.loop-rest.strokes c.in-Some.bytes.now c.loop-rest.parts c.in-Some-read_part.part.stroke (option_map (λ rest. rest.now) c.in-Some-read_part.part.rest) h next less)

pub returns-then-parts-gt-MAX-clause-err : goal.returns-then-parts-gt-MAX-clause-err
returns-then-parts-gt-MAX-clause-err c =
    let h = subst (λ o. IsHeld c.args.text.now c.loop-rest.strokes c.loop-rest.parts (option_map (λ rest. rest.now) o)) c.in_default.is c.loop-rest.invariant in
    (h.strokes, all_read c.args.text.now h.strokes h.read, h.count, c.if-parts-gt-MAX.true)

pub returns-clause-ok : goal.returns-clause-ok
returns-clause-ok c =
    let h = subst (λ o. IsHeld c.args.text.now c.loop-rest.strokes c.loop-rest.parts (option_map (λ rest. rest.now) o)) c.in_default.is c.loop-rest.invariant in
    all_read c.args.text.now h.strokes h.read ∙ ap (λ l. Some l) (sym (h.held c.if-parts-gt-MAX.false) ∙ sym c.in_ok-from_strokes.ensures)

pub returns-clause-is_outline : goal.returns-clause-is_outline
returns-clause-is_outline c =
    let h = subst (λ o. IsHeld c.args.text.now c.loop-rest.strokes c.loop-rest.parts (option_map (λ rest. rest.now) o)) c.in_default.is c.loop-rest.invariant in
    let outline = spelt_strokes-IsOutline c.args.text.now h.strokes (all_read c.args.text.now h.strokes h.read) (subst (λ n. n ≤ most_strokes) (sym h.count) c.if-parts-gt-MAX.false) in
    subst IsOutline (sym (h.held c.if-parts-gt-MAX.false) ∙ sym c.in_ok-from_strokes.ensures) outline

pub returns-in_err-from_strokes-clause-err : goal.returns-in_err-from_strokes-clause-err
returns-in_err-from_strokes-clause-err c =
    let h = subst (λ o. IsHeld c.args.text.now c.loop-rest.strokes c.loop-rest.parts (option_map (λ rest. rest.now) o)) c.in_default.is c.loop-rest.invariant in
    let p = err_from_is_err_and c.from_residual.result c.from_residual.ensures.1 in
    subst (λ r. IfErr r (IsOutlineCause c.args.text.now)) (sym p.1) (subst (IsOutlineCause c.args.text.now) (sym p.2)
    (h.strokes, all_read c.args.text.now h.strokes h.read, subst (λ n. n ≤ most_strokes) (sym h.count) c.if-parts-gt-MAX.false))
