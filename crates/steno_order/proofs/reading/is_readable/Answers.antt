use Rattle.std.proofs.Common.{◌++◌, ◌∷◌, [], ap, subst, sym}
use Rattle.std.specs.Prelude.{is_some, option_map}
use Rattle.steno_order.proofs.StrokesRead.{IsRead, all_read, less_left, none_of_all, none_read, one_read}
use Rattle.steno_order.proofs.reading.is_readable.Goals as goal

pub loop-rest-init : goal.loop-rest-init
loop-rest-init c = ([], rw c.as_bytes.ensures.value (none_read c.args.text.now))

pub returns-in_default-read_part : goal.returns-in_default-read_part
returns-in_default-read_part c =
    let strokes = c.loop-rest.invariant.0 in
    let read = subst (λ o. IsRead c.args.text.now strokes (option_map (λ rest. rest.now) o)) c.in-Some.is c.loop-rest.invariant.1 in
    let none = c.in_default-read_part.ensures.part in
    sym (ap is_some (none_of_all c.args.text.now strokes c.in-Some.bytes.now none.0 read none.1))

pub loop-rest-preserved : goal.loop-rest-preserved
loop-rest-preserved c =
    let strokes = c.loop-rest.invariant.0 in
    let read = subst (λ o. IsRead c.args.text.now strokes (option_map (λ rest. rest.now) o)) c.in-Some.is c.loop-rest.invariant.1 in
    let part = c.in-Some-read_part.part in
    (strokes ++ part.stroke ∷ [], one_read c.args.text.now strokes c.in-Some.bytes.now part.stroke (option_map (λ rest. rest.now) part.rest) read c.in-Some-read_part.ensures.part (less_left part.rest c.in-Some.bytes.now c.in-Some-read_part.ensures.shorter))

pub returns : goal.returns
returns c =
    let strokes = c.loop-rest.invariant.0 in
    sym (ap is_some (all_read c.args.text.now strokes (subst (λ o. IsRead c.args.text.now strokes (option_map (λ rest. rest.now) o)) c.in_default.is c.loop-rest.invariant.1)))
