use Rattle.std.proofs.Common.{◌++◌, ap, ◌∙◌}
use Rattle.std.specs.Prelude.{string_bytes}
use Rattle.steno_order.specs.Canonical.{canonical}
use Rattle.steno_order.proofs.Writes.{first_and_others}
use Rattle.steno_order.proofs.writing.write_outline.Goals as goal

pub returns-in_ok-append_others-clause-ok : goal.returns-in_ok-append_others-clause-ok
returns-in_ok-append_others-clause-ok c =
    first_and_others c.args.strokes.now c.in-Some.first.now c.in-Some.others.now (string_bytes c.args.text.now) (string_bytes c.append.new.text) (string_bytes c.append_others.new.text)
    c.in-Some.ensures.cases.0
    (c.append.ensures.bytes ∙ ap (λ l. l ++ canonical c.in-Some.first.now) c.reserve.ensures.bytes)
    c.append_others.ensures.bytes
