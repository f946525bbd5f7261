use Rattle.std.proofs.Common.{◌∙◌, ◌+◌, ap, arith, sym}
use Rattle.std.specs.Prelude.{count_by, ◌==◌}
use Rattle.std.proofs.lemmas.List.{take_all}
use Rattle.std.proofs.lemmas.List.Splits.{length-slice_split}
use Rattle.commands.proofs.typed.part_count.Goals as goal

pub returns : goal.returns
returns c =
    let text = c.args.text.now in
    let separator = c.args.separator in
    let whole = take_all c.loop-byte.byte-index text (omega (arith, c.loop-byte-test.false, c.as_bytes-byte-items.ensures.len)) in
    c.loop-byte.invariant.0 ∙ ap (λ l. count_by (λ c. c == separator) l + 1) whole ∙ sym (length-slice_split (λ c. c == separator) text)
