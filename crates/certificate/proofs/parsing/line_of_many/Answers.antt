use Rattle.std.proofs.Common.{◌∙◌, sym, arith}
use Rattle.certificate.proofs.RowLines.{row_line}
use Rattle.certificate.proofs.parsing.line_of_many.Goals as goal

pub returns-in_ok-words-in-Ok : goal.returns-in_ok-words-in-Ok
returns-in_ok-words-in-Ok c =
    let few = c.in-Ok.ensures.0 in
    row_line c.args.name.now c.args.numbers.now c.in_ok-words-in-Ok.words.items c.in-Ok.place c.new-conflict.result
    c.requires (λ i. let fit = c.type_inv.numbers i in omega arith) (sym c.is.ensures ∙ c.if-not-is.false)
    (rw (c.in-Ok.ensures.1) few) c.in-Ok.ensures.1 (c.in_ok-words-in-Ok.ensures.items_if_clones_equal (λ x y same. same)) c.new-conflict.ensures
