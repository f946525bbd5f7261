use Rattle.std.proofs.Common.{rules, ◌<◌, ◌≡◌, ◌^◌, ◌∙◌, [], get_or, ap}
use Rattle.std.proofs.lemmas.List.{get_or_read}
use Rattle.steno_rules.specs.Outlines.{outline_of}
use Rattle.steno_rules.specs.Conflicts.{outlines_of}
use Rattle.report_json.proofs.JsonRows.{made_row}
use Rattle.report_json.proofs.making.row.Goals as goal

pub returns-clause-is_row : goal.returns-clause-is_row
returns-clause-is_row c =
    let fits : c.strokes.result < 2 ^ 32 = search (rules, c.strokes.type_inv) in
    let words : c.in_ok-words_of.field-0.items ≡ outlines_of c.args.outlines.now c.args.conflict.now.words =
    c.in_ok-words_of.ensures ∙ ap (outlines_of c.args.outlines.now) c.words.ensures in
    let outline : c.in_ok-copy.field-0 ≡ outline_of c.args.outlines.now c.args.conflict.now.entry =
    c.in_ok-copy.ensures ∙ get_or_read c.args.outlines.now c.args.conflict.now.entry _ c.requires.small.entry (c.index-outlines-entry.is ∙ ap (λ i. get_or c.args.outlines.now i c.index-outlines-entry.result) c.entry.ensures) [] in
    made_row c.args.outlines.now c.args.conflict.now
    (record { outline = c.in_ok-copy.field-0; place = c.place.result; strokes = c.strokes.result; words = c.in_ok-words_of.field-0.items })
    c.requires.outlines c.requires.small c.requires.inner outline c.place.ensures words fits
