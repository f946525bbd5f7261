use Rattle.std.proofs.Common.{arith}
use Rattle.certificate.proofs.RowLines.{row_fits}
use Rattle.certificate.proofs.Spaced.{row_text}
use Rattle.certificate.proofs.texts.push_row.Goals as goal

pub returns-clause-added : goal.returns-clause-added
returns-clause-added c =
    rw (c.in_ok-push-2.ensures.items, c.in_ok-push_spaced-2.ensures.added, c.words.ensures, c.in_ok-push_spaced.ensures.added, c.in_ok-push.ensures.items, c.strokes.ensures, c.from.ensures, c.place.ensures, c.entry.ensures)
    (row_text c.args.text.now.items c.args.conflict.now)

pub returns-clause-fit : goal.returns-clause-fit
returns-clause-fit c some =
    let place = c.place.ensures in
    row_fits c.args.conflict.now (rw (c.strokes.ensures, c.from.ensures, c.place.ensures, c.entry.ensures) at (c.in_ok-push_spaced.ensures.fit)) (omega arith)
    (rw (c.words.ensures) at (c.in_ok-push_spaced-2.ensures.fit)) some
