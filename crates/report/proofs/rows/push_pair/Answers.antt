use Rattle.std.specs.Prelude.{decimal}
use Rattle.report.specs.Reports.{outline_text}
use Rattle.report.proofs.RowLines.{pair_added}
use Rattle.report.proofs.rows.push_pair.Goals as goal

pub returns : goal.returns
returns c =
    rw (
      c.in_ok-push-2.ensures.items,
      c.in_ok-push_number-2.ensures,
      c.from-2.ensures,
      c.strokes.ensures,
      c.in_ok-extend_from_slice-4.ensures.items,
      c.in_ok-push_number.ensures,
      c.from.ensures,
      c.place.ensures,
      c.in_ok-extend_from_slice-3.ensures.items,
      c.in_ok-extend_from_slice-2.ensures.items,
      c.outline.ensures,
      c.entry.ensures,
      c.in_ok-push.ensures.items,
      c.in_ok-extend_from_slice.ensures.items,
    )
    (pair_added c.args.page.now.items c.args.name.now (outline_text c.args.index.now.outlines c.args.row.now.entry) (decimal c.args.row.now.place) (decimal c.args.row.now.strokes))
