use Rattle.std.proofs.Common.{map}
use Rattle.std.specs.Prelude.{decimal}
use Rattle.text_rules.specs.Lines.{barred}
use Rattle.steno_order.specs.Canonical.{canonical_text}
use Rattle.report_json.proofs.RowAdded.{row_added}
use Rattle.report_json.proofs.lines.push_row_lines.Goals as goal

pub returns : goal.returns
returns c =
    rw (
      c.in_ok-push.ensures.items,
      c.in_ok-push_words.ensures,
      c.words.ensures,
      c.in_ok-extend_from_slice-4.ensures.items,
      c.in_ok-push_number-2.ensures,
      c.from-2.ensures,
      c.strokes-2.ensures,
      c.in_ok-extend_from_slice-3.ensures.items,
      c.in_ok-push_number.ensures,
      c.from.ensures,
      c.place.ensures,
      c.in_ok-extend_from_slice-2.ensures.items,
      c.in_ok-push_outline.ensures,
      c.strokes.ensures.strokes,
      c.outline.ensures,
      c.in_ok-extend_from_slice.ensures.items,
    )
    (row_added c.args.page.now.items (canonical_text c.args.row.now.outline) (decimal c.args.row.now.place) (decimal c.args.row.now.strokes) (barred (map canonical_text c.args.row.now.words)))
