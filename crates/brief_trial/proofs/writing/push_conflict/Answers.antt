use Rattle.std.specs.Prelude.{decimal}
use Rattle.report.specs.Reports.{words_text}
use Rattle.brief_trial.specs.Trials.{with_brief}
use Rattle.brief_trial.proofs.LineParts.{conflict_added}
use Rattle.brief_trial.proofs.writing.push_conflict.Goals as goal

pub returns : goal.returns
returns c =
    rw (
      c.in_ok-push.ensures.items,
      c.in_ok-push_words.ensures,
      c.words.ensures,
      c.in_ok-extend_from_slice-3.ensures.items,
      c.in_ok-push_number-2.ensures,
      c.from-2.ensures,
      c.strokes.ensures,
      c.in_ok-extend_from_slice-2.ensures.items,
      c.in_ok-push_number.ensures,
      c.from.ensures,
      c.place.ensures,
      c.in_ok-extend_from_slice.ensures.items,
    )
    (conflict_added c.args.page.now.items (decimal c.args.row.now.place) (decimal c.args.row.now.strokes) (words_text (with_brief c.args.stack.now.outlines c.args.trial.now.brief) c.args.row.now.words))
