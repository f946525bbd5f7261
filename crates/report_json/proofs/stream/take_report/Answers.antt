use Rattle.std.proofs.Common.{refl}
use Rattle.report_json.proofs.stream.take_report.Goals as goal

pub returns-clause-taken : goal.returns-clause-taken
returns-clause-taken c =
    rw (
      c.in_ok-take_begin_object.ensures,
      c.in_ok-take_key.ensures,
      c.in_ok-take_begin_array.ensures,
      c.in_ok-rows.ensures.taken,
      c.in_ok-entries.ensures.taken,
      c.in_ok-folded.ensures.taken,
      c.in_ok-rounds.ensures.taken,
      c.in_ok-skipped.ensures.taken,
      c.in_ok-states.ensures.taken,
      c.in_ok-strokes.ensures.taken,
      c.in_ok-take_end_object.ensures,
    )
    refl
