use Rattle.std.specs.Prelude.{decimal}
use Rattle.text_rules.specs.Quoted.{quoted}
use Rattle.report.proofs.RowLines.{key_added}
use Rattle.report.proofs.reports.push_skipped.Goals as goal

pub returns : goal.returns
returns c =
    rw (c.in_ok-push-2.ensures.items, c.in_ok-push_quoted.ensures, c.in_ok-push.ensures.items, c.in_ok-push_number.ensures, c.in_ok-extend_from_slice.ensures.items)
    (key_added c.args.page.now.items (decimal c.args.number) (quoted c.args.key.now))
