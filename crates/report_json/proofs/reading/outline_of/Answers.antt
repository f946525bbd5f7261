use Rattle.std.proofs.Common.{subst}
use Rattle.steno_order.specs.Faults.{IsOutlineCause}
use Rattle.report_json.proofs.CanonicalTexts.{long_text, too_long_text, unreadable_text}
use Rattle.report_json.proofs.reading.outline_of.Goals as goal

pub returns-then-text-gt-MOST-clause-err : goal.returns-then-text-gt-MOST-clause-err
returns-then-text-gt-MOST-clause-err c = λ a is e. long_text c.args.text.now a c.if-text-gt-MOST.true is e

pub returns-in-Err-Unreadable-clause-err : goal.returns-in-Err-Unreadable-clause-err
returns-in-Err-Unreadable-clause-err c = λ a is e. unreadable_text c.args.text.now a _ (subst (IsOutlineCause c.args.text.now) c.in-Err-Unreadable.field-0-is c.in-Err-Unreadable.ensures.err) is e

pub returns-in-Err-TooLong-clause-err : goal.returns-in-Err-TooLong-clause-err
returns-in-Err-TooLong-clause-err c = λ a is e.
    let cause = subst (IsOutlineCause c.args.text.now) c.in-Err-TooLong.field-0-is c.in-Err-TooLong.ensures.err in
    too_long_text c.args.text.now a cause.0 _ cause.1 cause.2 cause.3 is e
