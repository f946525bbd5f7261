use Rattle.std.proofs.Common.{arith, subst}
use Rattle.steno_order.specs.Faults.{IsOutlineCause}
use Rattle.steno_order.proofs.ListLaws.{none-spelt_strokes}
use Rattle.commands.proofs.BriefTexts.{brief-few, brief-spelt}
use Rattle.commands.proofs.briefs.read_brief.Goals as goal

pub unreachable-requires : goal.unreachable-requires
unreachable-requires c =
    let cause = subst (IsOutlineCause c.args.text.now) c.in-Err-Unreadable.field-0-is c.in-Err-Unreadable.ensures.err in
    brief-spelt c.args.text.now c.requires.readable (none-spelt_strokes c.args.text.now _ cause)

pub unreachable-requires-in-Err-TooLong : goal.unreachable-requires-in-Err-TooLong
unreachable-requires-in-Err-TooLong c =
    let cause = subst (IsOutlineCause c.args.text.now) c.in-Err-TooLong.field-0-is c.in-Err-TooLong.ensures.err in
    let few = brief-few c.args.text.now cause.0 c.requires.readable cause.1 in
    absurd (omega (arith, few, cause.2, cause.3))
