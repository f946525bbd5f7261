use Rattle.std.proofs.Common.{arith, ◌+◌}
use Rattle.std.proofs.lemmas.List.Sums.{fold_more}
use Rattle.text_rules.proofs.Values.{with_digit, le-prefix}
use Rattle.commands.proofs.numbers.value.Goals as goal

pub returns-then-next-from : goal.returns-then-next-from
returns-then-next-from c =
    let more = fold_more with_digit 0 c.args.text.now c.loop-byte.byte-index 0 c.loop-byte-test.true in
    let whole = le-prefix c.args.text.now (c.loop-byte.byte-index + 1) in
    omega arith
