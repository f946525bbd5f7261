use Rattle.std.proofs.Common.{◌+◌, ◌/◌, ◌^◌, ap, arith, sym, ◌∙◌}
use Rattle.std.specs.Int.{trailing_zeros, w32}
use Rattle.steno_order.proofs.Writes.{lowest_left, rest_behind, rest_first, rest_none}
use Rattle.steno_order.proofs.writing.pressed_from.Goals as goal

pub returns-then-rest-eq0-clause-pressed : goal.returns-then-rest-eq0-clause-pressed
returns-then-rest-eq0-clause-pressed c =
    rest_none c.args.stroke c.args.key c.args.end c.requires.order (ap (λ code. code / 2 ^ c.args.key) (sym c.code.ensures.code) ∙ c.if-rest-eq0.true)

pub returns-then-pressed-end-clause-pressed : goal.returns-then-pressed-end-clause-pressed
returns-then-pressed-end-clause-pressed c =
    rest_first c.args.stroke c.args.key c.args.end (c.args.key + trailing_zeros w32 (c.code.result / 2 ^ c.args.key)) (lowest_left c.args.stroke c.code.result c.args.key c.code.ensures.code (omega (arith, c.code.ensures.range)) (omega (arith, c.requires.order, c.requires.keys)) c.if-rest-eq0.false) c.if-pressed-end.true

pub returns-else-pressed-end-clause-pressed : goal.returns-else-pressed-end-clause-pressed
returns-else-pressed-end-clause-pressed c =
    rest_behind c.args.stroke c.args.key c.args.end (c.args.key + trailing_zeros w32 (c.code.result / 2 ^ c.args.key)) c.requires.order (lowest_left c.args.stroke c.code.result c.args.key c.code.ensures.code (omega (arith, c.code.ensures.range)) (omega (arith, c.requires.order, c.requires.keys)) c.if-rest-eq0.false) (omega (arith, c.if-pressed-end.false))
