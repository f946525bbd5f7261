use Rattle.std.proofs.Common.{ap, ◌∙◌}
use Rattle.std.specs.Prelude.{◌==◌, not}
use Rattle.std.specs.Int.Bits.{bit_and}
use Rattle.steno_order.proofs.Masks.{masked}
use Rattle.steno_order.proofs.writing.has_any.Goals as goal

pub returns : goal.returns
returns c = ap (λ code. not (bit_and code c.args.keys == 0)) c.code.ensures.code ∙ masked c.args.stroke c.args.keys c.requires
