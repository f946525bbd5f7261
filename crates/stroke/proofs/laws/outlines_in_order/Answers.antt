use Rattle.steno_rules.proofs.InOrder.{in_order-rising, in_order-Contains}
use Rattle.stroke.proofs.laws.outlines_in_order.Goals as goal

pub returns : goal.returns
returns c = record { rising = in_order-rising; members = in_order-Contains }
