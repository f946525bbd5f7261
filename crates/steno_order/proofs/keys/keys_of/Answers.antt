use Rattle.std.proofs.Common.{◌≡◌, ◌+◌, get_or, arith, refl, subst, true}
use Rattle.steno_order.specs.declared.keys.TheConstants.{KEYS}
use Rattle.steno_order.specs.inside.Steps.{has_keys}
use Rattle.steno_order.proofs.Ranges.{tested}
use Rattle.steno_order.proofs.keys.keys_of.Goals as goal

pub returns : goal.returns
returns c =
    let place = c.from.ensures in
    let same : c.from.result + 35 ≡ c.args.byte = omega (arith, place) in
    subst (λ b. has_keys b (get_or KEYS c.from.result 0) ≡ true) same (tested (λ i. has_keys (i + 35) (get_or KEYS i 0)) 0 56 refl c.from.result (omega arith) (omega (arith, place)))
