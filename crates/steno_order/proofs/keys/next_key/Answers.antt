use Rattle.std.proofs.Common.{◌^◌, ◌/◌, ◌+◌, sym}
use Rattle.std.specs.Int.{trailing_zeros, w32}
use Rattle.steno_order.proofs.NextKeys.{has_keys-KeysOf, next_none, next_some, lowest, positive}
use Rattle.steno_order.proofs.keys.next_key.Goals as goal

pub returns-then-keys-eq0-clause-first : goal.returns-then-keys-eq0-clause-first
returns-then-keys-eq0-clause-first c = sym (next_none c.args.byte c.keys_of.result c.args.next (has_keys-KeysOf c.args.byte c.keys_of.result c.keys_of.ensures) c.if-keys-eq0.true)

pub returns-clause-first : goal.returns-clause-first
returns-clause-first c =
    let keys = has_keys-KeysOf c.args.byte c.keys_of.result c.keys_of.ensures in
    sym (next_some c.args.byte c.keys_of.result c.args.next (c.args.next + trailing_zeros w32 (c.keys_of.result / 2 ^ c.args.next)) keys (lowest c.keys_of.result c.args.next keys.below c.requires (positive _ c.if-keys-eq0.false)))

pub returns-clause-below : goal.returns-clause-below
returns-clause-below c =
    let keys = has_keys-KeysOf c.args.byte c.keys_of.result c.keys_of.ensures in
    (lowest c.keys_of.result c.args.next keys.below c.requires (positive _ c.if-keys-eq0.false)).within
