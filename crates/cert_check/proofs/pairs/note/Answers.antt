use Rattle.std.proofs.Common.{◌≡◌, ◌+◌, ◌-◌, ap, arith, get_or}
use Rattle.pair_slots.specs.Slots.{slot_of}
use Rattle.pair_slots.proofs.Slots.{slot_below, hit_inside}
use Rattle.cert_check.proofs.LeastLemmas.{note_empty, note_none, note_hit}
use Rattle.cert_check.proofs.pairs.note.Goals as goal

pub returns-then-place-eq0-clause-noted : goal.returns-then-place-eq0-clause-noted
returns-then-place-eq0-clause-noted c = note_empty c.args.numbering.now c.args.state c.args.place c.args.slots.now.items (omega (arith, c.if-place-eq0.true))

pub returns-in-Some-clause-noted : goal.returns-in-Some-clause-noted
returns-in-Some-clause-noted c =
    let v = c.args.numbering.now in
    let hit = c.in-Some.hit in
    let h = c.in-Some.ensures in
    let at : get_or c.args.starts.now hit.entry 0 + (hit.place - 1) ≡ slot_of v.entries hit.entry hit.place = ap (λ k. k + (hit.place - 1)) (c.requires.starts.each hit.entry (omega (arith, h.entry))) in
    let below = slot_below v.entries hit.entry hit.place (hit_inside v.entries h.state hit.entry hit.place h.entry h.hit) in
    note_hit v c.args.state (get_or c.args.starts.now hit.entry 0 + (hit.place - 1)) c.args.place hit c.args.slots.now.items c.keep_least.new.slots.items c.requires.entries (λ none. omega (arith, none, c.if-place-eq0.false)) h at
    (omega (arith, at, below, c.requires.slots)) c.keep_least.ensures

pub returns-in-None-clause-noted : goal.returns-in-None-clause-noted
returns-in-None-clause-noted c = note_none c.args.numbering.now c.args.state c.args.place c.args.slots.now.items (λ none. omega (arith, none, c.if-place-eq0.false)) c.in-None.ensures
