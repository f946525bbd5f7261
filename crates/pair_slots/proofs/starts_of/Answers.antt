use Rattle.std.proofs.Common.{◌≡◌, ◌∙◌, arith, ap, length}
use Rattle.std.proofs.lemmas.List.{get_or_read}
use Rattle.steno_rules.specs.Outlines.{outline_of}
use Rattle.pair_slots.specs.Slots.{inner_places}
use Rattle.pair_slots.proofs.Starts.{start_small}
use Rattle.pair_slots.proofs.starts_of.Goals as goal

pub overflow_add-end : goal.overflow_add-end
overflow_add-end c =
    let outlines = c.args.outlines.now in
    let n = c.loop-outline.outline-index in
    let read : c.outline-item.result ≡ outline_of outlines n = get_or_read outlines n c.outline-item.result (omega arith) c.outline-item.is _ in
    let added : c.saturating_sub.result ≡ inner_places (outline_of outlines n) = omega (arith, c.saturating_sub.ensures, ap length (c.strokes.ensures.strokes ∙ read)) in
    let small = start_small outlines n c.loop-outline.end c.saturating_sub.result c.loop-outline.starts.items c.requires.outlines c.requires.few (omega arith) added c.loop-outline.invariant in
    omega (arith, small)
