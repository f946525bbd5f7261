use Rattle.std.proofs.Common.{◌≡◌, ◌∙◌, ◌-◌, ap, sym, arith, rules, length, get_or}
use Rattle.pair_slots.specs.Slots.{first_slot}
use Rattle.std.proofs.lemmas.List.{get_or_default}
use Rattle.cert_check.proofs.LeastLemmas.{note_next, note_all, note_begin}
use Rattle.cert_check.proofs.pairs.least_distances.Goals as goal

pub returns : goal.returns
returns c = note_all c.args.numbering.now c.args.places.now c.loop-state.state c.loop-state.slots.items (omega (arith, c.loop-state-test.false)) c.loop-state.invariant.least

pub loop-state-preserved : goal.loop-state-preserved
loop-state-preserved c = record {
  count = c.note.ensures.count ∙ c.loop-state.invariant.count;
  least = note_next c.args.numbering.now c.args.places.now c.loop-state.state _ c.loop-state.slots.items c.note.new.slots.items c.loop-state-test.true (get_or_default c.args.places.now c.loop-state.state _ _ c.loop-state-test.true) c.note.ensures.noted c.loop-state.invariant.least;
}

pub loop-state-init : goal.loop-state-init
loop-state-init c =
    let all = c.in_ok-slots.ensures.items_if_clones_equal (λ y h. search rules) in
    let starts = c.requires.starts in
    let n = length c.args.numbering.now.entries in
    let last : length c.args.starts.now - 1 ≡ n = omega (arith, starts.count) in
    let count : length c.in_ok-slots.slots.items ≡ first_slot c.args.numbering.now.entries n =
    sym c.in_ok-slots.slots.ok.0 ∙ (c.in_ok-slots.ensures.len ∙ (ap (λ k. get_or c.args.starts.now k 0) last ∙ starts.each n (omega arith))) in
    record { count = count; least = note_begin c.args.numbering.now c.in_ok-slots.slots.items _ all count }
