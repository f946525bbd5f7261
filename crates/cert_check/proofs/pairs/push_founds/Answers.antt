use Rattle.std.proofs.Common.{◌≡◌, ◌+◌, ◌-◌, ◌∙◌, ap, sym, arith, length, get_or, None, ◌++◌, [], append-nil}
use Rattle.steno_rules.specs.Outlines.{outline_of}
use Rattle.pair_slots.specs.Slots.{slot_of}
use Rattle.cert_check.specs.inside.LeastDistances.{found_if, founds_in}
use Rattle.cert_check.proofs.FoundLemmas.{founds_place, first_pairs, pair_at_place}
use Rattle.cert_check.proofs.pairs.push_founds.Goals as goal

pub returns : goal.returns
returns c =
    let e = c.args.entry in
    let outline = outline_of c.args.stack.now.outlines e in
    let long : length c.strokes.result.now ≡ length outline = ap length (c.strokes.ensures.strokes ∙ c.outline.ensures.outline) in
    let at : c.loop-place.place - 1 ≡ length outline - 1 = omega (arith, long, c.loop-place-test.false, c.loop-place.invariant.fits, c.loop-place.invariant.some) in
    c.loop-place.invariant.founds ∙ ap (λ n. c.args.founds.now.items ++ founds_in c.args.stack.now.outlines c.args.slots.now (first_pairs e n)) at

pub loop-place-preserved : goal.loop-place-preserved
loop-place-preserved c =
    let e = c.args.entry in
    let place = c.loop-place.place in
    let slot : get_or c.args.starts.now e 0 + (place - 1) ≡ slot_of c.args.stack.now.outlines e place = ap (λ k. k + (place - 1)) (c.requires.starts.each e (omega (arith, c.requires.entry))) in
    record {
      some = omega (arith, c.loop-place.invariant.some);
      fits = omega (arith, c.loop-place-test.true);
      founds =
          founds_place c.args.stack.now.outlines c.args.slots.now e place c.loop-place.founds.items c.push_found.new.founds.items c.loop-place.invariant.some
          (c.in_ok-push_found.ensures ∙ ap (λ k. c.loop-place.founds.items ++ found_if (pair_at_place e place) (get_or c.args.slots.now k None)) slot)
          c.args.founds.now.items c.loop-place.invariant.founds;
    }

pub loop-place-init : goal.loop-place-init
loop-place-init c =
    let some = c.requires.entries.not_empty c.args.entry [] c.requires.entry in
    record {
      some = omega arith;
      fits = omega (arith, some, ap length (c.strokes.ensures.strokes ∙ c.outline.ensures.outline));
      founds = sym (append-nil c.args.founds.now.items);
    }
