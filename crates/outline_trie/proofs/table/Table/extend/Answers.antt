use Rattle.std.proofs.Common.{◌≡◌, ◌+◌, length, get_or, ap, ◌∙◌, arith, [], refl}
use Rattle.std.proofs.lemmas.List.{get_or_read}
use Rattle.steno_rules.specs.Outlines.{outline_of}
use Rattle.outline_trie.proofs.ExtendLemmas.{extend_start, extend_more, extend_bound, extend_below}
use Rattle.outline_trie.proofs.table.Table.extend.Goals as goal

pub loop-place-init : goal.loop-place-init
loop-place-init c = record {
  so_far = extend_start c.args.entries.now c.args.number c.requires.entries c.requires.number c.args.from _ _ _ _ c.args.top c.requires.from c.requires.table c.requires.numbers c.requires.inside c.requires.top;
  places = c.requires.places;
}

pub overflow_cast-next : goal.overflow_cast-next
overflow_cast-next c =
    let e : c.strokes-strokes.result.now ≡ outline_of c.args.entries.now c.args.number = c.strokes-strokes.ensures.strokes ∙ get_or_read c.args.entries.now c.args.number _ c.requires.number c.index-entries-number.is [] in
    let bound = extend_bound c.args.entries.now c.args.number c.requires.entries c.requires.number c.loop-place.place (omega (arith, c.requires.from)) (omega (arith, ap length e)) in
    omega (arith, bound, c.len-next.ensures, c.loop-place.invariant.so_far.table.parents_long, c.requires.bound)

pub push-requires-clause-parents : goal.push-requires-clause-parents
push-requires-clause-parents c =
    let e : c.strokes-strokes.result.now ≡ outline_of c.args.entries.now c.args.number = c.strokes-strokes.ensures.strokes ∙ get_or_read c.args.entries.now c.args.number _ c.requires.number c.index-entries-number.is [] in
    let below = extend_below c.args.entries.now c.args.number c.requires.entries c.requires.number c.loop-place.place (omega (arith, c.requires.from)) (omega (arith, ap length e)) in
    omega (arith, below, c.loop-place.invariant.so_far.table.parents_long, c.loop-place.invariant.places.in_parents)

pub push-requires-clause-strokes : goal.push-requires-clause-strokes
push-requires-clause-strokes c =
    let e : c.strokes-strokes.result.now ≡ outline_of c.args.entries.now c.args.number = c.strokes-strokes.ensures.strokes ∙ get_or_read c.args.entries.now c.args.number _ c.requires.number c.index-entries-number.is [] in
    let below = extend_below c.args.entries.now c.args.number c.requires.entries c.requires.number c.loop-place.place (omega (arith, c.requires.from)) (omega (arith, ap length e)) in
    omega (arith, below, c.loop-place.invariant.so_far.table.strokes_long, c.loop-place.invariant.places.in_strokes)

pub push-requires-clause-depths : goal.push-requires-clause-depths
push-requires-clause-depths c =
    let e : c.strokes-strokes.result.now ≡ outline_of c.args.entries.now c.args.number = c.strokes-strokes.ensures.strokes ∙ get_or_read c.args.entries.now c.args.number _ c.requires.number c.index-entries-number.is [] in
    let below = extend_below c.args.entries.now c.args.number c.requires.entries c.requires.number c.loop-place.place (omega (arith, c.requires.from)) (omega (arith, ap length e)) in
    omega (arith, below, c.loop-place.invariant.so_far.table.depths_long, c.loop-place.invariant.places.in_depths)

pub push-requires-clause-numbers : goal.push-requires-clause-numbers
push-requires-clause-numbers c =
    let e : c.strokes-strokes.result.now ≡ outline_of c.args.entries.now c.args.number = c.strokes-strokes.ensures.strokes ∙ get_or_read c.args.entries.now c.args.number _ c.requires.number c.index-entries-number.is [] in
    let below = extend_below c.args.entries.now c.args.number c.requires.entries c.requires.number c.loop-place.place (omega (arith, c.requires.from)) (omega (arith, ap length e)) in
    omega (arith, below, c.loop-place.invariant.so_far.numbered.long, c.loop-place.invariant.places.in_numbers)

pub loop-place-preserved : goal.loop-place-preserved
loop-place-preserved c =
    let e : c.strokes-strokes.result.now ≡ outline_of c.args.entries.now c.args.number = c.strokes-strokes.ensures.strokes ∙ get_or_read c.args.entries.now c.args.number _ c.requires.number c.index-entries-number.is [] in
    record {
      so_far = rw (c.push.ensures.parents, c.push.ensures.strokes, c.push.ensures.depths, c.push.ensures.numbers) (
          extend_more c.args.entries.now c.args.number c.requires.entries c.requires.number c.loop-place.place _ _ _ _ c.loop-place.node c.index-strokes-place.result (c.loop-place.place + 1) c.len-next.result
          (omega (arith, c.requires.from)) (omega (arith, ap length e))
          (get_or_read c.strokes-strokes.result.now c.loop-place.place _ c.loop-place-test.true c.index-strokes-place.is 0 ∙ ap (λ xs. get_or xs c.loop-place.place 0) e) refl (omega (arith, c.len-next.ensures)) c.loop-place.invariant.so_far
          );
      places = c.push.ensures.places _ c.loop-place.invariant.places;
    }
