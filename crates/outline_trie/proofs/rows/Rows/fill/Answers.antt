use Rattle.std.proofs.Common.{◌+◌, get_or, set, sym, subst, ◌∙◌, arith, refl}
use Rattle.std.proofs.lemmas.List.{get_or_read}
use Rattle.outline_trie.proofs.CountLemmas.{IsFilled, fill_place, fill_more, filled_none, count_below}
use Rattle.outline_trie.proofs.rows.Rows.fill.Goals as goal

pub loop-child-init : goal.loop-child-init
loop-child-init c = filled_none c.args.parents.now c.args.strokes.now _ _ c.requires.some c.requires.rows c.requires.filled c.requires.empty

pub write-requires-clause-place : goal.write-requires-clause-place
write-requires-clause-place c =
    let inside = c.requires.below c.loop-child.child 0 c.loop-child-test.true in
    let place = get_or_read c.loop-child.filled.items (get_or c.args.parents.now c.loop-child.child 0) _ (omega (arith, c.loop-child.invariant.filled_long, inside)) c.index-place.ensures 0 in
    let stroke = c.code.ensures.code ∙ get_or_read c.args.strokes.now c.loop-child.child _ (omega (arith, c.requires.long)) c.index-strokes-child.is 1 in
    fill_place c.args.parents.now c.args.strokes.now c.loop-child.filled.items c.loop-child.self c.loop-child.child (get_or c.args.parents.now c.loop-child.child 0) c.code.result c.index-place.result.now
    c.loop-child.invariant (omega arith) c.loop-child-test.true refl inside stroke place

pub overflow_add-place : goal.overflow_add-place
overflow_add-place c =
    let inside = c.requires.below c.loop-child.child 0 c.loop-child-test.true in
    let place = get_or_read c.loop-child.filled.items (get_or c.args.parents.now c.loop-child.child 0) _ (omega (arith, c.loop-child.invariant.filled_long, inside)) c.index-place.ensures 0 in
    omega (arith, place, c.loop-child.invariant.place (get_or c.args.parents.now c.loop-child.child 0) inside, count_below c.args.parents.now (get_or c.args.parents.now c.loop-child.child 0) c.loop-child.child, c.requires.few)

pub loop-child-preserved : goal.loop-child-preserved
loop-child-preserved c =
    let inside = c.requires.below c.loop-child.child 0 c.loop-child-test.true in
    let place = get_or_read c.loop-child.filled.items (get_or c.args.parents.now c.loop-child.child 0) _ (omega (arith, c.loop-child.invariant.filled_long, inside)) c.index-place.ensures 0 in
    let stroke = c.code.ensures.code ∙ get_or_read c.args.strokes.now c.loop-child.child _ (omega (arith, c.requires.long)) c.index-strokes-child.is 1 in
    subst (λ rows. IsFilled c.args.parents.now c.args.strokes.now (set c.loop-child.filled.items (get_or c.args.parents.now c.loop-child.child 0) (c.index-place.result.now + 1)) rows (c.loop-child.child + 1)) (sym c.write.ensures)
    (fill_more c.args.parents.now c.args.strokes.now c.loop-child.filled.items c.loop-child.self c.loop-child.child (get_or c.args.parents.now c.loop-child.child 0) c.code.result c.index-place.result.now
    c.loop-child.invariant (omega arith) c.loop-child-test.true refl inside stroke place)
