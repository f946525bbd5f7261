use Rattle.std.proofs.Common.{ℕ, ◌≡◌, ◌<◌, ◌≤◌, ◌+◌, ◌^◌, ◌-◌, ◌∙◌, List, [], ap, arith, get_or, length, map, min, string_bytes, sym, take, true≢false}
use Rattle.std.proofs.lemmas.List.{length-map}
use Rattle.std.proofs.lemmas.List.Sums.{sum_by_more, sum_by_more_le}
use Rattle.steno_order.specs.Spelling.{parts_of}
use Rattle.commands.specs.Commands.{strokes_written}
use Rattle.dict_files.proofs.Turns.{arg-turn}
use Rattle.commands.proofs.typed.few_strokes.Goals as goal

-- the strokes with those of the next outline
too_many : (args : List (List ℕ)) (i so_far next new : ℕ) → i < length args → so_far ≡ strokes_written (take i args) → next ≡ length (parts_of (get_or args i [])) → new ≡ min (so_far + next) (2 ^ 64 - 1) → 2 ^ 32 ≤ new → 2 ^ 32 ≤ strokes_written args
too_many args i so_far next new below before here sum over =
    let more = sum_by_more_le (λ outline. length (parts_of outline)) args i [] below in
    omega (arith, before, here, sum, over, more)

still_few : (args : List (List ℕ)) (i so_far next new : ℕ) → i < length args → so_far ≡ strokes_written (take i args) → next ≡ length (parts_of (get_or args i [])) → new ≡ min (so_far + next) (2 ^ 64 - 1) → new < 2 ^ 32 → new ≡ strokes_written (take (i + 1) args)
still_few args i so_far next new below before here sum few =
    let more = sum_by_more (λ outline. length (parts_of outline)) args i [] below in
    omega (arith, before, here, sum, few, more)

pub returns-then-strokes : goal.returns-then-strokes
returns-then-strokes c =
    let args = map string_bytes c.args.outlines.now in
    let within : c.loop-outline.outline-index < length args = omega (arith, length-map c.args.outlines.now string_bytes, c.loop-outline-test.true) in
    let turn = arg-turn c.args.outlines.now c.loop-outline.outline-index c.outline-item.result c.outline-item.is c.loop-outline-test.true in
    let next = c.part_count.ensures ∙ ap (λ o. length (parts_of o)) (c.as_str.ensures.value ∙ turn) in
    let many = too_many args c.loop-outline.outline-index c.loop-outline.strokes c.part_count.result c.saturating_add-strokes.result within c.loop-outline.invariant.0 next c.saturating_add-strokes.ensures c.if-strokes.true in
    ((λ f. absurd (true≢false (sym f))), (λ few. absurd (omega (arith, few, many))))

pub loop-outline-preserved : goal.loop-outline-preserved
loop-outline-preserved c =
    let args = map string_bytes c.args.outlines.now in
    let within : c.loop-outline.outline-index < length args = omega (arith, length-map c.args.outlines.now string_bytes, c.loop-outline-test.true) in
    let turn = arg-turn c.args.outlines.now c.loop-outline.outline-index c.outline-item.result c.outline-item.is c.loop-outline-test.true in
    let next = c.part_count.ensures ∙ ap (λ o. length (parts_of o)) (c.as_str.ensures.value ∙ turn) in
    (still_few args c.loop-outline.outline-index c.loop-outline.strokes c.part_count.result c.saturating_add-strokes.result within c.loop-outline.invariant.0 next c.saturating_add-strokes.ensures c.if-strokes.false, c.if-strokes.false)
