use Rattle.std.proofs.Common.{◌∙◌, ap, ap₂, fold, arith, length}
use Rattle.dict_stack.specs.Appearances.{with_new}
use Rattle.dict_stack.proofs.StrokeLemmas.{strokes_more}
use Rattle.dict_stack.proofs.stroke_numbers.StrokeNumbers.of.Goals as goal

pub loop-outline-preserved : goal.loop-outline-preserved
loop-outline-preserved c = record {
  strokes =
      c.in_ok-add_strokes.ensures.strokes
      ∙ ap₂ (fold with_new) c.loop-outline.invariant.strokes c.strokes.ensures.strokes
      ∙ strokes_more c.args.outlines.now c.loop-outline.outline-index c.outline-item.result c.loop-outline-test.true c.outline-item.is;
  few = omega (arith, c.in_ok-add_strokes.ensures.few, c.loop-outline.invariant.few, ap length c.strokes.ensures.strokes, c.strokes.ensures.few);
}
