use Rattle.std.proofs.Common.{◌≡◌, ap, sym, ◌∙◌, take, fold, length, arith}
use Rattle.std.proofs.lemmas.List.Sums.{fold_more}
use Rattle.dict_stack.specs.Appearances.{with_new}
use Rattle.dict_stack.proofs.StrokeLemmas.{with_new-few}
use Rattle.dict_stack.proofs.stroke_numbers.add_strokes.Goals as goal

pub loop-stroke-preserved : goal.loop-stroke-preserved
loop-stroke-preserved c = record {
  strokes =
      c.in_ok-insert.ensures.keys
      ∙ ap (λ ks. with_new ks c.stroke-item.result) c.loop-stroke.invariant.strokes
      ∙ ap (with_new (fold with_new c.args.found.now.keys (take c.loop-stroke.stroke-index c.args.strokes.now))) c.stroke-item.is
      ∙ sym (fold_more with_new c.args.found.now.keys c.args.strokes.now c.loop-stroke.stroke-index c.stroke-item.result c.loop-stroke-test.true);
  few =
      let grown : length c.insert.new.self.keys ≡ length (with_new c.loop-stroke.found.keys c.stroke-item.result) = ap length c.in_ok-insert.ensures.keys in
      omega (arith, grown, with_new-few c.loop-stroke.found.keys c.stroke-item.result, c.loop-stroke.invariant.few);
}
