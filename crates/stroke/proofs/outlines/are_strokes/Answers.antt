use Rattle.std.proofs.Common.{All, subst, sym, take, get_or, ◌∙◌}
use Rattle.std.proofs.lemmas.List.{take_more, take_all}
use Rattle.std.proofs.lemmas.List.Elements.{All-push}
use Rattle.steno_rules.specs.Outlines.{IsStroke}
use Rattle.stroke.proofs.outlines.are_strokes.Goals as goal

pub loop-stroke-preserved : goal.loop-stroke-preserved
loop-stroke-preserved c =
    let strokes = c.args.strokes.now in
    let here = get_or strokes c.loop-stroke.stroke-index c.stroke-item.result in
    subst (All IsStroke) (sym (take_more strokes c.loop-stroke.stroke-index c.stroke-item.result c.loop-stroke-test.true))
    (All-push IsStroke (take c.loop-stroke.stroke-index strokes) here c.loop-stroke.invariant (subst IsStroke (c.code.ensures.code ∙ c.stroke-item.is) c.code.ensures.range))

pub returns : goal.returns
returns c = subst (All IsStroke) (take_all c.loop-stroke.stroke-index c.args.strokes.now c.loop-stroke-test.false) c.loop-stroke.invariant
