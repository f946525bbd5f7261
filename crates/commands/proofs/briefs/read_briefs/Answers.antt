use Rattle.std.proofs.Common.{◌<◌, ◌≤◌, ◌∙◌, [], ap, arith, length, sym}
use Rattle.std.proofs.lemmas.List.{length-map}
use Rattle.std.proofs.lemmas.List.Sums.{AllPass-from_list_all}
use Rattle.std.proofs.lemmas.Bool.{and_parts}
use Rattle.std.specs.Prelude.{nat_le}
use Rattle.std.specs.List.{list_all}
use Rattle.brief_trial.specs.declared.briefs.TheConstants.{MAX_BRIEFS}
use Rattle.commands.specs.Commands.{brief_texts, comma, is_brief}
use Rattle.commands.proofs.BriefTexts.{are-outlines-more, outlines-more, part-short, some-outlines, text-turn}
use Rattle.steno_order.specs.Reading.{spelt_strokes}
use Rattle.commands.proofs.briefs.read_briefs.Goals as goal

pub read_brief-requires-clause-short : goal.read_brief-requires-clause-short
read_brief-requires-clause-short c =
    let i = c.loop-text.text-index in
    let turn = text-turn (λ text. text.now) c.in_ok-texts.texts.items c.deref-text-items.result.now (brief_texts c.args.briefs.now) i (record { ref_ptr = (0, 0); now = [] }) c.deref-text-items.ensures.value c.in_ok-texts.ensures c.loop-text-test.true in
    omega (arith, ap length turn, part-short comma c.args.briefs.now i, c.requires.short)

pub read_brief-requires-clause-readable : goal.read_brief-requires-clause-readable
read_brief-requires-clause-readable c =
    let i = c.loop-text.text-index in
    let texts = brief_texts c.args.briefs.now in
    let turn = text-turn (λ text. text.now) c.in_ok-texts.texts.items c.deref-text-items.result.now texts i (record { ref_ptr = (0, 0); now = [] }) c.deref-text-items.ensures.value c.in_ok-texts.ensures c.loop-text-test.true in
    let within : i < length texts = omega (arith, c.loop-text-test.true, ap length c.deref-text-items.ensures.value, ap length c.in_ok-texts.ensures, length-map c.in_ok-texts.texts.items (λ text. text.now)) in
    let all = (and_parts (nat_le (length texts) MAX_BRIEFS) (list_all is_brief texts) c.requires.briefs).1 in
    ap is_brief turn ∙ AllPass-from_list_all is_brief texts all i [] within

pub loop-text-preserved : goal.loop-text-preserved
loop-text-preserved c =
    let i = c.loop-text.text-index in
    let texts = brief_texts c.args.briefs.now in
    let turn = text-turn (λ text. text.now) c.in_ok-texts.texts.items c.deref-text-items.result.now texts i (record { ref_ptr = (0, 0); now = [] }) c.deref-text-items.ensures.value c.in_ok-texts.ensures c.loop-text-test.true in
    let within : i < length texts = omega (arith, c.loop-text-test.true, ap length c.deref-text-items.ensures.value, ap length c.in_ok-texts.ensures, length-map c.in_ok-texts.texts.items (λ text. text.now)) in
    let spelt = sym (ap spelt_strokes turn) ∙ c.in_ok-outline.ensures.spelt in (
      c.in_ok-push.ensures.items ∙ outlines-more texts i c.loop-text.outlines.items c.in_ok-outline.outline within c.loop-text.invariant.0 spelt,
      are-outlines-more c.loop-text.outlines.items c.push.new.self.items c.in_ok-outline.outline c.loop-text.invariant.1 c.in_ok-outline.ensures.outline c.in_ok-push.ensures.items,
    )

pub returns-clause-some : goal.returns-clause-some
returns-clause-some c =
    let texts = brief_texts c.args.briefs.now in
    let all : length texts ≤ c.loop-text.text-index = omega (arith, c.loop-text-test.false, ap length c.deref-text-items.ensures.value, ap length c.in_ok-texts.ensures, length-map c.in_ok-texts.texts.items (λ text. text.now)) in
    some-outlines comma c.args.briefs.now c.loop-text.text-index c.loop-text.outlines.items all c.loop-text.invariant.0
