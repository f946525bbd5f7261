use Rattle.std.proofs.Common.{All, subst, sym}
use Rattle.std.proofs.lemmas.List.Elements.{All-push}
use Rattle.steno_rules.specs.Outlines.{IsOutline}
use Rattle.report_json.specs.inside.Tokens.{word_tokens}
use Rattle.report_json.proofs.TokensTaken.{one_more}
use Rattle.report_json.proofs.taking.take_words.Goals as goal

pub words-preserved : goal.words-preserved
words-preserved c =
    let items = c.in_ok-push.ensures.items in
    record {
      taken = one_more word_tokens c.words.words.items _ c.in_ok-take_outline.field-0 c.args.reader.now c.words.reader c.take_end_array.new.self c.take_outline.new.reader c.words.invariant.taken c.words-test.ensures.1 c.in_ok-take_outline.ensures.taken items;
      are = subst (All IsOutline) (sym items) (All-push IsOutline _ _ c.words.invariant.are c.in_ok-take_outline.ensures.is_outline);
    }
