use Rattle.std.proofs.Common.{◌≡◌, ◌∙◌, ◌++◌, sym, true≢false}
use Rattle.std.proofs.lemmas.Slice.Eq.{bytes_eq-Decides}
use Rattle.steno_order.specs.Canonical.{canonical_text}
use Rattle.report_json.proofs.CanonicalTexts.{other_text}
use Rattle.report_json.proofs.reading.if_canonical.Goals as goal

pub returns-else-eq-clause-err : goal.returns-else-eq-clause-err
returns-else-eq-clause-err c = λ a is e.
    let again = c.as_str.result.now in
    let written : again ≡ canonical_text c.args.outline =
    c.as_str.ensures.value ∙ c.in_ok-write_outline.ensures.ok ∙ (λ i. c.clear.ensures.bytes i ++ canonical_text (c.strokes.ensures.strokes i)) in
    other_text c.args.text.now c.args.outline again a c.requires.spelt written
    (λ same. true≢false (sym ((bytes_eq-Decides again c.args.text.now).1 same) ∙ sym c.if-eq.ensures)) is e
