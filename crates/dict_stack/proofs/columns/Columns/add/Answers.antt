use Rattle.std.proofs.Common.{◌≡◌, ◌∙◌, ◌++◌, ◌∷◌, [], sym, ap, ap₂, refl, false, true, arith}
use Rattle.dict_stack.specs.inside.Candidates.{candidate_outline, is_end}
use Rattle.dict_stack.proofs.ColumnLemmas.{merged_new, merged_same, or_last_is}
use Rattle.dict_stack.proofs.EndLemmas.{is_end-some}
use Rattle.dict_stack.proofs.columns.Columns.add.Goals as goal

pub returns-then-is_last-clause-adds : goal.returns-then-is_last-clause-adds
returns-then-is_last-clause-adds c = λ before is sorted.
    let end : is_end c.args.self.now.outlines.items (candidate_outline c.args.candidate) ≡ true =
    ap₂ is_end (sym c.deref.ensures.value) (sym c.into_parts-outline.ensures.outline) ∙ sym c.is_last.ensures ∙ c.if-is_last.true in
    let some = is_end-some c.args.self.now.outlines.items (candidate_outline c.args.candidate) end in
    merged_same before c.args.candidate c.args.self.now _ is sorted end refl refl refl
    (or_last_is c.args.self.now.words.items c.len-last.result c.index_mut.result.now c.args.candidate.is_word (omega (arith, c.len-last.ensures)) (omega (arith, some, c.len-last.ensures, c.requires)) c.index_mut.ensures.value)

pub returns-clause-adds : goal.returns-clause-adds
returns-clause-adds c = λ before is sorted.
    let end : is_end c.args.self.now.outlines.items (candidate_outline c.args.candidate) ≡ false =
    ap₂ is_end (sym c.deref.ensures.value) (sym c.into_parts-outline.ensures.outline) ∙ sym c.is_last.ensures ∙ c.if-is_last.false in
    merged_new before c.args.candidate c.args.self.now _ is sorted end
    (c.in_ok-push.ensures.items ∙ ap (λ o. c.args.self.now.outlines.items ++ o ∷ []) c.into_parts-outline.ensures.outline)
    (c.in_ok-push-2.ensures.items ∙ ap (λ o. c.args.self.now.texts.items ++ o ∷ []) c.into_parts-outline.ensures.text)
    c.in_ok-push-3.ensures.items c.in_ok-push-4.ensures.items
