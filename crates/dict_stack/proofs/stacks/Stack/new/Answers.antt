use Rattle.std.proofs.Common.{◌≤◌, ◌∙◌, sym, ap, subst, length}
use Rattle.std.proofs.lemmas.Result.{err_from_is_err_and}
use Rattle.dict_stack.specs.Stacks.{all_outlines, most_entries}
use Rattle.dict_stack.specs.inside.Candidates.{IsCollected}
use Rattle.dict_stack.specs.Faults.{IsStackCause}
use Rattle.dict_stack.proofs.ViewLemmas.{view_is, view_stands, total_is, outlines_stand}
use Rattle.dict_stack.proofs.stacks.Stack.new.Goals as goal

pub returns-in_err-outlines-clause-err : goal.returns-in_err-outlines-clause-err
returns-in_err-outlines-clause-err c =
    let collected : IsCollected c.args.dictionaries.items c.args.word_files.items c.in_ok-candidates.field-0 =
    subst (λ l. IsCollected c.args.dictionaries.items l c.in_ok-candidates.field-0) c.deref.ensures.value c.in_ok-candidates.ensures in
    let p = err_from_is_err_and c.from_residual-in_err-outlines.result c.from_residual-in_err-outlines.ensures.1 in
    let cause : IsStackCause (all_outlines c.args.dictionaries.items) c.in_err-outlines.field-0.0 =
    subst (λ l. IsStackCause l c.in_err-outlines.field-0.0) (outlines_stand c.args.dictionaries.items c.args.word_files.items c.in_ok-candidates.field-0 collected) c.in_err-outlines.ensures.err in
    rw (p.1, p.2) cause

pub invariant_of-result : goal.invariant_of-result
invariant_of-result c =
    let collected : IsCollected c.args.dictionaries.items c.args.word_files.items c.in_ok-candidates.field-0 =
    subst (λ l. IsCollected c.args.dictionaries.items l c.in_ok-candidates.field-0) c.deref.ensures.value c.in_ok-candidates.ensures in
    let few : length c.in_ok-outlines.field-0.outlines.items ≤ most_entries = subst (λ l. length l ≤ most_entries) (sym c.in_ok-outlines.ensures.merged.outlines_are) c.in_ok-outlines.ensures.few in (
      view_stands c.args.dictionaries.items c.args.word_files.items c.in_ok-candidates.field-0 c.in_ok-outlines.field-0 c.requires.each collected c.in_ok-outlines.ensures.merged c.requires.few few,
      total_is c.args.dictionaries.items c.args.word_files.items c.in_ok-candidates.field-0 c.in_ok-outlines.field-0 c.requires.each collected c.in_ok-outlines.ensures.merged,
    )

pub returns-clause-stack : goal.returns-clause-stack
returns-clause-stack c =
    let collected : IsCollected c.args.dictionaries.items c.args.word_files.items c.in_ok-candidates.field-0 =
    subst (λ l. IsCollected c.args.dictionaries.items l c.in_ok-candidates.field-0) c.deref.ensures.value c.in_ok-candidates.ensures in
    view_is c.args.dictionaries.items c.args.word_files.items c.in_ok-candidates.field-0 c.in_ok-outlines.field-0 c.requires.each collected c.in_ok-outlines.ensures.merged

pub returns-clause-few_entries : goal.returns-clause-few_entries
returns-clause-few_entries c =
    let collected : IsCollected c.args.dictionaries.items c.args.word_files.items c.in_ok-candidates.field-0 =
    subst (λ l. IsCollected c.args.dictionaries.items l c.in_ok-candidates.field-0) c.deref.ensures.value c.in_ok-candidates.ensures in
    subst (λ l. length l ≤ most_entries) (outlines_stand c.args.dictionaries.items c.args.word_files.items c.in_ok-candidates.field-0 collected) c.in_ok-outlines.ensures.few
