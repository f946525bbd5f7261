use Rattle.std.proofs.Common.{◌≡◌, ◌+◌, ◌≤◌, ◌∙◌, ◌∷◌, ◌++◌, ap, arith, drop, length, take, true, Bool, List, ℕ}
use Rattle.std.proofs.lemmas.Result.{err_from_is_err_and}
use Rattle.conflict_example.specs.Chosen.{words_in_stack}
use Rattle.dict_stack.specs.Stacks.{most_entries}
use Rattle.brief_trial.proofs.MadeTrials.{new_are, new_count, new_outlines, new_over, new_stopped, new_whole, tried_err}
use Rattle.brief_trial.proofs.one.try_new.Goals as goal

pub returns-then-count-gt-MAX_ENTRIES : goal.returns-then-count-gt-MAX_ENTRIES
returns-then-count-gt-MAX_ENTRIES c =
    let stack = c.args.stack.now in
    new_over stack.outlines c.args.brief.now c.args.place (length c.outlines.result.now + 1) c.requires.missing (ap (λ (l : List (List ℕ)). length l + 1) c.outlines.ensures.outlines)
    c.if-count-gt-MAX_ENTRIES.true

pub search_entry-requires-clause-entries : goal.search_entry-requires-clause-entries
search_entry-requires-clause-entries c =
    let stack = c.args.stack.now in
    let p = c.args.place in
    let x = c.args.brief.now in
    new_are stack.outlines c.deref.result.now x p c.outlines.ensures.are_entries (omega (arith, c.requires.outline.at_least)) c.requires.missing
    (c.deref.ensures.value ∙ c.in_ok-entries.ensures ∙ ap (λ (l : List (List ℕ)). take p l ++ x ∷ drop p l) c.outlines-2.ensures.outlines)

pub search_entry-requires-clause-outlines : goal.search_entry-requires-clause-outlines
search_entry-requires-clause-outlines c =
    let stack = c.args.stack.now in
    let p = c.args.place in
    let x = c.args.brief.now in
    new_outlines stack.outlines c.deref.result.now x p c.outlines.ensures.are_outlines c.requires.outline c.requires.missing
    (c.deref.ensures.value ∙ c.in_ok-entries.ensures ∙ ap (λ (l : List (List ℕ)). take p l ++ x ∷ drop p l) c.outlines-2.ensures.outlines)

pub returns-in_err-conflicts : goal.returns-in_err-conflicts
returns-in_err-conflicts c =
    let p = err_from_is_err_and c.from_residual-in_err-conflicts.result c.from_residual-in_err-conflicts.ensures.1 in
    let stack = c.args.stack.now in
    let x = c.args.brief.now in
    let place = c.args.place in
    let made : c.deref.result.now ≡ take place stack.outlines ++ x ∷ drop place stack.outlines =
    c.deref.ensures.value ∙ c.in_ok-entries.ensures ∙ ap (λ (l : List (List ℕ)). take place l ++ x ∷ drop place l) c.outlines-2.ensures.outlines in
    let few : length c.deref.result.now ≤ most_entries = omega (arith, new_count stack.outlines c.deref.result.now x place c.requires.missing made, c.if-count-gt-MAX_ENTRIES.false, ap length c.outlines.ensures.outlines) in
    tried_err stack.outlines (words_in_stack stack) x c.from_residual-in_err-conflicts.result p.0 c.in_err-conflicts.field-0.0 p.1 p.2
    (new_stopped stack.outlines c.deref.result.now x place c.in_err-conflicts.field-0.0 c.requires.missing made few c.in_err-conflicts.ensures.cause)

pub returns : goal.returns
returns c =
    let stack = c.args.stack.now in
    let x = c.args.brief.now in
    let place = c.args.place in
    let made : c.deref.result.now ≡ take place stack.outlines ++ x ∷ drop place stack.outlines =
    c.deref.ensures.value ∙ c.in_ok-entries.ensures ∙ ap (λ (l : List (List ℕ)). take place l ++ x ∷ drop place l) c.outlines-2.ensures.outlines in
    let flags : c.deref-2.result.now ≡ take place stack.words ++ true ∷ drop place stack.words =
    c.deref-2.ensures.value ∙ c.in_ok-words.ensures ∙ ap (λ (l : List Bool). take place l ++ true ∷ drop place l) c.words.ensures.words in
    let few : length c.deref.result.now ≤ most_entries = omega (arith, new_count stack.outlines c.deref.result.now x place c.requires.missing made, c.if-count-gt-MAX_ENTRIES.false, ap length c.outlines.ensures.outlines) in
    new_whole stack.outlines stack.words c.deref.result.now c.deref-2.result.now x c.in_ok-copy.field-0 place c.in_ok-conflicts.conflicts.items c.new.result
    c.words.ensures.each c.outlines.ensures.are_entries.rising c.requires.missing made flags few
    c.in_ok-conflicts.ensures.found c.in_ok-conflicts.ensures.small c.in_ok-conflicts.ensures.within c.in_ok-copy.ensures c.new.ensures
