use Rattle.std.proofs.Common.{◌∙◌, ◌-◌, ap, arith, length, sym}
use Rattle.brief_trial.proofs.TrialOutlines.{later-number, outline-read, own-outline, same-number}
use Rattle.brief_trial.proofs.writing.trial_outline.Goals as goal

pub returns-then-number-entry : goal.returns-then-number-entry
returns-then-number-entry c =
    let trial = c.args.trial.now in
    c.brief.ensures ∙ own-outline c.args.stack.now.outlines trial.brief trial.entry c.args.number c.requires.numbered.numbered (c.if-number-entry.true ∙ c.entry.ensures)

pub bounds-outlines-number : goal.bounds-outlines-number
bounds-outlines-number c =
    let trial = c.args.trial.now in
    let are = c.outlines-outlines.ensures in
    let kept = sym c.keeps_number.ensures ∙ c.if-keeps_number.true in
    let here = same-number c.args.stack.now.outlines trial.brief trial.held trial.entry c.args.number are.are_entries.rising c.requires.numbered.held_is c.requires.numbered.numbered c.requires.below kept in
    omega (arith, here.within, ap length are.outlines)

pub returns-then-keeps_number : goal.returns-then-keeps_number
returns-then-keeps_number c =
    let trial = c.args.trial.now in
    let entries = c.args.stack.now.outlines in
    let are = c.outlines-outlines.ensures in
    let kept = sym c.keeps_number.ensures ∙ c.if-keeps_number.true in
    let here = same-number entries trial.brief trial.held trial.entry c.args.number are.are_entries.rising c.requires.numbered.held_is c.requires.numbered.numbered c.requires.below kept in
    outline-read c.outlines-outlines.result.now entries c.args.number c.index-outlines-number.result are.outlines c.index-outlines-number.is here.within ∙ here.is

pub bounds-outlines-number-else-keeps_number : goal.bounds-outlines-number-else-keeps_number
bounds-outlines-number-else-keeps_number c =
    let trial = c.args.trial.now in
    let are = c.outlines-outlines.ensures in
    let moved = sym c.keeps_number.ensures ∙ c.if-keeps_number.false in
    let here = later-number c.args.stack.now.outlines trial.brief trial.held trial.entry c.args.number are.are_entries.rising c.requires.numbered.held_is c.requires.numbered.numbered c.requires.below moved
    (λ own. c.if-number-entry.false (own ∙ sym c.entry.ensures)) in
    omega (arith, here.within, ap length are.outlines)

pub returns-else-keeps_number : goal.returns-else-keeps_number
returns-else-keeps_number c =
    let trial = c.args.trial.now in
    let entries = c.args.stack.now.outlines in
    let are = c.outlines-outlines.ensures in
    let moved = sym c.keeps_number.ensures ∙ c.if-keeps_number.false in
    let here = later-number entries trial.brief trial.held trial.entry c.args.number are.are_entries.rising c.requires.numbered.held_is c.requires.numbered.numbered c.requires.below moved
    (λ own. c.if-number-entry.false (own ∙ sym c.entry.ensures)) in
    outline-read c.outlines-outlines.result.now entries (c.args.number - 1) c.index-outlines-number-else-keeps_number.result are.outlines c.index-outlines-number-else-keeps_number.is here.within ∙ here.is
