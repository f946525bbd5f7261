use Rattle.std.proofs.Common.{refl}
use Rattle.report_json.proofs.Refusals.{behind, members_same}
use Rattle.report_json.proofs.parts.row_parts.Goals as goal

pub returns-in_err-outline-clause-none : goal.returns-in_err-outline-clause-none
returns-in_err-outline-clause-none c = λ is outline place strokes words e.
    let at0 = members_same _ _ c.in_ok-members.ensures.some e in
    c.in_err-outline.ensures.none refl _ _ at0

pub returns-in_err-place-clause-none : goal.returns-in_err-place-clause-none
returns-in_err-place-clause-none c = λ is outline place strokes words e.
    let at0 = members_same _ _ c.in_ok-members.ensures.some e in
    let at1 = behind _ _ _ _ _ _ c.in_ok-outline.ensures.some at0 in
    c.in_err-place.ensures.none refl _ _ at1

pub returns-in_err-strokes-clause-none : goal.returns-in_err-strokes-clause-none
returns-in_err-strokes-clause-none c = λ is outline place strokes words e.
    let at0 = members_same _ _ c.in_ok-members.ensures.some e in
    let at1 = behind _ _ _ _ _ _ c.in_ok-outline.ensures.some at0 in
    let at2 = behind _ _ _ _ _ _ c.in_ok-place.ensures.some at1 in
    c.in_err-strokes.ensures.none refl _ _ at2

pub returns-in_err-words-clause-none : goal.returns-in_err-words-clause-none
returns-in_err-words-clause-none c = λ is outline place strokes words e.
    let at0 = members_same _ _ c.in_ok-members.ensures.some e in
    let at1 = behind _ _ _ _ _ _ c.in_ok-outline.ensures.some at0 in
    let at2 = behind _ _ _ _ _ _ c.in_ok-place.ensures.some at1 in
    let at3 = behind _ _ _ _ _ _ c.in_ok-strokes.ensures.some at2 in
    c.in_err-words.ensures.none refl _ _ at3
