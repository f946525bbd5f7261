use Rattle.std.proofs.Common.{refl}
use Rattle.report_json.proofs.Refusals.{behind, members_same}
use Rattle.report_json.proofs.parts.report_parts.Goals as goal

pub returns-in_err-conflicts-clause-none : goal.returns-in_err-conflicts-clause-none
returns-in_err-conflicts-clause-none c = λ is conflicts entries folded rounds skipped states strokes e.
    let at0 = members_same _ _ c.in_ok-members.ensures.some e in
    c.in_err-conflicts.ensures.none refl _ _ at0

pub returns-in_err-entries-clause-none : goal.returns-in_err-entries-clause-none
returns-in_err-entries-clause-none c = λ is conflicts entries folded rounds skipped states strokes e.
    let at0 = members_same _ _ c.in_ok-members.ensures.some e in
    let at1 = behind _ _ _ _ _ _ c.in_ok-conflicts.ensures.some at0 in
    c.in_err-entries.ensures.none refl _ _ at1

pub returns-in_err-folded-clause-none : goal.returns-in_err-folded-clause-none
returns-in_err-folded-clause-none c = λ is conflicts entries folded rounds skipped states strokes e.
    let at0 = members_same _ _ c.in_ok-members.ensures.some e in
    let at1 = behind _ _ _ _ _ _ c.in_ok-conflicts.ensures.some at0 in
    let at2 = behind _ _ _ _ _ _ c.in_ok-entries.ensures.some at1 in
    c.in_err-folded.ensures.none refl _ _ at2

pub returns-in_err-rounds-clause-none : goal.returns-in_err-rounds-clause-none
returns-in_err-rounds-clause-none c = λ is conflicts entries folded rounds skipped states strokes e.
    let at0 = members_same _ _ c.in_ok-members.ensures.some e in
    let at1 = behind _ _ _ _ _ _ c.in_ok-conflicts.ensures.some at0 in
    let at2 = behind _ _ _ _ _ _ c.in_ok-entries.ensures.some at1 in
    let at3 = behind _ _ _ _ _ _ c.in_ok-folded.ensures.some at2 in
    c.in_err-rounds.ensures.none refl _ _ at3

pub returns-in_err-skipped-clause-none : goal.returns-in_err-skipped-clause-none
returns-in_err-skipped-clause-none c = λ is conflicts entries folded rounds skipped states strokes e.
    let at0 = members_same _ _ c.in_ok-members.ensures.some e in
    let at1 = behind _ _ _ _ _ _ c.in_ok-conflicts.ensures.some at0 in
    let at2 = behind _ _ _ _ _ _ c.in_ok-entries.ensures.some at1 in
    let at3 = behind _ _ _ _ _ _ c.in_ok-folded.ensures.some at2 in
    let at4 = behind _ _ _ _ _ _ c.in_ok-rounds.ensures.some at3 in
    c.in_err-skipped.ensures.none refl _ _ at4

pub returns-in_err-states-clause-none : goal.returns-in_err-states-clause-none
returns-in_err-states-clause-none c = λ is conflicts entries folded rounds skipped states strokes e.
    let at0 = members_same _ _ c.in_ok-members.ensures.some e in
    let at1 = behind _ _ _ _ _ _ c.in_ok-conflicts.ensures.some at0 in
    let at2 = behind _ _ _ _ _ _ c.in_ok-entries.ensures.some at1 in
    let at3 = behind _ _ _ _ _ _ c.in_ok-folded.ensures.some at2 in
    let at4 = behind _ _ _ _ _ _ c.in_ok-rounds.ensures.some at3 in
    let at5 = behind _ _ _ _ _ _ c.in_ok-skipped.ensures.some at4 in
    c.in_err-states.ensures.none refl _ _ at5

pub returns-in_err-strokes-clause-none : goal.returns-in_err-strokes-clause-none
returns-in_err-strokes-clause-none c = λ is conflicts entries folded rounds skipped states strokes e.
    let at0 = members_same _ _ c.in_ok-members.ensures.some e in
    let at1 = behind _ _ _ _ _ _ c.in_ok-conflicts.ensures.some at0 in
    let at2 = behind _ _ _ _ _ _ c.in_ok-entries.ensures.some at1 in
    let at3 = behind _ _ _ _ _ _ c.in_ok-folded.ensures.some at2 in
    let at4 = behind _ _ _ _ _ _ c.in_ok-rounds.ensures.some at3 in
    let at5 = behind _ _ _ _ _ _ c.in_ok-skipped.ensures.some at4 in
    let at6 = behind _ _ _ _ _ _ c.in_ok-states.ensures.some at5 in
    c.in_err-strokes.ensures.none refl _ _ at6
