use Rattle.std.proofs.Common.{◌≡◌, ◌∙◌, sym, subst, length}
use Rattle.std.specs.Prelude.{IfOk, Some, None, if◌then◌else◌}
use Rattle.std.specs.List.{slice_range}
use Rattle.certificate.proofs.Parts.{added, refused, last_number, behind_place}
use Rattle.certificate.proofs.numbers.push_numbers.Goals as goal

pub returns-then-not-branch : goal.returns-then-not-branch
returns-then-not-branch c =
    c.loop-space.invariant
    ∙ refused _ c.loop-space.rest.now c.in-Some.space c.in-Some.ensures
    (rw (c.if-not-branch.true, c.split_at.ensures.front) at c.in_ok-push_number.ensures)

pub loop-space-preserved : goal.loop-space-preserved
loop-space-preserved c =
    let others = c.split_at.result.1.now in
    c.loop-space.invariant
    ∙ added c.loop-space.numbers.items c.push_number.new.numbers.items c.loop-space.rest.now (slice_range others 1 (length others))
    c.in-Some.space c.in-Some.ensures (behind_place c.loop-space.rest.now others c.in-Some.space c.split_at.ensures.back)
    (rw (c.if-not-branch.false, c.split_at.ensures.front) at c.in_ok-push_number.ensures)

pub returns : goal.returns
returns c =
    subst (λ whole. IfOk c.push_number-2.result (λ are. whole ≡ (if are then Some c.push_number-2.new.numbers.items else None)))
    (sym (c.loop-space.invariant ∙ last_number _ c.loop-space.rest.now c.in_default.ensures))
    c.push_number-2.ensures
