use Rattle.std.proofs.Common.{◌≡◌, ◌∙◌, sym, subst, length, None}
use Rattle.std.specs.Prelude.{IfOk}
use Rattle.std.specs.List.{slice_range}
use Rattle.certificate.proofs.Parts.{behind_place, body_of, body_of_name}
use Rattle.certificate.proofs.parsing.body_line.Goals as goal

pub returns-in_default : goal.returns-in_default
returns-in_default c =
    subst (λ whole. IfOk c.named_line.result (λ line. line ≡ whole))
    (body_of_name c.args.body.now c.deref.result.now c.in_default.ensures (c.deref.ensures.value ∙ c.clear.ensures.items))
    c.named_line.ensures

pub returns-then-branch : goal.returns-then-branch
returns-then-branch c =
    let others = c.split_at.result.1.now in
    let line = body_of c.args.body.now c.in-Some.space _ (slice_range others 1 (length others)) _ c.in-Some.ensures
    (behind_place c.args.body.now others c.in-Some.space c.split_at.ensures.back) c.clear.ensures.items (rw (c.if-branch.true) at c.in_ok-push_numbers.ensures) in
    subst (λ whole. IfOk c.named_line-then-branch.result (λ line. line ≡ whole)) (sym line)
    (rw (c.deref-then-branch.ensures.value, c.split_at.ensures.front) at c.named_line-then-branch.ensures)

pub returns-else-branch : goal.returns-else-branch
returns-else-branch c =
    let others = c.split_at.result.1.now in
    sym (body_of c.args.body.now c.in-Some.space _ (slice_range others 1 (length others)) None c.in-Some.ensures
    (behind_place c.args.body.now others c.in-Some.space c.split_at.ensures.back) c.clear.ensures.items (rw (c.if-branch.false) at c.in_ok-push_numbers.ensures))
