-- The stack of the generated dictionary, and its limits.
use Rattle.std.proofs.Common.{ℕ, ◌≡◌, ◌<◌, ◌≤◌, ◌∙◌, ap, sym, subst, length, Option, Some, Result, Err}
use Rattle.dict_stack.specs.Stacks.{StackView, most_entries}
use Rattle.dict_stack.specs.Faults.{IsStackCause}
use Rattle.dict_stack.specs.declared.faults.StackFault.{StackFault}
use Rattle.dict_stack.specs.declared.faults.StackFault.TheVariants as stack
use Rattle.report.specs.Refusals.{RefusalView, too_many_entries}
use Rattle.dict_files.specs.Refusals.{first_of}
use Rattle.dict_files.proofs.FirstRefusals.{if_over-over, if_over-within}
use Rattle.audit_top.specs.Outcomes.{UnlessRefused, search_limit}
use Rattle.audit_top.specs.Audited.{IsAuditGenerated, IsSummary, entries_limit, generated_stack}
use Rattle.audit_top.specs.Runs.{OutputView}
use Rattle.audit_top.specs.inside.Answers.{Answers}
use Rattle.audit_top.specs.inside.Stops.{refusal_of_stack, stop_of}
use Rattle.audit_top.specs.declared.refusals.Refusal.{Refusal}
use Rattle.audit_top.specs.declared.status.Status.{Status}
use Rattle.audit_top.proofs.Stops.{answers-weaker, ran-out, refused-first, unless-some}

entries_within : (s : StackView) → length s.outlines ≤ most_entries → entries_limit s ≡ search_limit s
entries_within s few = ap (λ o. first_of o (search_limit s)) (if_over-within most_entries too_many_entries (length s.outlines) few)

entries_over : (s : StackView) (count : ℕ) → most_entries < length s.outlines → count ≡ length s.outlines → entries_limit s ≡ Some (too_many_entries count)
entries_over s count over is = ap (λ o. first_of o (search_limit s)) (if_over-over most_entries too_many_entries (length s.outlines) over ∙ ap (λ (n : ℕ). Some (too_many_entries n)) (sym is))

-- there are too many entries, or memory ran out
pub stack-stopped : (s : StackView) (out : OutputView) (answer : Result Status Refusal) (refusal : Refusal) (fault : StackFault) → IsStackCause s.outlines fault → answer ≡ Err refusal → refusal ≡ refusal_of_stack fault
    → Answers (UnlessRefused (entries_limit s) (IsSummary s)) out out answer
stack-stopped s out answer refusal (stack.TooManyEntries count) cause is by =
    refused-first (UnlessRefused (entries_limit s) (IsSummary s)) out answer refusal (too_many_entries count) is (ap stop_of by) (unless-some (entries_limit s) (IsSummary s) (too_many_entries count) (entries_over s count cause.0 cause.1))
stack-stopped s out answer refusal stack.Memory cause is by = ran-out (UnlessRefused (entries_limit s) (IsSummary s)) out answer refusal is by

-- the audit of the stack that was made is that of the generated dictionary
pub of-stack : (start count : ℕ) (s : StackView) (old new : OutputView) (answer : Result Status Refusal) → s ≡ generated_stack start count → length s.outlines ≤ most_entries
    → Answers (UnlessRefused (search_limit s) (IsSummary s)) old new answer → Answers (IsAuditGenerated start count) old new answer
of-stack start count s old new answer are few answers =
    answers-weaker (UnlessRefused (search_limit s) (IsSummary s)) (IsAuditGenerated start count) old new answer
    (λ r is. subst (λ (s : StackView). UnlessRefused (entries_limit s) (IsSummary s) r) are (subst (λ (o : Option RefusalView). UnlessRefused o (IsSummary s) r) (sym (entries_within s few)) is)) answers
