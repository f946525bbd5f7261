-- The parts of `try`, and that its result is one value.
use Rattle.std.proofs.Common.{ℕ, ◌≡◌, ◌∙◌, List, ap, refl, sym, Option, None, Err, Result, option_map}
use Rattle.std.specs.Io.KnownBytes.{append_known}
use Rattle.dict_stack.specs.Stacks.{StackView}
use Rattle.conflict_example.specs.Chosen.{words_in_stack}
use Rattle.report.specs.Refusals.{too_many_entries, too_many_nodes, too_many_states}
use Rattle.brief_trial.specs.Limits.{IsTrialCause, trial_limit}
use Rattle.brief_trial.specs.Trials.{AreTrials, TrialView}
use Rattle.brief_trial.specs.declared.faults.TrialFault.{TrialFault}
use Rattle.brief_trial.specs.declared.faults.TrialFault.TheVariants.{Entries, Memory, Nodes, States}
use Rattle.brief_trial.proofs.TrialsOnce.{trials_once}
use Rattle.audit_top.specs.Outcomes.{Expected}
use Rattle.audit_top.specs.Runs.{OutputView}
use Rattle.audit_top.specs.Tried.{IsTry, TellsTrials, TriesBriefs, briefs_limit, limit_line, try_result}
use Rattle.audit_top.specs.inside.Answers.{Answers}
use Rattle.audit_top.specs.inside.Stops.{refusal_of_trial, stop_of}
use Rattle.audit_top.specs.declared.refusals.Refusal.{Refusal}
use Rattle.audit_top.specs.declared.status.Status.{Status}
use Rattle.audit_top.proofs.Stops.{ran-out, refused-first, unless-some}

-- what is printed of trials is expected
pub try-is : (briefs : List (List ℕ)) (stack : StackView) (trials : List TrialView) → AreTrials stack.outlines (words_in_stack stack) briefs trials → TriesBriefs briefs stack (try_result stack trials)
try-is briefs stack trials are = record { trials = trials; tried = are; produces = refl }

-- the trial stack of a brief is over a limit, or memory ran out
pub try-stopped : (briefs : List (List ℕ)) (stack : StackView) (out : OutputView) (answer : Result Status Refusal) (refusal : Refusal) (fault : TrialFault) → IsTrialCause stack.outlines briefs fault
    → answer ≡ Err refusal → refusal ≡ refusal_of_trial fault → Answers (IsTry briefs stack) out out answer
try-stopped briefs stack out answer refusal (Entries count) cause is by =
    refused-first (IsTry briefs stack) out answer refusal (too_many_entries count) is (ap stop_of by) (unless-some (briefs_limit briefs stack) (TriesBriefs briefs stack) (too_many_entries count) (ap (option_map limit_line) cause))
try-stopped briefs stack out answer refusal (Nodes count) cause is by =
    refused-first (IsTry briefs stack) out answer refusal (too_many_nodes count) is (ap stop_of by) (unless-some (briefs_limit briefs stack) (TriesBriefs briefs stack) (too_many_nodes count) (ap (option_map limit_line) cause))
try-stopped briefs stack out answer refusal (States count) cause is by =
    refused-first (IsTry briefs stack) out answer refusal (too_many_states count) is (ap stop_of by) (unless-some (briefs_limit briefs stack) (TriesBriefs briefs stack) (too_many_states count) (ap (option_map limit_line) cause))
try-stopped briefs stack out answer refusal Memory cause is by = ran-out (IsTry briefs stack) out answer refusal is by

-- no trial stack is over a limit
pub briefs-within : (briefs : List (List ℕ)) (stack : StackView) → trial_limit stack.outlines briefs ≡ None → briefs_limit briefs stack ≡ None
briefs-within briefs stack none = ap (option_map limit_line) none

-- of what is expected there is at most one
pub tries-once : (briefs : List (List ℕ)) (stack : StackView) (a b : Expected) → TriesBriefs briefs stack a → TriesBriefs briefs stack b → a ≡ b
tries-once briefs stack a b ha hb =
    ha.produces
    ∙ ap (try_result stack) (trials_once stack.outlines (words_in_stack stack) briefs ha.trials hb.trials ha.tried hb.tried)
    ∙ sym hb.produces

-- the promise
pub tells-trials : (briefs : List (List ℕ)) (stack : StackView) (old new : Option (List ℕ)) (status : Status) (result : Expected) → TriesBriefs briefs stack result → new ≡ append_known old result.text → status ≡ result.status
    → TellsTrials briefs old new status stack
tells-trials briefs stack old new status result h text ends = record {
  trials = h.trials;
  tried = h.tried;
  text = text ∙ ap (λ (r : Expected). append_known old r.text) h.produces;
  ends = ends ∙ ap (λ (r : Expected). r.status) h.produces;
}
