-- What is expected of `try`: the conflicts that each brief would have beside the entries that there are.
--     IsTry briefs stack result                    the limits of the trial stacks, and then the text of the trials
--     TellsTrials briefs old new status stack      the promise: the text that was added has exactly these conflicts
use Rattle.std.specs.Prelude.{ℕ, ◌≡◌, List, Bool, not, length, nat_eq, option_map, Option, if◌then◌else◌}
use Rattle.std.specs.List.{list_any}
use Rattle.std.specs.Io.KnownBytes.{append_known}
use Rattle.dict_stack.specs.Stacks.{StackView}
use Rattle.conflict_example.specs.Chosen.{words_in_stack}
use Rattle.report.specs.Refusals.{RefusalView, no_memory, too_many_entries, too_many_nodes, too_many_states}
use Rattle.brief_trial.specs.Limits.{trial_limit}
use Rattle.brief_trial.specs.Trials.{AreTrials, TrialView}
use Rattle.brief_trial.specs.TrialTexts.{trials_text}
use Rattle.brief_trial.specs.declared.faults.TrialFault.{TrialFault}
use Rattle.brief_trial.specs.declared.faults.TrialFault.TheVariants.{Entries, Memory, Nodes, States}
use Rattle.audit_top.specs.Outcomes.{Expected, UnlessRefused, prints}
use Rattle.audit_top.specs.declared.status.Status.{Status}
use Rattle.audit_top.specs.declared.status.Status.TheVariants.{Clean, Conflicts}

-- ---- limits

abbrev pub limit_line : TrialFault → RefusalView
limit_line (Entries count) = too_many_entries count
limit_line (Nodes count) = too_many_nodes count
limit_line (States count) = too_many_states count
limit_line Memory = no_memory

-- the limit that the trial stack of the first brief over one passes first
abbrev pub briefs_limit : List (List ℕ) → StackView → Option RefusalView
briefs_limit briefs stack = option_map limit_line (trial_limit stack.outlines briefs)

-- ---- trials

abbrev pub has_conflict : TrialView → Bool
has_conflict trial = not (nat_eq (length trial.conflicts) 0)

-- 1 where a brief has a conflict, else 0
abbrev pub trials_status : List TrialView → Status
trials_status trials = if list_any has_conflict trials then Conflicts else Clean

abbrev pub try_result : StackView → List TrialView → Expected
try_result stack trials = prints (trials_status trials) (trials_text stack.outlines trials)

-- the text of the trials of these briefs, in their order
pub record TriesBriefs (briefs : List (List ℕ)) (stack : StackView) (result : Expected)
    : Type 0 where
  pub trials : List TrialView
  pub tried : AreTrials stack.outlines (words_in_stack stack) briefs trials
  pub produces : result ≡ try_result stack trials

abbrev pub IsTry : List (List ℕ) → StackView → Expected → Type 0
IsTry briefs stack result = UnlessRefused (briefs_limit briefs stack) (TriesBriefs briefs stack) result

-- ---- the promise

-- what was added are the trials of the briefs: each brief's conflicts exactly, over its trial stack
pub record TellsTrials (briefs : List (List ℕ)) (old new : Option (List ℕ)) (status : Status)
    (stack : StackView) : Type 0 where
  pub trials : List TrialView
  pub tried : AreTrials stack.outlines (words_in_stack stack) briefs trials
  pub text : new ≡ append_known old (trials_text stack.outlines trials)
  pub ends : status ≡ trials_status trials
