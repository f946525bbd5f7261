-- The trials that are found have the numbers that their text asks for.
use Rattle.std.proofs.Common.{◌≡◌, ◌∙◌, ℕ, List, [], ◌∷◌, All, ap, subst, sym, Some}
use Rattle.std.specs.List.{AllByRecursion, AllZip}
use Rattle.std.proofs.lemmas.List.Elements.{All-from_recursion, recursion_from_All}
use Rattle.steno_rules.specs.Outlines.{entry_number, is_entry}
use Rattle.longest_match.specs.Rows.{IsSmall, Row}
use Rattle.brief_trial.specs.Trials.{AreTrials, IsSmallTrial, IsTrial, TrialView, with_brief}
use Rattle.brief_trial.specs.TrialTexts.{HasWords, IsWritable}

numbered_one : (entries words : List (List ℕ)) (brief : List ℕ) (trial : TrialView) → IsTrial entries words brief trial → IsSmallTrial entries trial → IsWritable entries trial
numbered_one entries words brief trial is small = record {
  held_is = is.held_is ∙ ap (is_entry entries) (sym is.tried);
  numbered = subst (λ (b : List ℕ). entry_number (with_brief entries b) b ≡ Some trial.entry) (sym is.tried) is.numbered;
  each = λ k d below. record { words = (small.each k d below).words; some = (small.each k d below).some };
}

numbered_each : (entries words briefs : List (List ℕ)) (trials : List TrialView) → AreTrials entries words briefs trials → AllByRecursion (IsSmallTrial entries) trials → AllByRecursion (IsWritable entries) trials
numbered_each entries words [] [] are small = tt
numbered_each entries words [] (trial ∷ trials) are small = absurd are
numbered_each entries words (brief ∷ briefs) [] are small = absurd are
numbered_each entries words (brief ∷ briefs) (trial ∷ trials) are small = (numbered_one entries words brief trial are.0 small.0, numbered_each entries words briefs trials are.1 small.1)

-- Trials that are found can be written.
pub numbered-trials : (entries words briefs : List (List ℕ)) (trials : List TrialView) → AreTrials entries words briefs trials → All (IsSmallTrial entries) trials → All (IsWritable entries) trials
numbered-trials entries words briefs trials are small =
    All-from_recursion (IsWritable entries) trials (numbered_each entries words briefs trials are (recursion_from_All (IsSmallTrial entries) trials small))
