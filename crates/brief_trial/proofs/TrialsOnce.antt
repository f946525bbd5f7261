-- Of the trials of some briefs there is one list at most.
use Rattle.std.proofs.Common.{◌≡◌, ℕ, Bool, List, [], ◌∷◌, refl, sym, ap₂, subst, ◌∙◌, Some}
use Rattle.graph_rules.proofs.SettledLemmas.{words_once}
use Rattle.steno_rules.specs.ClosureGraphs.{kept_lists}
use Rattle.longest_match.specs.Rows.{Row}
use Rattle.conflict_example.specs.Chosen.{AreChosen}
use Rattle.conflict_example.specs.EntryConflicts.{AreConflictsOf}
use Rattle.conflict_example.proofs.OneRow.{entry_rows_once}
use Rattle.brief_trial.specs.Trials.{AreTrials, IsTrial, TrialView, with_brief}

abbrev trial_of : List ℕ → ℕ → Bool → List Row → TrialView
trial_of brief entry held conflicts = record { brief = brief; entry = entry; held = held; conflicts = conflicts }

same_trial : (a b : TrialView) → a.brief ≡ b.brief → a.entry ≡ b.entry → a.held ≡ b.held → a.conflicts ≡ b.conflicts → a ≡ b
same_trial a b brief entry held conflicts = same a.brief a.entry a.held a.conflicts b.brief b.entry b.held b.conflicts brief entry held conflicts
  where
    same : (x : List ℕ) (e : ℕ) (h : Bool) (rows : List Row) (x' : List ℕ) (e' : ℕ) (h' : Bool) (rows' : List Row) → x ≡ x' → e ≡ e' → h ≡ h' → rows ≡ rows' → trial_of x e h rows ≡ trial_of x' e' h' rows'
    same x e h rows x' e' h' rows' is at has are = rw (is, at, has, are) refl

-- A brief has one trial,
pub trial_once : (entries words : List (List ℕ)) (brief : List ℕ) (a b : TrialView) → IsTrial entries words brief a → IsTrial entries words brief b → a ≡ b
trial_once entries words brief a b ha hb =
    let es : List (List ℕ) = with_brief entries brief in
    let ws : List (List ℕ) = with_brief words brief in
    let found : Some a.entry ≡ Some b.entry = sym ha.numbered ∙ hb.numbered in
    let entry : a.entry ≡ b.entry = cc in
    let table : ha.table ≡ hb.table = words_once 0 (kept_lists es ws) ha.table hb.table ha.settled hb.settled in
    let chosen = subst (λ (t : List ℕ). AreChosen es ws t b.conflicts) (sym table) hb.chosen in
    let exact = subst (λ (e : ℕ). AreConflictsOf es ws e b.conflicts) (sym entry) hb.exact in
    same_trial a b (ha.tried ∙ sym hb.tried) entry (ha.held_is ∙ sym hb.held_is)
    (entry_rows_once es ws ha.table a.entry a.conflicts b.conflicts ha.exact exact ha.chosen chosen)

-- and briefs one list of trials.
pub trials_once : (entries words briefs : List (List ℕ)) (xs ys : List TrialView) → AreTrials entries words briefs xs → AreTrials entries words briefs ys → xs ≡ ys
trials_once entries words [] [] [] hx hy = refl
trials_once entries words [] (x ∷ xs) ys hx hy = absurd hx
trials_once entries words [] [] (y ∷ ys) hx hy = absurd hy
trials_once entries words (b ∷ briefs) [] ys hx hy = absurd hx
trials_once entries words (b ∷ briefs) (x ∷ xs) [] hx hy = absurd hy
trials_once entries words (b ∷ briefs) (x ∷ xs) (y ∷ ys) hx hy =
    ap₂ (λ z l. z ∷ l) (trial_once entries words b x y hx.0 hy.0) (trials_once entries words briefs xs ys hx.1 hy.1)
