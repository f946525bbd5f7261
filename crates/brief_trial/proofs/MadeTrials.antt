-- What a search finds over a trial stack is a trial.
use Rattle.std.proofs.Common.{◌≡◌, ℕ, ◌+◌, ◌<◌, ◌≤◌, ◌∙◌, All, Bool, true, false, List, ◌∷◌, ◌++◌, length, take, drop, set, refl, sym, ap, subst, arith, Option, Some, None, Result, Err}
use Rattle.graph_rules.specs.Graphs.{AreSettled}
use Rattle.steno_rules.specs.ClosureGraphs.{kept_lists}
use Rattle.steno_rules.specs.Outlines.{AreEntries, AreRising, IsOutline, entry_number, flagged_entries, is_entry}
use Rattle.steno_rules.specs.WordSets.{WordFlags, words_in}
use Rattle.longest_match.specs.Rows.{AreSmall, Row}
use Rattle.dict_stack.specs.Finding.{IsMissing}
use Rattle.dict_stack.specs.Stacks.{most_entries}
use Rattle.round_core.specs.Searches.{IsSearched, SettledView}
use Rattle.state_numbering.specs.Numberings.{NumberingView, numbering_of}
use Rattle.conflict_example.specs.Chosen.{AreChosen}
use Rattle.conflict_example.specs.EntryConflicts.{AreConflictsOf}
use Rattle.brief_trial.specs.Limits.{IsLimitOf, brief_limit, searched_limit}
use Rattle.brief_trial.specs.Trials.{IsTrial, TrialView, with_brief}
use Rattle.brief_trial.specs.inside.Adding.{IsTried, IsWholeTrial}
use Rattle.brief_trial.specs.inside.Found.{AreEntryRows}
use Rattle.brief_trial.specs.declared.faults.TrialFault.{TrialFault}
use Rattle.brief_trial.specs.declared.faults.TrialFault.TheVariants.{Entries}
use Rattle.brief_trial.proofs.LimitLemmas.{brief_over, brief_searched}
use Rattle.brief_trial.proofs.TrialStacks.{held_entries, held_is, held_number, held_words, new_entries, new_is, new_length, new_number, new_words, one_more, with_entries, with_outlines}

abbrev pub trial_by : List ℕ → ℕ → Bool → List Row → TrialView
trial_by brief entry held conflicts = record { brief = brief; entry = entry; held = held; conflicts = conflicts }

-- over entries and words that are those of the trial stack
made_trial : (es ws es' ws' : List (List ℕ)) (x : List ℕ) (k : ℕ) (held : Bool) (rows : List Row) → es' ≡ with_brief es x → ws' ≡ with_brief ws x →
    entry_number (with_brief es x) x ≡ Some k → held ≡ is_entry es x → AreEntryRows es' ws' k rows → IsTrial es ws x (trial_by x k held rows)
made_trial es ws es' ws' x k held rows entries words number is found =
    let there = subst (λ (l : List (List ℕ)). AreEntryRows l (with_brief ws x) k rows) entries (subst (λ (l : List (List ℕ)). AreEntryRows es' l k rows) words found) in
    record {
      tried = refl;
      numbered = number;
      held_is = is;
      exact = there.exact;
      table = there.table;
      settled = there.settled;
      chosen = there.chosen;
    }

-- A brief that is an entry is made a word.
pub held_trial : (es : List (List ℕ)) (fs : List Bool) (x : List ℕ) (k : ℕ) (rows : List Row) → length fs ≡ length es → AreRising es → entry_number es x ≡ Some k →
    AreEntryRows es (flagged_entries es (set fs k true)) k rows → IsTrial es (flagged_entries es fs) x (trial_by x k true rows)
held_trial es fs x k rows long rising is found =
    made_trial es (flagged_entries es fs) es (flagged_entries es (set fs k true)) x k true rows (sym (held_entries es x k rising is)) (held_words es fs x k long rising is)
    (held_number es x k rising is) (held_is es x k is) found

-- Another one is made both.
pub new_trial : (es : List (List ℕ)) (fs : List Bool) (x : List ℕ) (p : ℕ) (rows : List Row) → length fs ≡ length es → AreRising es → IsMissing es x p →
    AreEntryRows (take p es ++ x ∷ drop p es) (flagged_entries (take p es ++ x ∷ drop p es) (take p fs ++ true ∷ drop p fs)) p rows → IsTrial es (flagged_entries es fs) x (trial_by x p false rows)
new_trial es fs x p rows long rising missing found =
    made_trial es (flagged_entries es fs) (take p es ++ x ∷ drop p es) (flagged_entries (take p es ++ x ∷ drop p es) (take p fs ++ true ∷ drop p fs)) x p false rows
    (new_entries es x p missing) (new_words es fs x p long missing) (new_number es x p rising missing) (new_is es x missing.apart) found

-- ---- a search of its own

-- what a search over a numbering finds
pub found_of : (v graph : NumberingView) (trie entries : List (List ℕ)) (set : WordFlags) (flags : List Bool) (searched : SettledView) (table : List ℕ) (e : ℕ) (rows : List Row) →
    trie ≡ entries → v ≡ numbering_of trie set → words_in trie set ≡ flagged_entries trie flags → graph ≡ v → IsSearched 0 (kept_lists graph.entries graph.words) searched → table ≡ searched.words →
    AreConflictsOf entries v.words e rows → AreChosen entries v.words table rows → AreEntryRows entries (flagged_entries entries flags) e rows
found_of v graph trie entries set flags searched table e rows built numbered words same search read exact chosen =
    let entries_are : v.entries ≡ entries = ap (λ (w : NumberingView). w.entries) numbered ∙ built in
    let words_are : v.words ≡ flagged_entries entries flags = ap (λ (w : NumberingView). w.words) numbered ∙ words ∙ ap (λ (es : List (List ℕ)). flagged_entries es flags) built in
    let settled : AreSettled 0 (kept_lists v.entries v.words) searched.words = subst (λ (w : NumberingView). AreSettled 0 (kept_lists w.entries w.words) searched.words) same search.words in
    record {
      exact = subst (λ (ws : List (List ℕ)). AreConflictsOf entries ws e rows) words_are exact;
      table = searched.words;
      settled = subst (λ (ws : List (List ℕ)). AreSettled 0 (kept_lists entries ws) searched.words) words_are
          (subst (λ (es : List (List ℕ)). AreSettled 0 (kept_lists es v.words) searched.words) entries_are settled);
      chosen = subst (λ (ws : List (List ℕ)). AreChosen entries ws searched.words rows) words_are
          (subst (λ (t : List ℕ). AreChosen entries v.words t rows) read chosen);
    }

-- ---- whole trials

-- Nothing of a held brief's trial passes a limit.
pub held_stopped : (es outlines : List (List ℕ)) (x : List ℕ) (k : ℕ) (fault : TrialFault) → AreRising es → length es ≤ most_entries → entry_number es x ≡ Some k → outlines ≡ es →
    IsLimitOf (searched_limit outlines) fault → IsLimitOf (brief_limit es x) fault
held_stopped es outlines x k fault rising few is same h =
    subst (λ (o : Option TrialFault). IsLimitOf o fault)
    (brief_searched es outlines x (same ∙ sym (held_entries es x k rising is)) (subst (λ (l : List (List ℕ)). length l ≤ most_entries) (sym same) few)) h

pub held_whole : (es : List (List ℕ)) (fs : List Bool) (outlines : List (List ℕ)) (flags : List Bool) (x y : List ℕ) (k : ℕ) (rows : List Row) (trial : TrialView) →
    length fs ≡ length es → AreRising es → length es ≤ most_entries → entry_number es x ≡ Some k → outlines ≡ es → flags ≡ set fs k true →
    AreEntryRows outlines (flagged_entries outlines flags) k rows → AreSmall outlines rows → searched_limit outlines ≡ None → y ≡ x → trial ≡ trial_by y k true rows →
    IsWholeTrial es (flagged_entries es fs) x trial
held_whole es fs outlines flags x y k rows trial long rising few is same set_is found small within copied made =
    let there : outlines ≡ with_brief es x = same ∙ sym (held_entries es x k rising is) in
    let found' = subst (λ (l : List (List ℕ)). AreEntryRows l (flagged_entries l (set fs k true)) k rows) same (subst (λ (l : List Bool). AreEntryRows outlines (flagged_entries outlines l) k rows) set_is found) in
    subst (λ (t : TrialView). IsWholeTrial es (flagged_entries es fs) x t) (sym made)
    (subst (λ (b : List ℕ). IsWholeTrial es (flagged_entries es fs) x (trial_by b k true rows)) (sym copied) (record {
      is = held_trial es fs x k rows long rising is found';
      small = subst (λ (l : List (List ℕ)). AreSmall l rows) there small;
      within = sym (brief_searched es outlines x there (subst (λ (l : List (List ℕ)). length l ≤ most_entries) (sym same) few)) ∙ within;
    }))

-- The same of a new brief's.
pub new_stopped : (es outlines : List (List ℕ)) (x : List ℕ) (p : ℕ) (fault : TrialFault) → IsMissing es x p → outlines ≡ take p es ++ x ∷ drop p es → length outlines ≤ most_entries →
    IsLimitOf (searched_limit outlines) fault → IsLimitOf (brief_limit es x) fault
new_stopped es outlines x p fault missing made few h =
    subst (λ (o : Option TrialFault). IsLimitOf o fault) (brief_searched es outlines x (made ∙ new_entries es x p missing) few) h

pub new_whole : (es : List (List ℕ)) (fs : List Bool) (outlines : List (List ℕ)) (flags : List Bool) (x y : List ℕ) (p : ℕ) (rows : List Row) (trial : TrialView) →
    length fs ≡ length es → AreRising es → IsMissing es x p → outlines ≡ take p es ++ x ∷ drop p es → flags ≡ take p fs ++ true ∷ drop p fs → length outlines ≤ most_entries →
    AreEntryRows outlines (flagged_entries outlines flags) p rows → AreSmall outlines rows → searched_limit outlines ≡ None → y ≡ x → trial ≡ trial_by y p false rows →
    IsWholeTrial es (flagged_entries es fs) x trial
new_whole es fs outlines flags x y p rows trial long rising missing same flags_are few found small within copied made =
    let there : outlines ≡ with_brief es x = same ∙ new_entries es x p missing in
    let found' = subst (λ (l : List (List ℕ)). AreEntryRows l (flagged_entries l (take p fs ++ true ∷ drop p fs)) p rows) same (subst (λ (l : List Bool). AreEntryRows outlines (flagged_entries outlines l) p rows) flags_are found) in
    subst (λ (t : TrialView). IsWholeTrial es (flagged_entries es fs) x t) (sym made)
    (subst (λ (b : List ℕ). IsWholeTrial es (flagged_entries es fs) x (trial_by b p false rows)) (sym copied) (record {
      is = new_trial es fs x p rows long rising missing found';
      small = subst (λ (l : List (List ℕ)). AreSmall l rows) there small;
      within = sym (brief_searched es outlines x there few) ∙ within;
    }))

-- A trial stack with too many entries passes that limit.
pub new_over : (es : List (List ℕ)) (x : List ℕ) (p count : ℕ) → IsMissing es x p → count ≡ length es + 1 → most_entries < count → brief_limit es x ≡ Some (Entries count)
new_over es x p count missing is over = brief_over es x count (new_length es x p missing ∙ omega (arith, is)) over

-- ---- what the entries made for a new brief are

pub new_are : (es outlines : List (List ℕ)) (x : List ℕ) (p : ℕ) → AreEntries es → 0 < length x → IsMissing es x p → outlines ≡ take p es ++ x ∷ drop p es → AreEntries outlines
new_are es outlines x p are some missing made = subst AreEntries (sym (made ∙ new_entries es x p missing)) (with_entries es x are some)

pub new_outlines : (es outlines : List (List ℕ)) (x : List ℕ) (p : ℕ) → All IsOutline es → IsOutline x → IsMissing es x p → outlines ≡ take p es ++ x ∷ drop p es → All IsOutline outlines
new_outlines es outlines x p are is missing made = subst (All IsOutline) (sym (made ∙ new_entries es x p missing)) (with_outlines es x are is)

pub new_count : (es outlines : List (List ℕ)) (x : List ℕ) (p : ℕ) → IsMissing es x p → outlines ≡ take p es ++ x ∷ drop p es → length outlines ≡ length es + 1
new_count es outlines x p missing made = ap length (made ∙ new_entries es x p missing) ∙ new_length es x p missing ∙ omega arith

pub new_flags : (fs flags : List Bool) (p : ℕ) → p ≤ length fs → flags ≡ take p fs ++ true ∷ drop p fs → length flags ≡ length fs + 1
new_flags fs flags p within made = ap length made ∙ one_more fs true p within ∙ omega arith

-- ---- faults

-- what comes of a brief is a fault
pub tried_err : (es ws : List (List ℕ)) (x : List ℕ) (outcome : Result TrialView TrialFault) (told fault : TrialFault) → outcome ≡ Err told → told ≡ fault → IsLimitOf (brief_limit es x) fault →
    IsTried es ws x outcome
tried_err es ws x outcome told fault is same h =
    subst (λ (r : Result TrialView TrialFault). IsTried es ws x r) (sym (is ∙ ap Err same)) h
