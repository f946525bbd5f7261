-- Which limit is passed first.
use Rattle.std.proofs.Common.{◌≡◌, ℕ, ◌<◌, ◌≤◌, true, false, cond, nat_lt, List, [], ◌∷◌, ◌++◌, length, refl, sym, ap, subst, ◌∙◌, arith, Option, Some, None}
use Rattle.std.proofs.lemmas.Bool.Decides.{nat_tests}
use Rattle.steno_rules.specs.Nodes.{nodes}
use Rattle.steno_rules.specs.StateNumbers.{number_count}
use Rattle.dict_stack.specs.Stacks.{most_entries}
use Rattle.outline_trie.specs.Causes.{IsTrieCause}
use Rattle.outline_trie.specs.Tries.{most_nodes}
use Rattle.outline_trie.specs.declared.trie.TrieFault.{TrieFault}
use Rattle.outline_trie.specs.declared.trie.TrieFault.TheVariants as trie
use Rattle.state_numbering.specs.Causes.{IsNumberCause, most_states}
use Rattle.state_numbering.specs.declared.fault.NumberFault.{NumberFault}
use Rattle.state_numbering.specs.declared.fault.NumberFault.TheVariants as numbers
use Rattle.brief_trial.specs.Limits.{IsLimitOf, brief_limit, first_limit, over_or, searched_limit, trial_limit}
use Rattle.brief_trial.specs.Trials.{with_brief}
use Rattle.brief_trial.specs.inside.Faults.{fault_of_numbers, fault_of_trie}
use Rattle.brief_trial.specs.declared.faults.TrialFault.{TrialFault}
use Rattle.brief_trial.specs.declared.faults.TrialFault.TheVariants.{Entries, Nodes, States, Memory}

-- ---- one limit

over_test : (most count : ℕ) → most < count → nat_lt most count ≡ true
over_test most count l = grind (arith, nat_tests)

within_test : (most count : ℕ) → count ≤ most → nat_lt most count ≡ false
within_test most count l = grind (arith, nat_tests)

-- a count over the limit passes it,
over_is : (most : ℕ) (limit : ℕ → TrialFault) (count : ℕ) (later : Option TrialFault) → most < count → over_or most limit count later ≡ Some (limit count)
over_is most limit count later l = ap (λ b. cond b (Some (limit count)) later) (over_test most count l)

-- and one within it doesn't
within_is : (most : ℕ) (limit : ℕ → TrialFault) (count : ℕ) (later : Option TrialFault) → count ≤ most → over_or most limit count later ≡ later
within_is most limit count later l = ap (λ b. cond b (Some (limit count)) later) (within_test most count l)

-- ---- a search

-- A trie that isn't made passes the limit of nodes, or memory ran out.
pub trie_stopped : (es : List (List ℕ)) (fault : TrieFault) → IsTrieCause (length (nodes es)) fault → IsLimitOf (searched_limit es) (fault_of_trie fault)
trie_stopped es (trie.TooManyNodes told) cause =
    over_is most_nodes Nodes (length (nodes es)) (over_or most_states States (number_count es) None) cause.1 ∙ ap (λ n. Some (Nodes n)) (sym cause.0)
trie_stopped es trie.Memory cause = tt

-- States that aren't numbered pass the limit of states, or memory ran out.
pub numbers_stopped : (es : List (List ℕ)) (fault : NumberFault) → length (nodes es) ≤ most_nodes → IsNumberCause (number_count es) fault → IsLimitOf (searched_limit es) (fault_of_numbers fault)
numbers_stopped es (numbers.TooManyStates told) within cause =
    within_is most_nodes Nodes (length (nodes es)) (over_or most_states States (number_count es) None) within
    ∙ over_is most_states States (number_count es) None cause.0 ∙ ap (λ n. Some (States n)) (sym cause.1)
numbers_stopped es numbers.Memory within cause = tt

-- Else no limit is passed.
pub search_within : (es : List (List ℕ)) → length (nodes es) ≤ most_nodes → number_count es ≤ most_states → searched_limit es ≡ None
search_within es few_nodes few_states =
    within_is most_nodes Nodes (length (nodes es)) (over_or most_states States (number_count es) None) few_nodes
    ∙ within_is most_states States (number_count es) None few_states

-- ---- a brief

-- Where the trial stack has few entries, its limit is that of a search,
pub brief_searched : (es stack : List (List ℕ)) (x : List ℕ) → stack ≡ with_brief es x → length stack ≤ most_entries → searched_limit stack ≡ brief_limit es x
brief_searched es stack x is few =
    subst (λ (l : List (List ℕ)). length l ≤ most_entries → searched_limit l ≡ brief_limit es x) (sym is)
    (λ l. sym (within_is most_entries Entries (length (with_brief es x)) (searched_limit (with_brief es x)) l)) few

-- and else it is that of the entries.
pub brief_over : (es : List (List ℕ)) (x : List ℕ) (count : ℕ) → length (with_brief es x) ≡ count → most_entries < count → brief_limit es x ≡ Some (Entries count)
brief_over es x count is over =
    subst (λ (n : ℕ). most_entries < n → brief_limit es x ≡ Some (Entries n)) is
    (over_is most_entries Entries (length (with_brief es x)) (searched_limit (with_brief es x))) over

-- ---- some briefs

-- The limit of some briefs and of more is that of the first ones, if they pass one.
pub limit_append : (es xs ys : List (List ℕ)) → trial_limit es (xs ++ ys) ≡ first_limit (trial_limit es xs) (trial_limit es ys)
limit_append es [] ys = refl
limit_append es (x ∷ xs) ys = by (brief_limit es x) (limit_append es xs ys)
  where
    by : (o : Option TrialFault) → trial_limit es (xs ++ ys) ≡ first_limit (trial_limit es xs) (trial_limit es ys) →
        first_limit o (trial_limit es (xs ++ ys)) ≡ first_limit (first_limit o (trial_limit es xs)) (trial_limit es ys)
    by (Some limit) rest = refl
    by None rest = rest

-- a fault that is a limit of what comes first is that of all
first_is : (a b : Option TrialFault) (fault : TrialFault) → IsLimitOf a fault → IsLimitOf (first_limit a b) fault
first_is a b Memory h = tt
first_is a b (Entries n) h = ap (λ o. first_limit o b) h
first_is a b (Nodes n) h = ap (λ o. first_limit o b) h
first_is a b (States n) h = ap (λ o. first_limit o b) h

-- Behind briefs that pass none the first limit is that of the others.
pub limit_later : (es xs ys : List (List ℕ)) (fault : TrialFault) → trial_limit es xs ≡ None → IsLimitOf (trial_limit es ys) fault → IsLimitOf (trial_limit es (xs ++ ys)) fault
limit_later es xs ys fault none h =
    subst (λ (o : Option TrialFault). IsLimitOf o fault) (sym (limit_append es xs ys ∙ ap (λ o. first_limit o (trial_limit es ys)) none)) h

pub limit_first : (es xs ys : List (List ℕ)) (fault : TrialFault) → IsLimitOf (trial_limit es xs) fault → IsLimitOf (trial_limit es (xs ++ ys)) fault
limit_first es xs ys fault h =
    subst (λ (o : Option TrialFault). IsLimitOf o fault) (sym (limit_append es xs ys)) (first_is (trial_limit es xs) (trial_limit es ys) fault h)

pub limit_none : (es xs ys : List (List ℕ)) → trial_limit es xs ≡ None → trial_limit es ys ≡ None → trial_limit es (xs ++ ys) ≡ None
limit_none es xs ys none others = limit_append es xs ys ∙ ap (λ o. first_limit o (trial_limit es ys)) none ∙ others

-- the limit of one brief is the first one of it and others
pub limit_one : (es : List (List ℕ)) (x : List ℕ) (xs : List (List ℕ)) (fault : TrialFault) → IsLimitOf (brief_limit es x) fault → IsLimitOf (trial_limit es (x ∷ xs)) fault
limit_one es x xs fault h = first_is (brief_limit es x) (trial_limit es xs) fault h
