-- Trials one after another.
use Rattle.std.proofs.Common.{◌≡◌, ℕ, suc, ◌+◌, ◌<◌, List, [], ◌∷◌, ◌++◌, length, get_or, refl, sym, ap, ap₂, subst, ◌∙◌, arith, All, None, Result, Ok, Err, IfErr, drop, take, append-nil, append_assoc, length-append}
use Rattle.std.specs.List.{AllZip}
use Rattle.std.proofs.lemmas.List.{drop_more, length_push, take-append-drop}
use Rattle.std.proofs.lemmas.List.Elements.{All-append, All-contains, All-push, Contains-append_left, Contains-append_right, Contains-get_or}
use Rattle.brief_trial.specs.Limits.{IsLimitOf, first_limit, trial_limit}
use Rattle.brief_trial.specs.Trials.{IsSmallTrial, IsTrial, TrialView}
use Rattle.brief_trial.specs.inside.Adding.{AddsTrials, IsTried, IsWholeTrial}
use Rattle.brief_trial.specs.declared.faults.TrialFault.{TrialFault}
use Rattle.brief_trial.proofs.LimitLemmas.{limit_first, limit_later, limit_none, limit_one}

-- ---- pairs of two lists

zip_append : {A B : Type 0} (P : A → B → Type 0) (xs : List A) (ys : List B) (xs' : List A) (ys' : List B) → AllZip P xs ys → AllZip P xs' ys' → AllZip P (xs ++ xs') (ys ++ ys')
zip_append P [] [] xs' ys' h k = k
zip_append P [] (y ∷ ys) xs' ys' h k = absurd h
zip_append P (x ∷ xs) [] xs' ys' h k = absurd h
zip_append P (x ∷ xs) (y ∷ ys) xs' ys' h k = (h.0, zip_append P xs ys xs' ys' h.1 k)

-- pairs by their places
pub zip_of : {A B : Type 0} (P : A → B → Type 0) (xs : List A) (ys : List B) → length xs ≡ length ys →
    ((i : ℕ) (d : A) (e : B) → i < length xs → P (get_or xs i d) (get_or ys i e)) → AllZip P xs ys
zip_of P [] [] long h = tt
zip_of P [] (y ∷ ys) long h = absurd (omega (arith, long))
zip_of P (x ∷ xs) [] long h = absurd (omega (arith, long))
zip_of P (x ∷ xs) (y ∷ ys) long h = (h 0 x y (omega arith), zip_of P xs ys (omega (arith, long)) (λ i d e l. h (suc i) d e (omega arith)))

pub zip_length : {A B : Type 0} (P : A → B → Type 0) (xs : List A) (ys : List B) → AllZip P xs ys → length xs ≡ length ys
zip_length P [] [] h = refl
zip_length P [] (y ∷ ys) h = absurd h
zip_length P (x ∷ xs) [] h = absurd h
zip_length P (x ∷ xs) (y ∷ ys) h = ap suc (zip_length P xs ys h.1)

-- ---- parts of a list

all_before : {A : Type 0} (P : A → Type 0) (xs ys : List A) → All P (xs ++ ys) → All P xs
all_before P xs ys h k d l = All-contains P (xs ++ ys) (get_or xs k d) h (Contains-append_left xs ys (get_or xs k d) (Contains-get_or xs k d l))

all_behind : {A : Type 0} (P : A → Type 0) (xs ys : List A) → All P (xs ++ ys) → All P ys
all_behind P xs ys h k d l = All-contains P (xs ++ ys) (get_or ys k d) h (Contains-append_right xs ys (get_or ys k d) (Contains-get_or ys k d l))

-- ---- trials

pub adds_none : (entries words : List (List ℕ)) (old : List TrialView) → AddsTrials entries words [] old old
adds_none entries words old = record { added = []; all = sym (append-nil old); are = tt; small = λ k d below. absurd (omega arith); within = refl }

pub adds_both : (entries words xs ys : List (List ℕ)) (old mid new : List TrialView) → AddsTrials entries words xs old mid → AddsTrials entries words ys mid new → AddsTrials entries words (xs ++ ys) old new
adds_both entries words xs ys old mid new h k = record {
  added = h.added ++ k.added;
  all = k.all ∙ ap (λ l. l ++ k.added) h.all ∙ append_assoc old h.added k.added;
  are = zip_append (IsTrial entries words) xs h.added ys k.added h.are k.are;
  small = All-append (IsSmallTrial entries) h.added k.added h.small k.small;
  within = limit_none entries xs ys h.within k.within;
}

-- one trial
adds_one : (entries words : List (List ℕ)) (brief : List ℕ) (old : List TrialView) (trial : TrialView) → IsWholeTrial entries words brief trial → AddsTrials entries words (brief ∷ []) old (old ++ trial ∷ [])
adds_one entries words brief old trial h = record {
  added = trial ∷ [];
  all = refl;
  are = (h.is, tt);
  small = All-push (IsSmallTrial entries) [] trial (λ k d below. absurd (omega arith)) h.small;
  within = ap (λ o. first_limit o None) h.within;
}

-- ---- a group

-- of a group some briefs have their trials, and the outcomes of the others are left
pub record IsAdding (entries words group : List (List ℕ)) (old now : List TrialView) (left : List (Result TrialView TrialFault)) : Type 0 where
  pub done : List (List ℕ)
  pub others : List (List ℕ)
  pub split : done ++ others ≡ group
  pub adds : AddsTrials entries words done old now
  pub tried : AllZip (IsTried entries words) others left

pub adding_none : (entries words group : List (List ℕ)) (old : List TrialView) (left : List (Result TrialView TrialFault)) → AllZip (IsTried entries words) group left → IsAdding entries words group old old left
adding_none entries words group old left h = record { done = []; others = group; split = refl; adds = adds_none entries words old; tried = h }

pub adding_more : (entries words group : List (List ℕ)) (old now : List TrialView) (trial : TrialView) (left : List (Result TrialView TrialFault)) → IsAdding entries words group old now (Ok trial ∷ left) →
    IsAdding entries words group old (now ++ trial ∷ []) left
adding_more entries words group old now trial left h = by h.others h.split h.tried
  where
    by : (others : List (List ℕ)) → h.done ++ others ≡ group → AllZip (IsTried entries words) others (Ok trial ∷ left) → IsAdding entries words group old (now ++ trial ∷ []) left
    by [] split tried = absurd tried
    by (brief ∷ others) split tried = record {
      done = h.done ++ brief ∷ [];
      others = others;
      split = append_assoc h.done (brief ∷ []) others ∙ split;
      adds = adds_both entries words h.done (brief ∷ []) old now (now ++ trial ∷ []) h.adds (adds_one entries words brief now trial tried.0);
      tried = tried.1;
    }

pub adding_all : (entries words group : List (List ℕ)) (old now : List TrialView) → IsAdding entries words group old now [] → AddsTrials entries words group old now
adding_all entries words group old now h = by h.others h.split h.tried
  where
    by : (others : List (List ℕ)) → h.done ++ others ≡ group → AllZip (IsTried entries words) others [] → AddsTrials entries words group old now
    by [] split tried = subst (λ (l : List (List ℕ)). AddsTrials entries words l old now) (sym (append-nil h.done) ∙ split) h.adds
    by (brief ∷ others) split tried = absurd tried

-- The first outcome that is a fault is the group's limit.
pub adding_stopped : (entries words group : List (List ℕ)) (old now : List TrialView) (fault : TrialFault) (left : List (Result TrialView TrialFault)) → IsAdding entries words group old now (Err fault ∷ left) →
    IsLimitOf (trial_limit entries group) fault
adding_stopped entries words group old now fault left h = by h.others h.split h.tried
  where
    by : (others : List (List ℕ)) → h.done ++ others ≡ group → AllZip (IsTried entries words) others (Err fault ∷ left) → IsLimitOf (trial_limit entries group) fault
    by [] split tried = absurd tried
    by (brief ∷ others) split tried =
        subst (λ (l : List (List ℕ)). IsLimitOf (trial_limit entries l) fault) split
        (limit_later entries h.done (brief ∷ others) fault h.adds.within (limit_one entries brief others fault tried.0))

-- ---- all briefs

-- the briefs before the rest have their trials
pub record IsPassed (entries words briefs rest : List (List ℕ)) (trials : List TrialView) : Type 0 where
  pub done : List (List ℕ)
  pub split : done ++ rest ≡ briefs
  pub adds : AddsTrials entries words done [] trials
  pub each : All (λ b. 0 < length b) rest
  pub count : length trials + length rest ≡ length briefs

pub passed_none : (entries words briefs : List (List ℕ)) → All (λ b. 0 < length b) briefs → IsPassed entries words briefs briefs []
passed_none entries words briefs each = record { done = []; split = refl; adds = adds_none entries words []; each = each; count = omega arith }

-- one group more
pub passed_more : (entries words briefs rest group others : List (List ℕ)) (old now : List TrialView) → group ++ others ≡ rest → IsPassed entries words briefs rest old →
    AddsTrials entries words group old now → IsPassed entries words briefs others now
passed_more entries words briefs rest group others old now cut h k = record {
  done = h.done ++ group;
  split = append_assoc h.done group others ∙ ap (λ l. h.done ++ l) cut ∙ h.split;
  adds = adds_both entries words h.done group [] old now h.adds k;
  each = all_behind (λ b. 0 < length b) group others (subst (All (λ b. 0 < length b)) (sym cut) h.each);
  count = omega (arith, h.count, ap length k.all, length-append old k.added, zip_length (IsTrial entries words) group k.added k.are, ap length cut, length-append group others);
}

-- those of the next group have strokes
pub passed_each : (entries words briefs rest group others : List (List ℕ)) (old : List TrialView) → group ++ others ≡ rest → IsPassed entries words briefs rest old → All (λ b. 0 < length b) group
passed_each entries words briefs rest group others old cut h = all_before (λ b. 0 < length b) group others (subst (All (λ b. 0 < length b)) (sym cut) h.each)

pub passed_all : (entries words briefs rest : List (List ℕ)) (trials : List TrialView) → length rest ≡ 0 → IsPassed entries words briefs rest trials → AddsTrials entries words briefs [] trials
passed_all entries words briefs [] trials none h = subst (λ (l : List (List ℕ)). AddsTrials entries words l [] trials) (sym (append-nil h.done) ∙ h.split) h.adds
passed_all entries words briefs (b ∷ rest) trials none h = absurd (omega (arith, none))

-- The fault of a group is that of all.
pub passed_stopped : (entries words briefs rest group others : List (List ℕ)) (old : List TrialView) (fault : TrialFault) → group ++ others ≡ rest → IsPassed entries words briefs rest old →
    IsLimitOf (trial_limit entries group) fault → IsLimitOf (trial_limit entries briefs) fault
passed_stopped entries words briefs rest group others old fault cut h k =
    subst (λ (l : List (List ℕ)). IsLimitOf (trial_limit entries l) fault) (ap (λ l. h.done ++ l) cut ∙ h.split)
    (limit_later entries h.done (group ++ others) fault h.adds.within (limit_first entries group others fault k))

-- ---- one outcome after another

-- the next outcome
next_outcome : (all : List (Result TrialView TrialFault)) (n : ℕ) (outcome is : Result TrialView TrialFault) → n < length all → outcome ≡ get_or all n outcome → outcome ≡ is → drop n all ≡ is ∷ drop (n + 1) all
next_outcome all n outcome is l read same = drop_more all n outcome l ∙ ap (λ x. x ∷ drop (n + 1) all) (sym read ∙ same)

pub adding_turn : (entries words group : List (List ℕ)) (old now now' : List TrialView) (all : List (Result TrialView TrialFault)) (yielded : List (Result TrialView TrialFault)) (outcome : Result TrialView TrialFault) (trial : TrialView) →
    length yielded < length all → outcome ≡ get_or all (length yielded) outcome → outcome ≡ Ok trial → now' ≡ now ++ trial ∷ [] → IsAdding entries words group old now (drop (length yielded) all) →
    IsAdding entries words group old now' (drop (length (yielded ++ outcome ∷ [])) all)
adding_turn entries words group old now now' all yielded outcome trial l read ok added h =
    let n : ℕ = length yielded in
    let left = subst (IsAdding entries words group old now) (next_outcome all n outcome (Ok trial) l read ok) h in
    subst (λ (m : ℕ). IsAdding entries words group old now' (drop m all)) (sym (length_push yielded outcome))
    (subst (λ (t : List TrialView). IsAdding entries words group old t (drop (n + 1) all)) (sym added) (adding_more entries words group old now trial (drop (n + 1) all) left))

pub adding_fault : (entries words group : List (List ℕ)) (old now : List TrialView) (all : List (Result TrialView TrialFault)) (n : ℕ) (outcome : Result TrialView TrialFault) (fault : TrialFault) →
    n < length all → outcome ≡ get_or all n outcome → outcome ≡ Err fault → IsAdding entries words group old now (drop n all) → IsLimitOf (trial_limit entries group) fault
adding_fault entries words group old now all n outcome fault l read err h =
    adding_stopped entries words group old now fault (drop (n + 1) all) (subst (IsAdding entries words group old now) (next_outcome all n outcome (Err fault) l read err) h)

drop_end : {A : Type 0} (xs : List A) → drop (length xs) xs ≡ []
drop_end [] = refl
drop_end (x ∷ xs) = drop_end xs

pub adding_end : (entries words group : List (List ℕ)) (old now : List TrialView) (all : List (Result TrialView TrialFault)) (n : ℕ) → n ≡ length all → IsAdding entries words group old now (drop n all) →
    AddsTrials entries words group old now
adding_end entries words group old now all n end h =
    adding_all entries words group old now (subst (IsAdding entries words group old now) (ap (λ m. drop m all) end ∙ drop_end all) h)

-- an answer that is a fault
pub if_err : {T : Type 0} (P : TrialFault → Type 0) (answer : Result T TrialFault) (told fault : TrialFault) → answer ≡ Err told → told ≡ fault → P fault → IfErr answer P
if_err {T} P answer told fault is same h = subst (λ (r : Result T TrialFault). IfErr r P) (sym (is ∙ ap Err same)) h

-- a list cut in two
pub take_drop : (rest front back : List (List ℕ)) (n : ℕ) → front ≡ take n rest → back ≡ drop n rest → front ++ back ≡ rest
take_drop rest front back n is are = ap₂ (λ a b. a ++ b) is are ∙ take-append-drop n rest
