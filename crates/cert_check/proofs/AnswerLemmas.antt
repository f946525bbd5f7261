-- What is answered to a line above the conflicts.
use Rattle.std.proofs.Common.{◌≡◌, ℕ, zero, suc, ◌+◌, ◌-◌, ◌<◌, ◌≤◌, List, [], ◌∷◌, ◌++◌, map, length, refl, sym, ap, subst, arith, Bool, true, false, cond, true≢false, ◌∙◌, append_assoc, append-nil, Option, Some, None}
use Rattle.std.specs.declared.alloc.AllocError.{AllocError}
use Rattle.std.specs.Prelude.{Result, Ok, Err, IfOk, ◌&&◌, ◌||◌, ◌==◌, nat_le, is_some}
use Rattle.std.proofs.lemmas.Bool.{eqb-true, le-leb, leb-true}
use Rattle.std.proofs.lemmas.List.{length_push}
use Rattle.certificate.specs.declared.lines.CertLine.{CertLine}
use Rattle.certificate.specs.declared.lines.CertLine.TheVariants as of
use Rattle.cert_check.specs.inside.Places.{ends_listed, places_from, states_at, on_line, run_states}
use Rattle.cert_check.specs.inside.Runs.{ListsRun}
use Rattle.cert_check.specs.inside.Uppers.{AnswersLine, Represents, RepresentsNext, line_failure, IsSound, IsSoundNext}
use Rattle.certificate.specs.CertTexts.{Listed}
use Rattle.certificate_laws.specs.Checks.{is_conflicts, Lines, line_at, is_version, may_follow, may_follow_at, listed_in, listed_by, may_be_listed, rise_above}
use Rattle.certificate_laws.specs.Closures.{Closure, closure_of}
use Rattle.certificate_laws.specs.Validity.{content_check, listed_on_lines}
use Rattle.certificate_laws.specs.inside.OnLines.{state_on_line}
use Rattle.report.specs.declared.faults.Why.{Why}
use Rattle.report.specs.declared.faults.Why.TheVariants as why
use Rattle.cert_check.specs.declared.places.Place.{Place}
use Rattle.cert_check.specs.declared.upper.Upper.{Upper}
use Rattle.steno_rules.specs.Outlines.{AreEntries, AreWords, flagged_entries}
use Rattle.steno_rules.specs.StateNumbers.{number_count, state_of_number}
use Rattle.state_numbering.specs.Numberings.{NumberingView}
use Rattle.steno_rules.proofs.FlaggedWords.{flagged-are}
use Rattle.certificate_laws.proofs.ListingLemmas.{on_lines-listed}

-- The listed_on_lines states of one line more.
pub on_lines-push : (k : ℕ) (before : Lines) (o : Option CertLine) → listed_on_lines k (before ++ o ∷ []) ≡ listed_on_lines k before ++ on_line (k + length before) (listed_by o)
on_lines-push k [] o = let e : k + 0 ≡ k = omega arith in append-nil (on_line k (listed_by o)) ∙ ap (λ n. on_line n (listed_by o)) (sym e)
on_lines-push k (b ∷ bs) o =
    let e : k + 1 + length bs ≡ k + suc (length bs) = omega arith in
    ap (λ xs. on_line k (listed_by b) ++ xs) (on_lines-push (k + 1) bs o)
    ∙ (sym (append_assoc (on_line k (listed_by b)) (listed_on_lines (k + 1) bs) (on_line (k + 1 + length bs) (listed_by o)))
    ∙ ap (λ n. on_line k (listed_by b) ++ listed_on_lines (k + 1) bs ++ on_line n (listed_by o)) e)

-- the first line stays the first
pub first_stays : (before : Lines) (o : Option CertLine) → 0 < length before → line_at (before ++ o ∷ []) 1 ≡ line_at before 1
first_stays [] o lt = absurd (omega arith)
first_stays (b ∷ bs) o lt = refl

pub first_line : (before : Lines) (o : Option CertLine) → length before ≡ 0 → line_at (before ++ o ∷ []) 1 ≡ o
first_line [] None e = refl
first_line [] (Some l) e = refl
first_line (b ∷ bs) o e = absurd (omega (arith, e))

-- An answer is content_check by what is due and what is content_check.
pub answers_by : (closure : Closure) (old new : Upper) (l : CertLine) (due r : Bool) (reason : Why) (failure : Option Why) → failure ≡ cond due (cond r None (Some reason)) (Some why.Form) →
    ((before : Lines) → Represents old before → may_follow before (Some l) ≡ due) →
    ((before : Lines) → Represents old before → due ≡ true → ((content_check closure before (length before + 1) (Some l)).holds ≡ r) × ((content_check closure before (length before + 1) (Some l)).reason ≡ reason)) →
    ((before : Lines) → Represents old before → due ≡ true → r ≡ true → RepresentsNext new (before ++ Some l ∷ [])) → AnswersLine closure old new l failure
answers_by closure old new l due r reason failure e is_due_is right_is next before is = by due r e (is_due_is before is) (right_is before is) (next before is)
  where
    by : (d : Bool) (r : Bool) → failure ≡ cond d (cond r None (Some reason)) (Some why.Form) → may_follow before (Some l) ≡ d →
        (d ≡ true → ((content_check closure before (length before + 1) (Some l)).holds ≡ r) × ((content_check closure before (length before + 1) (Some l)).reason ≡ reason)) → (d ≡ true → r ≡ true → RepresentsNext new (before ++ Some l ∷ [])) →
        (failure ≡ line_failure closure before l) × (failure ≡ None → RepresentsNext new (before ++ Some l ∷ []))
    by false r e d h n = (
      e ∙ sym (ap (λ b. cond b (cond ((content_check closure before (length before + 1) (Some l)).holds) None (Some (content_check closure before (length before + 1) (Some l)).reason)) (Some why.Form)) d),
      λ none. absurd (true≢false (ap is_some (sym e ∙ none))),
    )
    by true false e d h n = (
      e ∙ sym (ap (λ b. cond b (cond ((content_check closure before (length before + 1) (Some l)).holds) None (Some (content_check closure before (length before + 1) (Some l)).reason)) (Some why.Form)) d
          ∙ (ap (λ b. cond b None (Some (content_check closure before (length before + 1) (Some l)).reason)) (h refl).0 ∙ ap (λ x. Some x) (h refl).1)),
      λ none. absurd (true≢false (ap is_some (sym e ∙ none))),
    )
    by true true e d h n = (
      e ∙ sym (ap (λ b. cond b (cond ((content_check closure before (length before + 1) (Some l)).holds) None (Some (content_check closure before (length before + 1) (Some l)).reason)) (Some why.Form)) d
          ∙ ap (λ b. cond b None (Some (content_check closure before (length before + 1) (Some l)).reason)) (h refl).0),
      λ none. n refl refl,
    )

pub not_same : (n k : ℕ) → (n ≡ k → ⊥) → (n == k) ≡ false
not_same n k h = by (n == k) refl
  where
    by : (b : Bool) → (n == k) ≡ b → b ≡ false
    by true is = absurd (h (eqb-true n k is))
    by false is = refl

pub no_le : (n k : ℕ) → k < n → nat_le n k ≡ false
no_le n k h = by (nat_le n k) refl
  where
    by : (b : Bool) → nat_le n k ≡ b → b ≡ false
    by true is = absurd (let l = leb-true n k is in omega (arith, l, h))
    by false is = refl

pub due_head : (before : Lines) (n v : ℕ) → may_follow_at before n (Some (of.Head v)) ≡ ((n == 0) && (v == 1 || v == 2))
due_head before zero v = refl
due_head before (suc zero) v = refl
due_head before (suc (suc zero)) v = refl
due_head before (suc (suc (suc n))) v = sym (ap (λ b. b && (v == 1 || v == 2)) (not_same (suc (suc (suc n))) 0 (λ e. absurd (omega (arith, e)))))

pub due_entries : (before : Lines) (n k : ℕ) → may_follow_at before n (Some (of.Entries k)) ≡ (n == 1)
due_entries before zero k = refl
due_entries before (suc zero) k = refl
due_entries before (suc (suc zero)) k = refl
due_entries before (suc (suc (suc n))) k = sym (not_same (suc (suc (suc n))) 1 (λ e. absurd (omega (arith, e))))

pub due_states : (before : Lines) (n k : ℕ) → may_follow_at before n (Some (of.States k)) ≡ (n == 2)
due_states before zero k = refl
due_states before (suc zero) k = refl
due_states before (suc (suc zero)) k = refl
due_states before (suc (suc (suc n))) k = sym (not_same (suc (suc (suc n))) 2 (λ e. absurd (omega (arith, e))))

pub due_distance : (before : Lines) (n s d : ℕ) → may_follow_at before n (Some (of.Distance s d)) ≡ (nat_le 3 n && is_version (line_at before 1) 1)
due_distance before zero s d = refl
due_distance before (suc zero) s d = refl
due_distance before (suc (suc zero)) s d = refl
due_distance before (suc (suc (suc n))) s d = sym (ap (λ b. b && is_version (line_at before 1) 1) (le-leb 3 (suc (suc (suc n))) (omega arith)))

pub due_run : (before : Lines) (n s t d : ℕ) → may_follow_at before n (Some (of.Run s t d)) ≡ (nat_le 3 n && (is_version (line_at before 1) 2 && nat_le s t))
due_run before zero s t d = refl
due_run before (suc zero) s t d = refl
due_run before (suc (suc zero)) s t d = refl
due_run before (suc (suc (suc n))) s t d = sym (ap (λ b. b && (is_version (line_at before 1) 2 && nat_le s t)) (le-leb 3 (suc (suc (suc n))) (omega arith)))

pub due_conflicts : (before : Lines) (n k : ℕ) → may_follow_at before n (Some (of.Conflicts k)) ≡ nat_le 3 n
due_conflicts before zero k = refl
due_conflicts before (suc zero) k = refl
due_conflicts before (suc (suc zero)) k = refl
due_conflicts before (suc (suc (suc n))) k = sym (le-leb 3 (suc (suc (suc n))) (omega arith))

pub due_row : (before : Lines) (n : ℕ) → (r : _) → may_follow_at before n (Some (of.Row r)) ≡ false
due_row before zero r = refl
due_row before (suc zero) r = refl
due_row before (suc (suc zero)) r = refl
due_row before (suc (suc (suc n))) r = refl

pub due_end : (before : Lines) (n : ℕ) → may_follow_at before n (Some of.End) ≡ false
due_end before zero = refl
due_end before (suc zero) = refl
due_end before (suc (suc zero)) = refl
due_end before (suc (suc (suc n))) = refl

-- a line that lists no state is content_check by itself
nothing_listed : (before : List Listed) → rise_above before [] ≡ true
nothing_listed before = refl

-- one line more that lists nothing, behind the first
next_quiet : (old : Upper) (before : Lines) (l : CertLine) → Represents old before → 0 < old.lines → listed_by (Some l) ≡ [] → RepresentsNext old (before ++ Some l ∷ [])
next_quiet old before l is some none = record {
  count = length_push before (Some l) ∙ ap (λ n. n + 1) is.count;
  version = first_stays before (Some l) (let c = is.count in omega (arith, c, some)) ∙ is.version some;
  states = is.states ∙ (sym (append-nil (listed_on_lines 1 before)) ∙ (ap (λ xs. listed_on_lines 1 before ++ on_line (1 + length before) xs) (sym none) ∙ sym (on_lines-push 1 before (Some l))));
}

pub head_answers : (closure : Closure) (old new : Upper) (v : ℕ) (failure : Option Why) → failure ≡ cond ((old.lines == 0) && (v == 1 || v == 2)) (cond true None (Some why.Form)) (Some why.Form) →
    new.places.items ≡ old.places.items → new.lines ≡ old.lines → (old.lines ≡ 0 → new.version ≡ v) → AnswersLine closure old new (of.Head v) failure
head_answers closure old new v failure e places lines version before is = answers_by closure old new (of.Head v) ((old.lines == 0) && (v == 1 || v == 2)) true why.Number failure (e ∙ same ((old.lines == 0) && (v == 1 || v == 2)))
    (λ b h. ap (λ n. may_follow_at b n (Some (of.Head v))) h.count ∙ due_head b old.lines v)
    (λ b h due. (refl, refl))
    (λ b h due r.
    let zero_is : old.lines ≡ 0 = first (old.lines == 0) refl due in
    let none : length b ≡ 0 = h.count ∙ zero_is in
    record {
      count = length_push b (Some (of.Head v)) ∙ ap (λ n. n + 1) (h.count ∙ sym lines);
      version = first_line b (Some (of.Head v)) none ∙ ap (λ k. Some (of.Head k)) (sym (version zero_is));
      states = ap (places_from 0) places ∙ (h.states ∙ (sym (append-nil (listed_on_lines 1 b)) ∙ sym (on_lines-push 1 b (Some (of.Head v)))));
    }) before is
  where
    same : (b : Bool) → cond b (cond true None (Some why.Form)) (Some why.Form) ≡ cond b (cond true None (Some why.Number)) (Some why.Form)
    same true = refl
    same false = refl

    first : (b : Bool) → (old.lines == 0) ≡ b → (b && (v == 1 || v == 2)) ≡ true → old.lines ≡ 0
    first true is_zero e = eqb-true old.lines 0 is_zero
    first false is_zero e = absurd (true≢false (sym e))

pub entries_answers : (closure : Closure) (old : Upper) (k : ℕ) (failure : Option Why) → failure ≡ cond (old.lines == 1) (cond (k == length closure.outlines) None (Some why.Entries)) (Some why.Form) → AnswersLine closure old old (of.Entries k) failure
entries_answers closure old k failure e = answers_by closure old old (of.Entries k) (old.lines == 1) (k == length closure.outlines) why.Entries failure e
    (λ b h. ap (λ n. may_follow_at b n (Some (of.Entries k))) h.count ∙ due_entries b old.lines k)
    (λ b h due. (refl, refl))
    (λ b h due r. next_quiet old b (of.Entries k) h (let one = eqb-true old.lines 1 due in omega (arith, one)) refl)

pub states_answers : (closure : Closure) (old : Upper) (k : ℕ) (failure : Option Why) → failure ≡ cond (old.lines == 2) (cond (k == closure.count) None (Some why.States)) (Some why.Form) → AnswersLine closure old old (of.States k) failure
states_answers closure old k failure e = answers_by closure old old (of.States k) (old.lines == 2) (k == closure.count) why.States failure e
    (λ b h. ap (λ n. may_follow_at b n (Some (of.States k))) h.count ∙ due_states b old.lines k)
    (λ b h due. (refl, refl))
    (λ b h due r. next_quiet old b (of.States k) h (let two = eqb-true old.lines 2 due in omega (arith, two)) refl)

pub conflicts_answers : (closure : Closure) (old : Upper) (k : ℕ) (before : Lines) → Represents old before → line_failure closure before (of.Conflicts k) ≡ cond (nat_le 3 old.lines) None (Some why.Form)
conflicts_answers closure old k before is = ap (λ b. cond b None (Some why.Form)) (ap (λ n. may_follow_at before n (Some (of.Conflicts k))) is.count ∙ due_conflicts before old.lines k)

pub no_answers : (closure : Closure) (old new : Upper) (l : CertLine) (failure : Option Why) → failure ≡ Some why.Form → ((before : Lines) → (n : ℕ) → may_follow_at before n (Some l) ≡ false) → AnswersLine closure old new l failure
no_answers closure old new l failure e never before is = (
  e ∙ sym (ap (λ b. cond b (cond ((content_check closure before (length before + 1) (Some l)).holds) None (Some (content_check closure before (length before + 1) (Some l)).reason)) (Some why.Form)) (never before (length before))),
  λ none. absurd (true≢false (ap is_some (sym e ∙ none))),
)

pub row_answers : (closure : Closure) (old new : Upper) → (r : _) → (failure : Option Why) → failure ≡ Some why.Form → AnswersLine closure old new (of.Row r) failure
row_answers closure old new r failure e = no_answers closure old new (of.Row r) failure e (λ b n. due_row b n r)

pub end_answers : (closure : Closure) (old new : Upper) (failure : Option Why) → failure ≡ Some why.Form → AnswersLine closure old new of.End failure
end_answers closure old new failure e = no_answers closure old new of.End failure e (λ b n. due_end b n)

-- the version that stands on the first line
version_is : (old : Upper) (before : Lines) (k : ℕ) → Represents old before → 3 ≤ old.lines → is_version (line_at before 1) k ≡ (old.version == k)
version_is old before k is le = ap (λ o. is_version o k) (is.version (omega (arith, le)))

pub under : (a b c : Bool) → (a ≡ true → b ≡ c) → (a && b) ≡ (a && c)
under true b c h = h refl
under false b c h = refl

pub left_true : (a b : Bool) → (a && b) ≡ true → a ≡ true
left_true true b e = refl
left_true false b e = absurd (true≢false (sym e))

-- a line that lists a run of states, where the run is content_check exactly if r, and is listed_in then
listing_answers : (closure : Closure) (old new : Upper) (l : CertLine) (due r : Bool) (s n d : ℕ) (failure : Option Why) → failure ≡ cond due (cond r None (Some why.Number)) (Some why.Form) →
    ((before : Lines) → Represents old before → may_follow before (Some l) ≡ due) → (due ≡ true → 3 ≤ old.lines) → listed_by (Some l) ≡ run_states s n d →
    ((before : Lines) → ((content_check closure before (length before + 1) (Some l)).holds ≡ may_be_listed closure.has_state (listed_in before) (listed_by (Some l))) × ((content_check closure before (length before + 1) (Some l)).reason ≡ why.Number)) →
    (due ≡ true → r ≡ may_be_listed closure.has_state (states_at old.places.items) (run_states s n d)) →
    (due ≡ true → r ≡ true → places_from 0 new.places.items ≡ places_from 0 old.places.items ++ on_line (old.lines + 1) (run_states s n d)) → new.lines ≡ old.lines → new.version ≡ old.version → AnswersLine closure old new l failure
listing_answers closure old new l due r s n d failure e due_is late lists says right_is adds lines version = answers_by closure old new l due r why.Number failure e due_is
    (λ b h is. (
      (let all : listed_in b ≡ states_at old.places.items = sym (on_lines-listed 1 b) ∙ ap (map state_on_line) (sym h.states) in
          (says b).0 ∙ (ap (may_be_listed closure.has_state (listed_in b)) lists ∙ (ap (λ xs. may_be_listed closure.has_state xs (run_states s n d)) all ∙ sym (right_is is)))),
      (says b).1,
    ))
    (λ b h is is_right.
    let some = late is in record {
      count = length_push b (Some l) ∙ ap (λ k. k + 1) (h.count ∙ sym lines);
      version = first_stays b (Some l) (let c = h.count in omega (arith, c, some)) ∙ (h.version (omega (arith, some)) ∙ ap (λ k. Some (of.Head k)) (sym version));
      states =
          (let at : old.lines + 1 ≡ 1 + length b = (let c = h.count in omega (arith, c)) in
          adds is is_right ∙ (ap (λ xs. xs ++ on_line (old.lines + 1) (run_states s n d)) h.states
          ∙ (ap (λ k. listed_on_lines 1 b ++ on_line k (run_states s n d)) at ∙ (ap (λ xs. listed_on_lines 1 b ++ on_line (1 + length b) xs) (sym lists) ∙ sym (on_lines-push 1 b (Some l))))));
    })

pub distance_answers : (closure : Closure) (old new : Upper) (s d : ℕ) (due r : Bool) (failure : Option Why) → failure ≡ cond due (cond r None (Some why.Number)) (Some why.Form) → due ≡ (nat_le 3 old.lines && (old.version == 1)) →
    (due ≡ true → r ≡ may_be_listed closure.has_state (states_at old.places.items) (run_states s (s + 1 - s) d)) →
    (due ≡ true → r ≡ true → places_from 0 new.places.items ≡ places_from 0 old.places.items ++ on_line (old.lines + 1) (run_states s (s + 1 - s) d)) → new.lines ≡ old.lines → new.version ≡ old.version → AnswersLine closure old new (of.Distance s d) failure
distance_answers closure old new s d due r failure e due_is right_is adds lines version =
    let one : s + 1 - s ≡ 1 = omega arith in
    listing_answers closure old new (of.Distance s d) due r s (s + 1 - s) d failure e
    (λ b h. ap (λ n. may_follow_at b n (Some (of.Distance s d))) h.count ∙ (due_distance b old.lines s d ∙ (under (nat_le 3 old.lines) (is_version (line_at b 1) 1) (old.version == 1) (λ le. version_is old b 1 h (leb-true 3 old.lines le)) ∙ sym due_is)))
    (λ is. leb-true 3 old.lines (left_true (nat_le 3 old.lines) (old.version == 1) (sym due_is ∙ is))) (ap (λ k. run_states s k d) (sym one)) (λ b. (refl, refl)) right_is adds lines version

pub run_answers : (closure : Closure) (old new : Upper) (s t d : ℕ) (due r : Bool) (failure : Option Why) → failure ≡ cond due (cond r None (Some why.Number)) (Some why.Form) → due ≡ (nat_le 3 old.lines && ((old.version == 2) && nat_le s t)) →
    (due ≡ true → r ≡ may_be_listed closure.has_state (states_at old.places.items) (run_states s (t + 1 - s) d)) →
    (due ≡ true → r ≡ true → places_from 0 new.places.items ≡ places_from 0 old.places.items ++ on_line (old.lines + 1) (run_states s (t + 1 - s) d)) → new.lines ≡ old.lines → new.version ≡ old.version → AnswersLine closure old new (of.Run s t d) failure
run_answers closure old new s t d due r failure e due_is right_is adds lines version =
    listing_answers closure old new (of.Run s t d) due r s (t + 1 - s) d failure e
    (λ b h. ap (λ n. may_follow_at b n (Some (of.Run s t d))) h.count ∙ (due_run b old.lines s t d ∙ (under (nat_le 3 old.lines) (is_version (line_at b 1) 2 && nat_le s t) ((old.version == 2) && nat_le s t) (λ le. ap (λ c. c && nat_le s t) (version_is old b 2 h (leb-true 3 old.lines le))) ∙ sym due_is)))
    (λ is. leb-true 3 old.lines (left_true (nat_le 3 old.lines) ((old.version == 2) && nat_le s t) (sym due_is ∙ is))) refl (λ b. (refl, refl)) right_is adds lines version

-- What listing a run says, against the closure.
pub lists_closure : (entries words : List (List ℕ)) (flags : List Bool) (line s t d : ℕ) (old new : List Place) (r : Bool) → AreEntries entries → words ≡ flagged_entries entries flags → ends_listed old ≡ true → ListsRun entries words line s t d old new r →
    r ≡ may_be_listed ((closure_of entries flags).has_state) (states_at old) (run_states s (t + 1 - s) d)
lists_closure entries words flags line s t d old new r are is ends lists =
    subst (λ ws. AreWords entries ws → r ≡ may_be_listed (λ n. is_some (state_of_number entries ws n)) (states_at old) (run_states s (t + 1 - s) d)) is (λ all. lists.answers all ends) (flagged-are entries flags are)

-- A run that was listed_in keeps the places sound.
pub lists_sound : (entries words : List (List ℕ)) (line s t d : ℕ) (old new : Upper) → IsSound entries old → ListsRun entries words line s t d old.places.items new.places.items true → new.lines ≡ old.lines → IsSoundNext entries new
lists_sound entries words line s t d old new is lists lines = record {
  limit = is.limit;
  lines = (let a = is.lines in let b = lists.more refl in omega (arith, a, b, lines));
  few = lists.few refl;
  last = lists.ends refl;
}

-- of a failure that is none
pub no_failure : (due r : Bool) (reason : Why) (failure : Option Why) → failure ≡ cond due (cond r None (Some reason)) (Some why.Form) → failure ≡ None → (due ≡ true) × (r ≡ true)
no_failure true true reason failure e none = (refl, refl)
no_failure true false reason failure e none = absurd (true≢false (ap is_some (sym e ∙ none)))
no_failure false r reason failure e none = absurd (true≢false (ap is_some (sym e ∙ none)))

pub early_failure : (lines n : ℕ) (r : Bool) (reason : Why) (failure : Option Why) → failure ≡ cond (lines == n) (cond r None (Some reason)) (Some why.Form) → failure ≡ None → n ≤ 2 → lines ≤ 2
early_failure lines n r reason failure e none le = let d = no_failure (lines == n) r reason failure e none in let same = eqb-true lines n d.0 in omega (arith, same, le)

-- A line that lists nothing keeps the places sound.
pub quiet_sound : (entries : List (List ℕ)) (old new : Upper) → IsSound entries old → new.places.items ≡ old.places.items → new.lines ≡ old.lines → old.lines ≤ 2 → IsSoundNext entries new
quiet_sound entries old new is places lines early = record {
  limit = is.limit;
  lines = omega (arith, early, lines);
  few = subst (λ ps. length ps ≤ number_count entries) (sym places) is.few;
  last = subst (λ ps. ends_listed ps ≡ true) (sym places) is.last;
}

-- The entries and words of a numbering that is over a stack.
pub record IsOver (n : NumberingView) (entries words : List (List ℕ)) : Type 0 where
  pub entries_are : n.entries ≡ entries
  pub words_are : n.words ≡ words

pub over_of : (n : NumberingView) (entries words : List (List ℕ)) → n ≡ record { entries = entries; words = words } → IsOver n entries words
over_of n entries words e = record { entries_are = ap (λ (m : NumberingView). m.entries) e; words_are = ap (λ (m : NumberingView). m.words) e }

-- an answer over a numbering, as one over the stack
pub answers_over : (entries words es : List (List ℕ)) (flags : List Bool) (old new : Upper) (l m : CertLine) (r : Result (Option Why) AllocError) → es ≡ entries → words ≡ flagged_entries entries flags → AreEntries entries → m ≡ l →
    IfOk r (λ failure. (fs : List Bool) → AreEntries es → words ≡ flagged_entries es fs → AnswersLine (closure_of es fs) old new l failure) → IfOk r (λ failure. is_conflicts (Some m) ≡ false → AnswersLine (closure_of entries flags) old new m failure)
answers_over entries words es flags old new l m (Ok failure) same is are line h = λ other.
    subst (λ k. AnswersLine (closure_of entries flags) old new k failure) (sym line)
    (subst (λ e. AreEntries e → words ≡ flagged_entries e flags → AnswersLine (closure_of e flags) old new l failure) same (h flags) are is)
answers_over entries words es flags old new l m (Err e) same is are line h = tt
