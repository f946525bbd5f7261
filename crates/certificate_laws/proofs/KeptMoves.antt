-- The kept targets and the targets of fresh come to the same as all targets.
use Rattle.std.proofs.Common.{◌≡◌, ℕ, ◌+◌, ◌-◌, ◌≤◌, List, [], ◌∷◌, ◌++◌, map, filter, refl, sym, ap, subst, arith, Bool, true, false, cond, true≢false, Option, Some, None, ◌∙◌, Contains}
use Rattle.std.specs.Prelude.{◌&&◌, ◌||◌, ◌==◌, nat_le}
use Rattle.std.specs.List.{list_all}
use Rattle.std.proofs.lemmas.Bool.{leb-true, le-leb}
use Rattle.steno_rules.specs.Outlines.{AreEntries, flagged_entries}
use Rattle.steno_rules.specs.States.{State, fresh, IsState, IsMove, targets, kept_targets, is_kept}
use Rattle.steno_rules.specs.StateNumbers.{state_number, state_of_number}
use Rattle.steno_rules.specs.ClosureGraphs.{numbers_by}
use Rattle.steno_rules.proofs.FlaggedWords.{flagged-are}
use Rattle.steno_rules.proofs.Lists.{in_first, in_later, in_filter, in_map, in_map_of}
use Rattle.closure_laws.proofs.StateLemmas.{IsState-fresh}
use Rattle.closure_laws.proofs.StateNumberLemmas.{number_of_fresh}
use Rattle.closure_laws.proofs.NumberStateLemmas.{state_of_number-there}
use Rattle.closure_laws.proofs.TargetLemmas.{targets-Contains}
use Rattle.closure_laws.proofs.KeptLemmas.{dropped_to_fresh}
use Rattle.certificate.specs.CertTexts.{Listed}
use Rattle.report.specs.declared.faults.Why.TheVariants as why
use Rattle.certificate_laws.specs.Checks.{Check, then_check, first_failure}
use Rattle.certificate_laws.specs.Closures.{closure_of, kept_numbers}
use Rattle.certificate_laws.specs.Validity.{is_listed_within, leads_on_by}
use Rattle.certificate_laws.proofs.HoldLemmas.{both_back, list_all_in}

same_bool : (a b : Bool) → (a ≡ true → b ≡ true) → (b ≡ true → a ≡ true) → a ≡ b
same_bool true b f g = sym (f refl)
same_bool false true f g = absurd (true≢false (sym (g refl)))
same_bool false false f g = refl

all_pass : {A : Type 0} (p : A → Bool) (xs : List A) → ((x : A) → Contains xs x → p x ≡ true) → list_all p xs ≡ true
all_pass p [] f = refl
all_pass p (x ∷ xs) f = both_back (p x) (list_all p xs) (f x (in_first x xs)) (all_pass p xs (λ y has. f y (in_later x xs y has)))

filter_all : (f : State → Bool) (xs : List State) → ((t : State) → f t ≡ true) → filter f xs ≡ xs
filter_all f [] h = refl
filter_all f (x ∷ xs) h = ap (λ b. cond b (x ∷ filter f xs) (filter f xs)) (h x) ∙ ap (λ ys. x ∷ ys) (filter_all f xs h)

-- fresh drops no target
fresh_keeps : (entries words : List (List ℕ)) → kept_targets entries words fresh ≡ targets entries words fresh
fresh_keeps entries words = filter_all (is_kept fresh) (targets entries words fresh) (λ t. refl)

-- more is allowed
within_more : (all : List Listed) (a b n : ℕ) → a ≤ b → is_listed_within all a n ≡ true → is_listed_within all b n ≡ true
within_more [] a b n le e = e
within_more (s ∷ ss) a b n le e = by (s.state == n) (nat_le s.distance a) (nat_le s.distance b) (λ t. le-leb s.distance b (let d = leb-true s.distance a t in omega (arith, d, le))) e (within_more ss a b n le)
  where
    by : (x y z : Bool) → (y ≡ true → z ≡ true) → ((x && y) || is_listed_within ss a n) ≡ true → (is_listed_within ss a n ≡ true → is_listed_within ss b n ≡ true) → ((x && z) || is_listed_within ss b n) ≡ true
    by false y z f e' rest = rest e'
    by true true z f e' rest = rw (f refl) refl
    by true false true f e' rest = refl
    by true false false f e' rest = rest e'

module _ (entries : List (List ℕ)) (flags : List Bool) (all : List Listed) where
  abbrev words : List (List ℕ)
  words = flagged_entries entries flags

  abbrev all_targets : ℕ → List ℕ
  all_targets = (closure_of entries flags).targets

  -- where a state has a number, its targets by their numbers
  targets_of : (s : State) → AreEntries entries → IsState entries words s → all_targets (state_number entries s) ≡ map (state_number entries) (targets entries words s)
  targets_of s are is = ap (numbers_by entries (targets entries words)) (state_of_number-there entries words s (flagged-are entries flags are) is)

  fresh_leads : AreEntries entries → (t : State) → leads_on_by all_targets all (record { state = 0; distance = 0 }) ≡ true → Contains (targets entries words fresh) t → is_listed_within all 1 (state_number entries t) ≡ true
  fresh_leads are t leads has =
      let at_zero : all_targets 0 ≡ map (state_number entries) (targets entries words fresh) = ap all_targets (sym (number_of_fresh entries)) ∙ targets_of fresh are (IsState-fresh entries words) in
      let on : list_all (is_listed_within all 1) (map (state_number entries) (targets entries words fresh)) ≡ true = subst (λ ts. list_all (is_listed_within all 1) ts ≡ true) at_zero leads in
      list_all_in (is_listed_within all 1) (map (state_number entries) (targets entries words fresh)) (state_number entries t) on (in_map_of (state_number entries) (targets entries words fresh) t has)

  -- of one state
  leads_of : (o : Option State) (n d : ℕ) → state_of_number entries words n ≡ o → AreEntries entries → leads_on_by all_targets all (record { state = 0; distance = 0 }) ≡ true →
      list_all (is_listed_within all (d + 1)) (numbers_by entries (targets entries words) o) ≡ list_all (is_listed_within all (d + 1)) (numbers_by entries (kept_targets entries words) o)
  leads_of None n d is are first = refl
  leads_of (Some s) n d is are first = same_bool _ _
      (λ leads. all_pass (is_listed_within all (d + 1)) (map (state_number entries) (kept_targets entries words s)) (λ m has.
      let x = in_map (state_number entries) (kept_targets entries words s) m has in
      list_all_in (is_listed_within all (d + 1)) (map (state_number entries) (targets entries words s)) m leads (subst (Contains (map (state_number entries) (targets entries words s))) x.2 (in_map_of (state_number entries) (targets entries words s) x.0 ((in_filter (is_kept s) (targets entries words s) x.0).0 x.1).0))))
      (λ leads. all_pass (is_listed_within all (d + 1)) (map (state_number entries) (targets entries words s)) (λ m has.
      let x = in_map (state_number entries) (targets entries words s) m has in subst (λ k. is_listed_within all (d + 1) k ≡ true) x.2 (by x.0 (is_kept s x.0) refl x.1 leads)))
    where
      by : (t : State) (b : Bool) → is_kept s t ≡ b → Contains (targets entries words s) t → list_all (is_listed_within all (d + 1)) (map (state_number entries) (kept_targets entries words s)) ≡ true → is_listed_within all (d + 1) (state_number entries t) ≡ true
      by t true keeps has leads = list_all_in (is_listed_within all (d + 1)) (map (state_number entries) (kept_targets entries words s)) (state_number entries t) leads (in_map_of (state_number entries) (kept_targets entries words s) t ((in_filter (is_kept s) (targets entries words s) t).1 (has, keeps)))
      by t false drops has leads =
          let move : IsMove entries words s t = (targets-Contains entries words s t).0 has in
          let from : Contains (targets entries words fresh) t = (targets-Contains entries words fresh t).1 (move.0, dropped_to_fresh entries words s t move.0 move.1 drops) in
          within_more all 1 (d + 1) (state_number entries t) (omega arith) (fresh_leads are t first from)

  -- Once fresh leads on, a state leads on by all targets where it does by the kept ones.
  pub leads_by_kept : (s : Listed) → AreEntries entries → leads_on_by all_targets all (record { state = 0; distance = 0 }) ≡ true → leads_on_by all_targets all s ≡ leads_on_by (kept_numbers entries flags) all s
  leads_by_kept s are first = leads_of (state_of_number entries words s.state) s.state s.distance refl are first

  -- Fresh itself keeps all its targets.
  pub fresh_by_kept : AreEntries entries → leads_on_by all_targets all (record { state = 0; distance = 0 }) ≡ leads_on_by (kept_numbers entries flags) all (record { state = 0; distance = 0 })
  fresh_by_kept are =
      let at_zero : state_of_number entries words 0 ≡ Some fresh = ap (state_of_number entries words) (sym (number_of_fresh entries)) ∙ state_of_number-there entries words fresh (flagged-are entries flags are) (IsState-fresh entries words) in
      ap (λ o. list_all (is_listed_within all 1) (numbers_by entries (targets entries words) o)) at_zero
      ∙ (ap (λ ts. list_all (is_listed_within all 1) (map (state_number entries) ts)) (sym (fresh_keeps entries words))
      ∙ sym (ap (λ o. list_all (is_listed_within all 1) (numbers_by entries (kept_targets entries words) o)) at_zero))

  abbrev move_check : (ℕ → List ℕ) → ℕ → ℕ × Listed → Check
  move_check f at s = then_check at s.0 why.Move (leads_on_by f all s.1)

  rest_by_kept : (at : ℕ) (xs : List (ℕ × Listed)) → AreEntries entries → leads_on_by all_targets all (record { state = 0; distance = 0 }) ≡ true →
      map (move_check all_targets at) xs ≡ map (move_check (kept_numbers entries flags) at) xs
  rest_by_kept at [] are first = refl
  rest_by_kept at (x ∷ xs) are first =
      ap (λ b. then_check at x.0 why.Move b ∷ map (move_check all_targets at) xs) (leads_by_kept x.1 are first)
      ∙ ap (λ cs. move_check (kept_numbers entries flags) at x ∷ cs) (rest_by_kept at xs are first)

  -- Where fresh is the first state, checking the kept targets finds the same first failure as checking all.
  pub moves_by_kept : (most : Option ℕ) (at n : ℕ) (xs : List (ℕ × Listed)) (more : List Check) → AreEntries entries →
      first_failure most (map (move_check all_targets at) ((n, record { state = 0; distance = 0 }) ∷ xs) ++ more)
      ≡ first_failure most (map (move_check (kept_numbers entries flags) at) ((n, record { state = 0; distance = 0 }) ∷ xs) ++ more)
  moves_by_kept most at n xs more are = by (leads_on_by all_targets all (record { state = 0; distance = 0 })) refl (leads_on_by (kept_numbers entries flags) all (record { state = 0; distance = 0 })) (fresh_by_kept are)
    where
      by : (b : Bool) → leads_on_by all_targets all (record { state = 0; distance = 0 }) ≡ b → (k : Bool) → leads_on_by all_targets all (record { state = 0; distance = 0 }) ≡ k →
          first_failure most (then_check at n why.Move b ∷ (map (move_check all_targets at) xs ++ more)) ≡ first_failure most (then_check at n why.Move k ∷ (map (move_check (kept_numbers entries flags) at) xs ++ more))
      by true is true same = ap (λ cs. first_failure most (then_check at n why.Move true ∷ (cs ++ more))) (rest_by_kept at xs are is)
      by true is false same = absurd (true≢false (sym is ∙ same))
      by false is true same = absurd (true≢false (sym same ∙ is))
      by false is false same = refl
