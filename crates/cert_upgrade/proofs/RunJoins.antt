-- Runs that are joined as they come are the longest runs.
use Rattle.std.proofs.Common.{◌≡◌, ℕ, zero, suc, ◌+◌, ◌-◌, ◌≤◌, List, [], ◌∷◌, ◌++◌, append_assoc, length, map, refl, sym, ap, arith, Bool, true, false, cond, Some, None, ◌∙◌}
use Rattle.std.specs.Prelude.{◌&&◌, ◌==◌}
use Rattle.std.specs.List.{range_with_len}
use Rattle.std.proofs.lemmas.Bool.{eqb-true, eq-eqb}
use Rattle.certificate.specs.declared.lines.CertLine.{CertLine}
use Rattle.certificate.specs.declared.lines.CertLine.TheVariants as of
use Rattle.certificate.specs.CertTexts.{Listed, Run, onto_runs, runs_of}
use Rattle.certificate_laws.proofs.HoldLemmas.{both, both_back}
use Rattle.audit_certificate.specs.Runs.{states_of_run}
use Rattle.audit_certificate.proofs.RunLemmas.{goes_on, longer_run, single}
use Rattle.cert_upgrade.specs.inside.Uppers.{joined, run_before, with_run}

-- the run goes on in this one
abbrev pub goes_on_in : Run → Run → Bool
goes_on_in r q = (q.first == r.last + 1) && (q.distance == r.distance)

-- both as one run
abbrev pub as_one : Run → Run → Run
as_one r q = record { first = r.first; last = q.last; distance = q.distance }

-- runs with one more behind them
abbrev pub push_run : List Run → Run → List Run
push_run [] q = q ∷ []
push_run (r ∷ []) q = cond (goes_on_in r q) (as_one r q ∷ []) (r ∷ q ∷ [])
push_run (r ∷ s ∷ rs) q = r ∷ push_run (s ∷ rs) q

onto_cases : (s : Listed) (r : Run) (rs : List Run) (b : Bool) → goes_on s r ≡ b → onto_runs s (r ∷ rs) ≡ cond b (longer_run s r ∷ rs) (single s ∷ r ∷ rs)
onto_cases s r rs b is = ap (λ t. cond t (longer_run s r ∷ rs) (single s ∷ r ∷ rs)) is

push_cases : (r q : Run) (b : Bool) → goes_on_in r q ≡ b → push_run (r ∷ []) q ≡ cond b (as_one r q ∷ []) (r ∷ q ∷ [])
push_cases r q b is = ap (λ t. cond t (as_one r q ∷ []) (r ∷ q ∷ [])) is

-- A state in front and a run behind.
onto_push : (s : Listed) (rs : List Run) (q : Run) → onto_runs s (push_run rs q) ≡ push_run (onto_runs s rs) q
onto_push s [] q = refl
onto_push s (r ∷ []) q = by (goes_on_in r q) refl (goes_on s r) refl
  where
    by : (b : Bool) → goes_on_in r q ≡ b → (c : Bool) → goes_on s r ≡ c → onto_runs s (push_run (r ∷ []) q) ≡ push_run (onto_runs s (r ∷ [])) q
    by true on true front =
        let distance : q.distance ≡ r.distance = eqb-true q.distance r.distance (both (q.first == r.last + 1) (q.distance == r.distance) on).1 in
        let same : goes_on s (as_one r q) ≡ true = ap (λ d. (r.first == s.state + 1) && (d == s.distance)) distance ∙ front in
        ap (onto_runs s) (push_cases r q true on)
        ∙ (onto_cases s (as_one r q) [] true same
        ∙ (sym (push_cases (longer_run s r) q true on) ∙ sym (ap (λ rs. push_run rs q) (onto_cases s r [] true front))))
    by true on false front =
        let distance : q.distance ≡ r.distance = eqb-true q.distance r.distance (both (q.first == r.last + 1) (q.distance == r.distance) on).1 in
        let same : goes_on s (as_one r q) ≡ false = ap (λ d. (r.first == s.state + 1) && (d == s.distance)) distance ∙ front in
        ap (onto_runs s) (push_cases r q true on)
        ∙ (onto_cases s (as_one r q) [] false same
        ∙ (sym (ap (λ rs. single s ∷ rs) (push_cases r q true on)) ∙ sym (ap (λ rs. push_run rs q) (onto_cases s r [] false front))))
    by false on true front =
        ap (onto_runs s) (push_cases r q false on)
        ∙ (onto_cases s r (q ∷ []) true front
        ∙ (sym (push_cases (longer_run s r) q false on) ∙ sym (ap (λ rs. push_run rs q) (onto_cases s r [] true front))))
    by false on false front =
        ap (onto_runs s) (push_cases r q false on)
        ∙ (onto_cases s r (q ∷ []) false front
        ∙ (sym (ap (λ rs. single s ∷ rs) (push_cases r q false on)) ∙ sym (ap (λ rs. push_run rs q) (onto_cases s r [] false front))))
onto_push s (r ∷ t ∷ rs) q = by (goes_on s r) refl
  where
    by : (c : Bool) → goes_on s r ≡ c → onto_runs s (r ∷ push_run (t ∷ rs) q) ≡ push_run (onto_runs s (r ∷ t ∷ rs)) q
    by true front = onto_cases s r (push_run (t ∷ rs) q) true front ∙ sym (ap (λ rs. push_run rs q) (onto_cases s r (t ∷ rs) true front))
    by false front = onto_cases s r (push_run (t ∷ rs) q) false front ∙ sym (ap (λ rs. push_run rs q) (onto_cases s r (t ∷ rs) false front))

runs-append : (xs ys : List Listed) (q : Run) → runs_of ys ≡ q ∷ [] → runs_of (xs ++ ys) ≡ push_run (runs_of xs) q
runs-append [] ys q one = one
runs-append (x ∷ xs) ys q one = ap (onto_runs x) (runs-append xs ys q one) ∙ onto_push x (runs_of xs) q

-- states that follow one another are one run
one_run : (s n d : ℕ) → runs_of (map (λ state. record { state = state; distance = d }) (range_with_len s (suc n))) ≡ record { first = s; last = s + n; distance = d } ∷ []
one_run s zero d = let e : s ≡ s + 0 = omega arith in ap (λ t. record { first = s; last = t; distance = d } ∷ []) e
one_run s (suc n) d =
    let front : Listed = record { state = s; distance = d } in
    let rest : Run = record { first = s + 1; last = s + 1 + n; distance = d } in
    let last : s + 1 + n ≡ s + suc n = omega arith in
    ap (onto_runs front) (one_run (s + 1) n d)
    ∙ (onto_cases front rest [] true (both_back (s + 1 == s + 1) (d == d) (eq-eqb (s + 1) (s + 1) refl) (eq-eqb d d refl))
    ∙ ap (λ t. record { first = s; last = t; distance = d } ∷ []) last)

one_run_of : (q : Run) → q.first ≤ q.last → runs_of (states_of_run q) ≡ q ∷ []
one_run_of q le =
    let many : q.last + 1 - q.first ≡ suc (q.last - q.first) = omega (arith, le) in
    let end : q.first + (q.last - q.first) ≡ q.last = omega (arith, le) in
    ap (λ n. runs_of (map (λ state. record { state = state; distance = q.distance }) (range_with_len q.first n))) many
    ∙ (one_run q.first (q.last - q.first) q.distance ∙ ap (λ t. record { first = q.first; last = t; distance = q.distance } ∷ []) end)

-- One more run of states.
pub runs-push : (xs : List Listed) (q : Run) → q.first ≤ q.last → runs_of (xs ++ states_of_run q) ≡ push_run (runs_of xs) q
runs-push xs q le = runs-append xs (states_of_run q) q (one_run_of q le)

-- ---- their lines

-- the line of a run
abbrev pub line_of_run : Run → CertLine
line_of_run r = of.Run r.first r.last r.distance

with_run-lines : (r : Run) (rs : List Run) (q : Run) → with_run (line_of_run r ∷ map line_of_run rs) q.first q.last q.distance ≡ map line_of_run (push_run (r ∷ rs) q)
with_run-lines r [] q = by (goes_on_in r q)
  where
    by : (b : Bool) → joined (cond b (Some r.first) None) (line_of_run r) q.first q.last q.distance ≡ map line_of_run (cond b (as_one r q ∷ []) (r ∷ q ∷ []))
    by true = refl
    by false = refl
with_run-lines r (s ∷ rs) q = ap (λ ls. line_of_run r ∷ ls) (with_run-lines s rs q)

-- Behind a line that is no run.
pub with_run-behind : (h : CertLine) (rs : List Run) (q : Run) → run_before h q.first q.distance ≡ None → with_run (h ∷ map line_of_run rs) q.first q.last q.distance ≡ h ∷ map line_of_run (push_run rs q)
with_run-behind h [] q none = ap (λ o. joined o h q.first q.last q.distance) none
with_run-behind h (r ∷ rs) q none = ap (λ ls. h ∷ ls) (with_run-lines r rs q)

-- The last line is joined or not.
pub with_run-last : (xs : List CertLine) (l : CertLine) (s t d : ℕ) → with_run (xs ++ l ∷ []) s t d ≡ xs ++ joined (run_before l s d) l s t d
with_run-last [] l s t d = refl
with_run-last (x ∷ []) l s t d = refl
with_run-last (x ∷ y ∷ xs) l s t d = ap (λ ls. x ∷ ls) (with_run-last (y ∷ xs) l s t d)

-- The last line is joined,
pub joined_last : (old popped after : List CertLine) (l : CertLine) (s t d start : ℕ) → old ≡ popped ++ l ∷ [] → Some start ≡ run_before l s d → after ≡ popped ++ of.Run start t d ∷ [] → after ≡ with_run old s t d
joined_last old popped after l s t d start split found is =
    is ∙ sym (ap (λ ls. with_run ls s t d) split ∙ (with_run-last popped l s t d ∙ ap (λ o. popped ++ joined o l s t d) (sym found)))

-- or it isn't,
pub apart_last : (old popped here after : List CertLine) (l : CertLine) (s t d : ℕ) → old ≡ popped ++ l ∷ [] → None ≡ run_before l s d → here ≡ popped ++ l ∷ [] → after ≡ here ++ of.Run s t d ∷ [] → after ≡ with_run old s t d
apart_last old popped here after l s t d split none back is =
    is ∙ (ap (λ ls. ls ++ of.Run s t d ∷ []) back
    ∙ (append_assoc popped (l ∷ []) (of.Run s t d ∷ []) ∙ sym (ap (λ ls. with_run ls s t d) split ∙ (with_run-last popped l s t d ∙ ap (λ o. popped ++ joined o l s t d) (sym none)))))

-- or there is none.
pub alone_last : (old here after : List CertLine) (s t d : ℕ) → length old ≡ 0 → length here ≡ 0 → after ≡ here ++ of.Run s t d ∷ [] → after ≡ with_run old s t d
alone_last [] [] after s t d none empty is = is
alone_last [] (l ∷ ls) after s t d none empty is = absurd (omega (arith, empty))
alone_last (l ∷ ls) here after s t d none empty is = absurd (omega (arith, none))
