-- The lines of a certificate down to the conflicts hold.
use Rattle.std.proofs.Common.{◌≡◌, ℕ, suc, ◌+◌, ◌-◌, ◌≤◌, List, [], ◌∷◌, ◌++◌, length, take, map, flat_map, refl, sym, ap, subst, arith, true, Option, Some, ◌∙◌, append_assoc, append-nil, AllPairs, Contains}
use Rattle.std.specs.Prelude.{nat_lt}
use Rattle.std.specs.List.{list_all, position_or_len, range_with_len}
use Rattle.std.proofs.Math.Seq.{take-append_seam}
use Rattle.std.proofs.lemmas.Bool.{lt-ltb, le-leb, eq-eqb}
use Rattle.std.proofs.lemmas.Grind.{flat_map-append}
use Rattle.std.proofs.lemmas.List.Folds.{list_all-append}
use Rattle.steno_rules.proofs.Lists.{in_first}
use Rattle.std.proofs.lemmas.List.Elements.{Contains-append_left}
use Rattle.certificate.specs.declared.lines.CertLine.{CertLine}
use Rattle.certificate.specs.declared.lines.CertLine.TheVariants as of
use Rattle.certificate.specs.CertTexts.{Listed, Run}
use Rattle.certificate_laws.specs.Checks.{Lines, is_conflicts, conflicts_line, upper_lines, line_at, listed_by, upper_checks, rise_above}
use Rattle.certificate_laws.specs.Closures.{Closure}
use Rattle.certificate_laws.specs.Validity.{content_check}
use Rattle.certificate_laws.specs.inside.Holding.{AllHold}
use Rattle.certificate_laws.proofs.HoldLemmas.{both, both_back}
use Rattle.certificate_laws.proofs.UpperLemmas.{upper_from, upper_checks-from, line_after}
use Rattle.audit_certificate.specs.Runs.{states_of_run}
use Rattle.audit_certificate.proofs.PassingAll.{all_pass, pairs_across}
use Rattle.audit_certificate.proofs.RunLemmas.{HaveStates}
use Rattle.audit_certificate.proofs.ReachedStates.{Rises}

-- the line of a run
abbrev pub run_line : Run → Option CertLine
run_line r = Some (of.Run r.first r.last r.distance)

-- the first three lines, and others
abbrev pub headed : ℕ → ℕ → Lines → Lines
headed n count lines = Some (of.Head 2) ∷ Some (of.Entries n) ∷ Some (of.States count) ∷ lines

-- the lines of these runs list their states
pub listed-runs : (runs : List Run) → flat_map listed_by (map run_line runs) ≡ flat_map states_of_run runs
listed-runs [] = refl
listed-runs (r ∷ rs) = ap (λ xs. states_of_run r ++ xs) (listed-runs rs)

-- the states of a run that is to come are greater than those before it
rises_first : (before rest : List Listed) (r : Run) → r.first ≤ r.last → AllPairs Rises (before ++ (states_of_run r ++ rest)) → rise_above before (states_of_run r) ≡ true
rises_first before rest r le rise =
    let more : r.last + 1 - r.first ≡ suc (r.last - r.first) = omega (arith, le) in
    let first : Listed = record { state = r.first; distance = r.distance } in
    let others : List Listed = map (λ state. record { state = state; distance = r.distance }) (range_with_len (r.first + 1) (r.last - r.first)) in
    let is : states_of_run r ≡ first ∷ others = ap (λ n. map (λ state. record { state = state; distance = r.distance }) (range_with_len r.first n)) more in
    ap (rise_above before) is
    ∙ all_pass (λ other. nat_lt other.state r.first) before (λ s has.
    lt-ltb s.state r.first (pairs_across Rises before (states_of_run r ++ rest) s first rise has
    (Contains-append_left (states_of_run r) rest first (subst (λ xs. Contains xs first) (sym is) (in_first first others)))))

module _ (closure : Closure) (n count : ℕ) where
  -- the lines of the runs hold, and the conflicts line behind them
  pub runs_held : (before : Lines) (runs : List Run) (k : ℕ) (rest : Lines) → HaveStates runs → AllPairs Rises (flat_map listed_by before ++ flat_map states_of_run runs) →
      list_all (λ s. closure.has_state s.state) (flat_map states_of_run runs) ≡ true →
      AllHold (upper_from (content_check closure) (headed n count before) (map run_line runs ++ Some (of.Conflicts k) ∷ rest))
  runs_held before [] k rest have rise known = (refl, (refl, tt))
  runs_held before (r ∷ rs) k rest have rise known =
      let two = both (list_all (λ s. closure.has_state s.state) (states_of_run r)) (list_all (λ s. closure.has_state s.state) (flat_map states_of_run rs)) (sym (list_all-append (λ s. closure.has_state s.state) (states_of_run r) (flat_map states_of_run rs)) ∙ known) in
      let added : flat_map listed_by (before ++ run_line r ∷ []) ≡ flat_map listed_by before ++ states_of_run r = flat_map-append listed_by before (run_line r ∷ []) ∙ ap (λ xs. flat_map listed_by before ++ xs) (append-nil (states_of_run r)) in
      let joined : flat_map listed_by (before ++ run_line r ∷ []) ++ flat_map states_of_run rs ≡ flat_map listed_by before ++ (states_of_run r ++ flat_map states_of_run rs) =
      ap (λ xs. xs ++ flat_map states_of_run rs) added ∙ append_assoc (flat_map listed_by before) (states_of_run r) (flat_map states_of_run rs) in (
        le-leb r.first r.last have.0,
        (
          both_back (rise_above (flat_map listed_by before) (states_of_run r)) (list_all (λ s. closure.has_state s.state) (states_of_run r)) (rises_first (flat_map listed_by before) (flat_map states_of_run rs) r have.0 rise) two.0,
          runs_held (before ++ run_line r ∷ []) rs k rest have.1 (subst (AllPairs Rises) (sym joined) rise) two.1,
        ),
      )

  -- The lines down to the conflicts hold.
  pub upper_held : (runs : List Run) (k : ℕ) (rest : Lines) → n ≡ length closure.outlines → count ≡ closure.count → HaveStates runs → AllPairs Rises (flat_map states_of_run runs) →
      list_all (λ s. closure.has_state s.state) (flat_map states_of_run runs) ≡ true →
      AllHold (upper_checks (content_check closure) (headed n count (map run_line runs ++ Some (of.Conflicts k) ∷ rest)))
  upper_held runs k rest entries numbers have rise known =
      subst AllHold (sym (upper_checks-from (content_check closure) (headed n count (map run_line runs ++ Some (of.Conflicts k) ∷ rest))))
      (refl, (refl, (refl, (eq-eqb n (length closure.outlines) entries, (refl, (eq-eqb count closure.count numbers, runs_held [] runs k rest have rise known))))))

  position_is : (runs : List Run) (k : ℕ) (rest : Lines) → position_or_len is_conflicts (map run_line runs ++ Some (of.Conflicts k) ∷ rest) ≡ length (map run_line runs)
  position_is [] k rest = refl
  position_is (r ∷ rs) k rest = ap (λ i. 1 + i) (position_is rs k rest) ∙ (let e : 1 + length (map run_line rs) ≡ suc (length (map run_line rs)) = omega arith in e)

  -- The conflicts line is the one behind the runs.
  pub conflicts_line-is : (runs : List Run) (k : ℕ) (rest : Lines) → conflicts_line (headed n count (map run_line runs ++ Some (of.Conflicts k) ∷ rest)) ≡ length (headed n count (map run_line runs)) + 1
  conflicts_line-is runs k rest = let p = position_is runs k rest in
      ap (λ i. 1 + (1 + (1 + i)) + 1) p ∙ (let e : 1 + (1 + (1 + length (map run_line runs))) + 1 ≡ suc (suc (suc (length (map run_line runs)))) + 1 = omega arith in e)

  pub upper_lines-is : (runs : List Run) (k : ℕ) (rest : Lines) → upper_lines (headed n count (map run_line runs ++ Some (of.Conflicts k) ∷ rest)) ≡ headed n count (map run_line runs)
  upper_lines-is runs k rest =
      let long = length (headed n count (map run_line runs)) in
      let less : long + 1 - 1 ≡ long = omega arith in
      ap (λ i. take (i - 1) (headed n count (map run_line runs) ++ Some (of.Conflicts k) ∷ rest)) (conflicts_line-is runs k rest)
      ∙ (ap (λ i. take i (headed n count (map run_line runs) ++ Some (of.Conflicts k) ∷ rest)) less ∙ take-append_seam (headed n count (map run_line runs)) (Some (of.Conflicts k) ∷ rest))

  pub conflicts_there : (runs : List Run) (k : ℕ) (rest : Lines) → line_at (headed n count (map run_line runs ++ Some (of.Conflicts k) ∷ rest)) (length (headed n count (map run_line runs)) + 1) ≡ Some (of.Conflicts k)
  conflicts_there runs k rest = line_after (headed n count (map run_line runs)) (Some (of.Conflicts k) ∷ rest)
