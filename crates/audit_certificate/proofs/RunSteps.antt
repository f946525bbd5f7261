-- The runs of settled words, one after another.
use Rattle.std.proofs.Common.{◌≡◌, ℕ, zero, suc, ◌+◌, ◌-◌, ◌<◌, ◌≤◌, ◌≢◌, List, [], ◌∷◌, ◌++◌, length, map, append-nil, append_assoc, drop, get_or, refl, sym, ap, subst, arith, Bool, true, false, cond, Some, None, ◌∙◌, Contains}
use Rattle.std.specs.Prelude.{◌==◌}
use Rattle.std.proofs.Math.Seq.{drop-cons}
use Rattle.std.proofs.Common.{drop_of_length-le}
use Rattle.std.proofs.lemmas.List.{get_or-drop, length-drop}
use Rattle.std.proofs.lemmas.Bool.{eqb-true, eq-eqb}
use Rattle.steno_rules.proofs.Lists.{in_first}
use Rattle.outside.specs.Files.{FilesView}
use Rattle.certificate.specs.CertTexts.{Listed, Run, onto_runs, runs_of}
use Rattle.certificate.specs.Readers.{certificate_limit}
use Rattle.certificate.specs.declared.faults.CertFault.{CertFault}
use Rattle.certificate.specs.declared.lines.CertLine.{CertLine}
use Rattle.certificate.specs.declared.lines.CertLine.TheVariants as of
use Rattle.certificate_laws.proofs.HoldLemmas.{both, both_back}
use Rattle.audit_certificate.specs.OwnCertificates.{distance_of, reached_states}
use Rattle.audit_certificate.specs.inside.Puts.{PutsAll, PutsPart, run_lines}
use Rattle.audit_certificate.proofs.Puts.{part_within, puts_none, puts_then}
use Rattle.audit_certificate.specs.inside.RunEnds.{IsRunEnd}
use Rattle.audit_certificate.proofs.RunLemmas.{goes_on, longer_run, single}
use Rattle.audit_certificate.proofs.ReachedStates.{reached_from, reached_from-with, reached_with, reached_at}

-- the states from a place of the table on
abbrev pub reached_behind : List ℕ → ℕ → List Listed
reached_behind table at = reached_from at (drop at table)

behind_step : (table : List ℕ) (at : ℕ) → at < length table → reached_behind table at ≡ reached_with (distance_of (get_or table at 0)) at (drop (at + 1) table)
behind_step table at below =
    let more : suc at ≡ at + 1 = omega arith in
    ap (reached_from at) (drop-cons table at 0 below ∙ ap (λ k. get_or table at 0 ∷ drop k table) more) ∙ reached_from-with at (get_or table at 0) (drop (at + 1) table)

-- A number that wasn't reached has no state.
pub behind_none : (table : List ℕ) (at : ℕ) → at < length table → distance_of (get_or table at 0) ≡ None → reached_behind table at ≡ reached_behind table (at + 1)
behind_none table at below is = behind_step table at below ∙ ap (λ o. reached_with o at (drop (at + 1) table)) is

behind_some : (table : List ℕ) (at d : ℕ) → at < length table → distance_of (get_or table at 0) ≡ Some d → reached_behind table at ≡ record { state = at; distance = d } ∷ reached_behind table (at + 1)
behind_some table at d below is = behind_step table at below ∙ ap (λ o. reached_with o at (drop (at + 1) table)) is

-- Behind the table there are no states.
pub behind_all : (table : List ℕ) (at : ℕ) → length table ≤ at → reached_behind table at ≡ []
behind_all table at le = ap (reached_from at) (drop_of_length-le table {i = at} le)

-- the first run of some states is that of the first of them
record BeginsWith (s : Listed) (runs : List Run) : Type 0 where
  run : Run
  others : List Run
  is : runs ≡ run ∷ others
  first : run.first ≡ s.state
  distance : run.distance ≡ s.distance

first_run : (s : Listed) (ss : List Listed) → BeginsWith s (runs_of (s ∷ ss))
first_run s ss = of_runs (runs_of ss)
  where
    of_runs : (rs : List Run) → BeginsWith s (onto_runs s rs)
    of_runs [] = record { run = single s; others = []; is = refl; first = refl; distance = refl }
    of_runs (r ∷ rs) = by (goes_on s r) refl
      where
        by : (b : Bool) → goes_on s r ≡ b → BeginsWith s (cond b (longer_run s r ∷ rs) (single s ∷ r ∷ rs))
        by true is = record { run = longer_run s r; others = rs; is = refl; first = refl; distance = eqb-true r.distance s.distance (both (r.first == s.state + 1) (r.distance == s.distance) is).1 }
        by false is = record { run = single s; others = r ∷ rs; is = refl; first = refl; distance = refl }

-- a state that doesn't go on in the next one is a run of its own
single_run : (s : Listed) (ss : List Listed) → ((t : Listed) → Contains ss t → t.state ≡ s.state + 1 → t.distance ≡ s.distance → ⊥) → onto_runs s (runs_of ss) ≡ single s ∷ runs_of ss
single_run s [] apart = refl
single_run s (t ∷ ts) apart = ap (onto_runs s) b.is ∙ (by (goes_on s b.run) refl ∙ ap (λ rs. single s ∷ rs) (sym b.is))
  where
    b : BeginsWith t (runs_of (t ∷ ts))
    b = first_run t ts

    by : (x : Bool) → goes_on s b.run ≡ x → cond x (longer_run s b.run ∷ b.others) (single s ∷ b.run ∷ b.others) ≡ single s ∷ b.run ∷ b.others
    by true is =
        let two = both (b.run.first == s.state + 1) (b.run.distance == s.distance) is in
        absurd (apart t (in_first t ts) (sym b.first ∙ eqb-true b.run.first (s.state + 1) two.0) (sym b.distance ∙ eqb-true b.run.distance s.distance two.1))
    by false is = refl

-- a state that goes on in the first run belongs to it
joined_run : (s : Listed) (r : Run) (rs : List Run) → r.first ≡ s.state + 1 → r.distance ≡ s.distance → onto_runs s (r ∷ rs) ≡ longer_run s r ∷ rs
joined_run s r rs next same = ap (λ b. cond b (longer_run s r ∷ rs) (single s ∷ r ∷ rs)) (both_back (r.first == s.state + 1) (r.distance == s.distance) (eq-eqb r.first (s.state + 1) next) (eq-eqb r.distance s.distance same))

-- the run of these states
abbrev pub run_of : ℕ → ℕ → ℕ → Run
run_of first last d = record { first = first; last = last; distance = d }

module _ (table : List ℕ) (d end : ℕ) (within : end ≤ length table) (next : end < length table → distance_of (get_or table end 0) ≢ Some d) where
  last_apart : (at : ℕ) → at + 1 ≡ end → (t : Listed) → Contains (reached_behind table end) t → t.state ≡ at + 1 → t.distance ≡ d → ⊥
  last_apart at is t has state distance =
      let r = reached_at end (drop end table) t has in
      let number = r.number in
      let here : r.index ≡ 0 = omega (arith, number, state, is) in
      let place : end + 0 ≡ end = omega arith in
      let below : end < length table = by_length (cases r.index r.below) in
      next below (ap (λ k. distance_of (get_or table k 0)) (sym place) ∙ (ap distance_of (sym (get_or-drop end table 0 0)) ∙ (ap (λ i. distance_of (get_or (drop end table) i 0)) (sym here) ∙ (r.distance ∙ ap Some distance))))
    where
      cases : (i : ℕ) → i < length (drop end table) → 0 < length (drop end table)
      cases i lt = omega (arith, lt)

      by_length : 0 < length (drop end table) → end < length table
      by_length some = let l = length-drop end table in omega (arith, l, some)

  split : (n at : ℕ) → at + suc n ≡ end → ((k : ℕ) → at ≤ k → k < end → distance_of (get_or table k 0) ≡ Some d) → runs_of (reached_behind table at) ≡ run_of at (end - 1) d ∷ runs_of (reached_behind table end)
  split zero at is same =
      let e : at + 1 ≡ end = omega (arith, is) in
      let last : at ≡ end - 1 = omega (arith, e) in
      ap runs_of (behind_some table at d (omega (arith, e, within)) (same at (omega arith) (omega (arith, e))))
      ∙ (ap (λ k. runs_of (record { state = at; distance = d } ∷ reached_behind table k)) e
      ∙ (single_run (record { state = at; distance = d }) (reached_behind table end) (last_apart at e)
      ∙ ap (λ k. run_of at k d ∷ runs_of (reached_behind table end)) last))
  split (suc n) at is same =
      let e : at + 1 + suc n ≡ end = omega (arith, is) in
      let rest = split n (at + 1) e (λ k ge lt. same k (omega (arith, ge)) lt) in
      ap runs_of (behind_some table at d (omega (arith, is, within)) (same at (omega arith) (omega (arith, is))))
      ∙ (ap (onto_runs (record { state = at; distance = d })) rest
      ∙ joined_run (record { state = at; distance = d }) (run_of (at + 1) (end - 1) d) (runs_of (reached_behind table end)) refl refl)

-- The run that begins at a reached state, and those behind it.
pub run_split : (table : List ℕ) (at d end : ℕ) → IsRunEnd table at d end → runs_of (reached_behind table at) ≡ run_of at (end - 1) d ∷ runs_of (reached_behind table end)
run_split table at d end is =
    let some = is.part.some in
    split table d end is.part.within is.next (end - at - 1) at (omega (arith, some)) is.part.same

-- ---- the runs that were put

-- the runs of the states before a place of the table were put
pub record RunsPut (table : List ℕ) (at put now : ℕ) (old new : FilesView) : Type 0 where
  pub lines : List CertLine
  pub split : lines ++ run_lines (reached_behind table at) ≡ run_lines (reached_states table)
  pub puts : PutsAll lines put now old new
  pub within : at ≤ length table

-- none yet
pub runs_start : (table : List ℕ) (put : ℕ) (view : FilesView) → put ≤ certificate_limit → RunsPut table 0 put put view view
runs_start table put view le = record { lines = []; split = refl; puts = puts_none put view le; within = omega arith }

-- a number without a state
pub runs_skip : (table : List ℕ) (at put now : ℕ) (old new : FilesView) → RunsPut table at put now old new → at < length table → distance_of (get_or table at 0) ≡ None → RunsPut table (at + 1) put now old new
runs_skip table at put now old new r below is = record {
  lines = r.lines;
  split = ap (λ listed. r.lines ++ run_lines listed) (sym (behind_none table at below is)) ∙ r.split;
  puts = r.puts;
  within = omega (arith, below);
}

-- the line of a run
abbrev pub line_of_run : ℕ → ℕ → ℕ → CertLine
line_of_run first last d = of.Run first last d

-- the lines of a run and those behind it
lines_split : (table : List ℕ) (at d end : ℕ) → IsRunEnd table at d end → run_lines (reached_behind table at) ≡ line_of_run at (end - 1) d ∷ run_lines (reached_behind table end)
lines_split table at d end is = ap (map (λ r. of.Run r.first r.last r.distance)) (run_split table at d end is)

-- one run more
pub runs_more : (table : List ℕ) (at d end put mid now : ℕ) (old view new : FilesView) → RunsPut table at put mid old view → IsRunEnd table at d end → PutsAll (line_of_run at (end - 1) d ∷ []) mid now view new
    → RunsPut table end put now old new
runs_more table at d end put mid now old view new r is more = record {
  lines = r.lines ++ line_of_run at (end - 1) d ∷ [];
  split = append_assoc r.lines (line_of_run at (end - 1) d ∷ []) (run_lines (reached_behind table end)) ∙ (ap (λ lines. r.lines ++ lines) (sym (lines_split table at d end is)) ∙ r.split);
  puts = puts_then r.lines (line_of_run at (end - 1) d ∷ []) put mid now old view new r.puts more;
  within = is.part.within;
}

-- a run that was refused
pub runs_refused : (table : List ℕ) (at d end put mid : ℕ) (f : CertFault) (failed : Bool) (old view new : FilesView) → RunsPut table at put mid old view → IsRunEnd table at d end
    → PutsPart (line_of_run at (end - 1) d ∷ []) f failed mid view new → PutsPart (run_lines (reached_states table)) f failed put old new
runs_refused table at d end put mid f failed old view new r is part =
    subst (λ lines. PutsPart lines f failed put old new) (ap (λ lines. r.lines ++ lines) (sym (lines_split table at d end is)) ∙ r.split)
    (part_within r.lines (line_of_run at (end - 1) d ∷ []) (run_lines (reached_behind table end)) f failed put mid old view new r.puts part)

-- all of them
pub runs_all : (table : List ℕ) (at put now : ℕ) (old new : FilesView) → RunsPut table at put now old new → length table ≤ at → PutsAll (run_lines (reached_states table)) put now old new
runs_all table at put now old new r le =
    subst (λ lines. PutsAll lines put now old new) (sym (append-nil r.lines) ∙ (ap (λ listed. r.lines ++ run_lines listed) (sym (behind_all table at le)) ∙ r.split)) r.puts
