-- The runs of listed states are longest.
use Rattle.std.proofs.Common.{◌≡◌, suc, ◌+◌, ◌-◌, ◌≤◌, List, [], ◌∷◌, ◌++◌, map, flat_map, refl, sym, ap, subst, arith, Bool, true, false, cond, true≢false, ◌∙◌}
use Rattle.std.specs.Prelude.{◌&&◌, ◌==◌, ⊤}
use Rattle.std.specs.List.{range_with_len, AllByRecursion}
use Rattle.std.proofs.lemmas.Bool.{eqb-true, eq-eqb}
use Rattle.std.proofs.lemmas.List.Elements.{All-from_recursion}
use Rattle.certificate.specs.CertTexts.{Listed, Run, onto_runs, runs_of}
use Rattle.certificate_laws.proofs.HoldLemmas.{both, both_back}
use Rattle.audit_certificate.specs.Runs.{states_of_run, ContinuesRun, AreLongestRuns}

-- each run has a state
abbrev pub HaveStates : List Run → Type 0
HaveStates runs = AllByRecursion (λ run. run.first ≤ run.last) runs

-- the run doesn't go on in the first of these
abbrev pub EndsBefore : Run → List Run → Type 0
EndsBefore run [] = ⊤
EndsBefore run (next ∷ runs) = ContinuesRun run next → ⊥

-- no run goes on in the next one
abbrev pub AreApart : List Run → Type 0
AreApart [] = ⊤
AreApart (run ∷ runs) = EndsBefore run runs × AreApart runs

-- a run of one state
abbrev pub single : Listed → Run
single s = record { first = s.state; last = s.state; distance = s.distance }

single-states : (s : Listed) → states_of_run (single s) ≡ s ∷ []
single-states s = let one : s.state + 1 - s.state ≡ 1 = omega arith in ap (λ n. map (λ state. record { state = state; distance = s.distance }) (range_with_len s.state n)) one

-- the run with the state before it
abbrev pub longer_run : Listed → Run → Run
longer_run s r = record { first = s.state; last = r.last; distance = r.distance }

longer-states : (s : Listed) (r : Run) → r.first ≡ s.state + 1 → r.distance ≡ s.distance → r.first ≤ r.last → states_of_run (longer_run s r) ≡ s ∷ states_of_run r
longer-states s r next same le =
    let more : r.last + 1 - s.state ≡ suc (r.last + 1 - r.first) = omega (arith, next, le) in
    ap (λ n. map (λ state. record { state = state; distance = r.distance }) (range_with_len s.state n)) more
    ∙ (ap (λ k. record { state = s.state; distance = r.distance } ∷ map (λ state. record { state = state; distance = r.distance }) (range_with_len k (r.last + 1 - r.first))) (sym next)
    ∙ ap (λ d. record { state = s.state; distance = d } ∷ states_of_run r) same)

-- whether the run begins behind the state, with the same distance
abbrev pub goes_on : Listed → Run → Bool
goes_on s r = (r.first == s.state + 1) && (r.distance == s.distance)

-- One more state in front.
pub onto-states : (s : Listed) (rs : List Run) → HaveStates rs → flat_map states_of_run (onto_runs s rs) ≡ s ∷ flat_map states_of_run rs
onto-states s [] h = ap (λ xs. xs ++ []) (single-states s)
onto-states s (r ∷ rs) h = by (goes_on s r) refl
  where
    by : (b : Bool) → goes_on s r ≡ b → flat_map states_of_run (cond b (longer_run s r ∷ rs) (single s ∷ r ∷ rs)) ≡ s ∷ flat_map states_of_run (r ∷ rs)
    by true is =
        let two = both (r.first == s.state + 1) (r.distance == s.distance) is in
        ap (λ xs. xs ++ flat_map states_of_run rs) (longer-states s r (eqb-true r.first (s.state + 1) two.0) (eqb-true r.distance s.distance two.1) h.0)
    by false is = ap (λ xs. xs ++ flat_map states_of_run (r ∷ rs)) (single-states s)

pub onto-have : (s : Listed) (rs : List Run) → HaveStates rs → HaveStates (onto_runs s rs)
onto-have s [] h = (omega arith, tt)
onto-have s (r ∷ rs) h = by (goes_on s r) refl
  where
    by : (b : Bool) → goes_on s r ≡ b → HaveStates (cond b (longer_run s r ∷ rs) (single s ∷ r ∷ rs))
    by true is =
        let two = both (r.first == s.state + 1) (r.distance == s.distance) is in
        let next = eqb-true r.first (s.state + 1) two.0 in
        (omega (arith, next, h.0), h.1)
    by false is = (omega arith, h)

ends_still : (r q : Run) (rs : List Run) → q.last ≡ r.last → q.distance ≡ r.distance → EndsBefore r rs → EndsBefore q rs
ends_still r q [] last distance ends = tt
ends_still r q (next ∷ rs) last distance ends = λ goes. ends (goes.0 ∙ ap (λ k. k + 1) last, goes.1 ∙ distance)

pub onto-apart : (s : Listed) (rs : List Run) → AreApart rs → AreApart (onto_runs s rs)
onto-apart s [] h = (tt, tt)
onto-apart s (r ∷ rs) h = by (goes_on s r) refl
  where
    by : (b : Bool) → goes_on s r ≡ b → AreApart (cond b (longer_run s r ∷ rs) (single s ∷ r ∷ rs))
    by true is = (ends_still r (longer_run s r) rs refl refl h.0, h.1)
    by false is = (λ goes. true≢false (sym (both_back (r.first == s.state + 1) (r.distance == s.distance) (eq-eqb r.first (s.state + 1) goes.0) (eq-eqb r.distance s.distance goes.1)) ∙ is), h)

pub runs-have : (ss : List Listed) → HaveStates (runs_of ss)
runs-have [] = tt
runs-have (s ∷ ss) = onto-have s (runs_of ss) (runs-have ss)

-- The runs have exactly the listed states.
pub runs-states : (ss : List Listed) → flat_map states_of_run (runs_of ss) ≡ ss
runs-states [] = refl
runs-states (s ∷ ss) = onto-states s (runs_of ss) (runs-have ss) ∙ ap (λ xs. s ∷ xs) (runs-states ss)

runs-apart : (ss : List Listed) → AreApart (runs_of ss)
runs-apart [] = tt
runs-apart (s ∷ ss) = onto-apart s (runs_of ss) (runs-apart ss)

apart_at : (before after : List Run) (r next : Run) → AreApart (before ++ (r ∷ next ∷ after)) → ContinuesRun r next → ⊥
apart_at [] after r next h = h.0
apart_at (b ∷ before) after r next h = apart_at before after r next h.1

-- The runs of listed states are longest.
pub longest_runs : (ss : List Listed) → AreLongestRuns ss (runs_of ss)
longest_runs ss = record {
  states = runs-states ss;
  some = All-from_recursion (λ run. run.first ≤ run.last) (runs_of ss) (runs-have ss);
  longest = λ before after r next is. apart_at before after r next (subst AreApart is (runs-apart ss));
}
