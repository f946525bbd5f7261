-- The moves of the listed states, by their places.
--     steps_on lists places s            each target of the state s lies in a place near enough
--     IsFirstStuck test states line      the first of these states that fails the test, and its line
use Rattle.std.specs.Prelude.{ℕ, ◌+◌, ◌≡◌, List, ◌∷◌, ◌++◌, Bool, true, false, not, ◌&&◌, ◌==◌}
use Rattle.std.specs.List.{list_all}
use Rattle.graph_rules.specs.Graphs.{row}
use Rattle.certificate.specs.CertTexts.{Listed}
use Rattle.cert_check.specs.declared.places.Place.{Place}
use Rattle.cert_check.specs.inside.Places.{place_within}

-- each target of the state is listed with at most one more
abbrev pub steps_on : List (List ℕ) → List Place → Listed → Bool
steps_on lists places s = list_all (place_within places (s.distance + 1)) (row lists s.state)

-- the place of the state n isn't empty, and the state doesn't step on
abbrev pub is_stuck_at : List (List ℕ) → List Place → ℕ → Place → Bool
is_stuck_at lists places n p =
    not (p.line == 0) && not (steps_on lists places (record { state = n; distance = p.distance }))

-- each of these states passes the test
abbrev pub all_pass : (Listed → Bool) → List (ℕ × Listed) → Bool
all_pass test states = list_all (λ x. test x.1) states

-- the first of these states that fails the test is on this line
pub record IsFirstStuck (test : Listed → Bool) (states : List (ℕ × Listed)) (line : ℕ) : Type 0 where
  pub before : List (ℕ × Listed)
  pub stuck : Listed
  pub after : List (ℕ × Listed)
  pub split : states ≡ before ++ (line, stuck) ∷ after
  pub pass : all_pass test before ≡ true
  pub fails : test stuck ≡ false
