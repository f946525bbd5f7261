-- What listing a run of states does to the places.
use Rattle.std.specs.Prelude.{ℕ, ◌+◌, ◌-◌, ◌≤◌, ◌<◌, ◌≡◌, List, ◌++◌, Bool, true, length, is_some}
use Rattle.steno_rules.specs.Outlines.{AreWords}
use Rattle.steno_rules.specs.StateNumbers.{number_count, state_of_number}
use Rattle.certificate_laws.specs.Checks.{may_be_listed}
use Rattle.cert_check.specs.declared.places.Place.{Place}
use Rattle.cert_check.specs.inside.Places.{places_from, ends_listed, run_states, on_line, states_at}

-- the answer says whether the states of the run may be listed behind these; if so they are
pub record ListsRun (entries words : List (List ℕ)) (line first last distance : ℕ) (old new : List Place) (answer : Bool)
    : Type 0 where
  pub answers : AreWords entries words → ends_listed old ≡ true → answer
      ≡ may_be_listed (λ n. is_some (state_of_number entries words n)) (states_at old) (run_states first (last + 1 - first) distance)
  pub adds : answer ≡ true → places_from 0 new ≡ places_from 0 old ++ on_line line (run_states first (last + 1 - first) distance)
  pub ends : answer ≡ true → ends_listed new ≡ true
  pub more : answer ≡ true → length old < length new
  pub few : answer ≡ true → length new ≤ number_count entries
