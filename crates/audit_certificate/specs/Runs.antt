-- The runs of a certificate: states that follow one another and have one distance.
--     states_of_run run                  the states of a run, each with its distance
--     ContinuesRun run next                 the two could be one run
--     AreLongestRuns listed runs      the runs have exactly these states, and no two neighbours could be one
use Rattle.std.specs.Prelude.{◌+◌, ◌-◌, ◌≤◌, ◌≡◌, List, ◌∷◌, ◌++◌, All, map, flat_map}
use Rattle.std.specs.List.{range_with_len}
use Rattle.certificate.specs.CertTexts.{Listed, Run}

-- the states of a run, each with its distance
abbrev pub states_of_run : Run → List Listed
states_of_run run = map (λ state. record { state = state; distance = run.distance }) (range_with_len run.first (run.last + 1 - run.first))

-- the next run begins where this one ends, with the same distance
abbrev pub ContinuesRun : Run → Run → Type 0
ContinuesRun run next = (next.first ≡ run.last + 1) × (next.distance ≡ run.distance)

-- the runs have exactly these states, in their order; each has a state, and none could go on
pub record AreLongestRuns (listed : List Listed) (runs : List Run) : Type 0 where
  pub states : flat_map states_of_run runs ≡ listed
  pub some : All (λ run. run.first ≤ run.last) runs
  pub longest : (before after : List Run) (run next : Run) → runs ≡ before ++ (run ∷ next ∷ after) → ContinuesRun run next → ⊥
