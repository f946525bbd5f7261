-- The targets that wait.
--     number_if flag n         n, where the flag is set
--     waits_for w              the numbers that wait, in their order
--     IsTakenFrom old t new    the first of a list is taken; of an empty one none is
use Rattle.std.specs.Prelude.{ℕ, List, [], ◌∷◌, ◌++◌, ◌≡◌, Bool, true, false, Option, Some, None}
use Rattle.closure_state.specs.Waits.{some_listed}
use Rattle.free_parse.specs.declared.waiting.Waiting.{Waiting}

abbrev pub number_if : Bool → ℕ → Option ℕ
number_if true n = Some n
number_if false n = None

abbrev pub waits_for : Waiting → List ℕ
waits_for w = some_listed w.first ++ (some_listed w.second ++ (some_listed w.third ++ some_listed w.fourth))

abbrev pub IsTakenFrom : List ℕ → Option ℕ → List ℕ → Type 0
IsTakenFrom old None new = (old ≡ []) × (new ≡ [])
IsTakenFrom old (Some t) new = old ≡ t ∷ new
