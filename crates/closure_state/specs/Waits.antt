-- The targets that wait.
--     some_listed o      the list of what there is
--     listed_if flag a   the list of a, where the flag is set
--     waits w            the targets that wait, in their order
use Rattle.std.specs.Prelude.{List, [], ◌∷◌, ◌++◌, Bool, Option, Some, None, if◌then◌else◌}
use Rattle.closure_state.specs.declared.state.State.{State}
use Rattle.closure_state.specs.declared.waiting.Waiting.{Waiting}

abbrev pub some_listed : {A : Type 0} → Option A → List A
some_listed None = []
some_listed (Some a) = a ∷ []

abbrev pub listed_if : {A : Type 0} → Bool → A → List A
listed_if flag a = if flag then (a ∷ []) else []

abbrev pub waits : Waiting → List State
waits w =
    listed_if w.going_on (record { window = w.window; word = w.word; mark = w.mark })
    ++ (listed_if w.ended (record { window = w.window; word = 0; mark = w.mark })
    ++ listed_if w.marked (record { window = w.window; word = 0; mark = Some 0 }))
