-- Steps by strokes.
use Rattle.std.specs.Prelude.{ℕ, List, [], ◌∷◌, ◌++◌, ◌+◌, ◌≡◌, ◌<◌, ◌≤◌, Option, Some, None}
use Rattle.outline_trie.specs.Tries.{IsNode, node_strokes, child_of}
use Rattle.match_window.specs.inside.Rows.{IsNodeOf}
use Rattle.closure_state.specs.declared.row.Row.{Row}
use Rattle.closure_state.specs.declared.state.State.{State}
use Rattle.closure_state.specs.declared.step.Step.{Step}
use Rattle.match_window.specs.Ends.{next_window}
use Rattle.closure_state.specs.inside.Chains.{AreChildrenFrom}

-- The row has the children of `open` by the strokes from `bound` on, and from its end each stroke leads to the window to
-- which it leads from x.
pub record IsChildRow (entries : List (List ℕ)) (x : List ℕ) (open_ bound : ℕ) (row : Row) : Type 0 where
  pub children : AreChildrenFrom entries open_ bound row.row.now
  pub inside : IsNode entries row.end
  pub same : (c : ℕ) → next_window entries x c ≡ next_window entries (node_strokes entries row.end) c

-- the child of a node by the last stroke of another one
abbrev pub IsChildByLast : List (List ℕ) → ℕ → ℕ → Option ℕ → Type 0
IsChildByLast entries node other found = (x : List ℕ) (code : ℕ) → node_strokes entries other ≡ x ++ code ∷ [] → found ≡ child_of entries node code

-- The stroke and its nodes.
pub record IsStepBy (entries : List (List ℕ)) (x : List ℕ) (open_ bound : ℕ) (step : Step) : Type 0 where
  pub from : bound ≤ step.code
  pub word : step.word ≡ child_of entries open_ step.code
  pub window : IsNodeOf entries (next_window entries x step.code) step.window

-- this for a state
abbrev pub IsStepOf : List (List ℕ) → State → Step → Type 0
IsStepOf entries s step = (bound : ℕ) × IsStepBy entries (node_strokes entries s.window) s.word bound step

-- the next step of a row
abbrev pub IsChildRowStep : List (List ℕ) → List ℕ → ℕ → ℕ → Option Step → Row → Type 0
IsChildRowStep entries x open_ bound None row = ((c : ℕ) → bound ≤ c → child_of entries open_ c ≡ None) × IsChildRow entries x open_ bound row
IsChildRowStep entries x open_ bound (Some step) row = IsStepBy entries x open_ bound step × ((c : ℕ) → bound ≤ c → c < step.code → child_of entries open_ c ≡ None) × IsChildRow entries x open_ (step.code + 1) row
