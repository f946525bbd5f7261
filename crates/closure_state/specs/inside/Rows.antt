-- The rows of children by which a state goes on.
--     lists_all rows                            a row lists all targets by its strokes, a chain the kept ones
--     IsDepthCut entries words s d                   by a stroke to a window of more than d strokes all targets are kept, by
--                                               another none
--     IsCutChain entries words s bound chain    the strokes of the chain from `bound` on are those that have kept targets
--     AreStateRows entries words s bound rows        the rows are those of a state, from the stroke `bound` on
--     IsRowsStep entries words s bound step rows    the next stroke, before which no other has targets, and the rows behind
use Rattle.std.specs.Prelude.{ℕ, List, [], ◌+◌, ◌≡◌, ◌<◌, ◌≤◌, Bool, true, false, Option, Some, None, length}
use Rattle.steno_rules.specs.States.{State as Abstract, targets_by}
use Rattle.steno_rules.specs.Outlines.{AreWords}
use Rattle.outline_trie.specs.Tries.{IsNode, node_strokes}
use Rattle.match_window.specs.Ends.{next_window}
use Rattle.closure_state.specs.declared.state.State.{State}
use Rattle.closure_state.specs.declared.step.Step.{Step}
use Rattle.closure_state.specs.declared.chain.Chain.{Chain}
use Rattle.closure_state.specs.declared.rows.Rows.{Rows}
use Rattle.closure_state.specs.declared.rows.Rows.TheVariants.{Row as OfRow, Chain as OfChain}
use Rattle.closure_state.specs.inside.Chains.{IsChainOfEnds}
use Rattle.closure_state.specs.inside.Left.{targets_for}
use Rattle.closure_state.specs.inside.Steps.{IsChildRow, IsStepBy}
use Rattle.closure_state.specs.NodeStates.{state_at}

abbrev pub lists_all : Rows → Bool
lists_all (OfRow row) = true
lists_all (OfChain chain) = false

pub record IsDepthCut (entries words : List (List ℕ)) (s : Abstract) (d : ℕ) : Type 0 where
  pub short : (c : ℕ) → length (next_window entries s.u c) ≤ d → targets_for false entries words s c ≡ []
  pub long : (c : ℕ) → d < length (next_window entries s.u c) → targets_for false entries words s c ≡ targets_by entries words s c

pub record IsCutChain (entries words : List (List ℕ)) (s : State) (bound : ℕ) (chain : Chain) : Type 0 where
  pub chain_is : IsChainOfEnds entries (node_strokes entries s.window) bound chain
  pub below : IsNode entries chain.below
  pub some : 1 ≤ chain.depth
  pub cut : IsDepthCut entries words (state_at entries s) chain.depth

abbrev pub AreStateRowsBy : List (List ℕ) → List (List ℕ) → State → ℕ → Rows → Type 0
AreStateRowsBy entries words s bound (OfRow row) = IsChildRow entries (node_strokes entries s.window) s.word bound row
AreStateRowsBy entries words s bound (OfChain chain) = IsCutChain entries words s bound chain

pub record AreStateRows (entries words : List (List ℕ)) (s : State) (bound : ℕ) (rows : Rows) : Type 0 where
  pub are_words : AreWords entries words
  pub by : AreStateRowsBy entries words s bound rows

abbrev pub IsRowsStep : List (List ℕ) → List (List ℕ) → State → ℕ → Option Step → Rows → Type 0
IsRowsStep entries words s bound None rows =
    ((c : ℕ) → bound ≤ c → targets_for (lists_all rows) entries words (state_at entries s) c ≡ [])
    × AreStateRows entries words s bound rows
IsRowsStep entries words s bound (Some step) rows =
    IsStepBy entries (node_strokes entries s.window) s.word bound step
    × ((c : ℕ) → bound ≤ c → c < step.code → targets_for (lists_all rows) entries words (state_at entries s) c ≡ [])
    × (targets_for (lists_all rows) entries words (state_at entries s) step.code ≡ targets_by entries words (state_at entries s) step.code)
    × AreStateRows entries words s (step.code + 1) rows
