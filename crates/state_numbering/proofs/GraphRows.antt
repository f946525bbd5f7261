-- The lists of the closure graph.
use Rattle.std.proofs.Common.{◌≡◌, ℕ, ◌<◌, List, [], ◌∷◌, ◌++◌, length, map, refl, ap, sym, subst, ◌∙◌, arith, Option}
use Rattle.std.proofs.lemmas.List.{map-append}
use Rattle.graph_rules.specs.Graphs.{row, HasTarget}
use Rattle.steno_rules.specs.Outlines.{AreWords}
use Rattle.steno_rules.specs.States.{State as Abstract, IsState, kept_targets}
use Rattle.steno_rules.specs.StateNumbers.{state_number, state_of_number}
use Rattle.steno_rules.specs.ClosureGraphs.{kept_lists, numbers_by}
use Rattle.closure_state.specs.declared.state.State.{State}
use Rattle.closure_state.specs.Moving.{MovesView}
use Rattle.closure_state.specs.NodeStates.{state_at}
use Rattle.state_numbering.specs.Cursors.{numbers_at, numbers_left}
use Rattle.state_numbering.specs.Numberings.{NumberingView}
use Rattle.closure_laws.proofs.GraphLemmas.{length-lists, numbered_target, row_of_number}
use Rattle.closure_laws.proofs.StateLemmas.{IsState-target}
use Rattle.closure_laws.proofs.StateNumberLemmas.{shape_of_state, shaped-below}
use Rattle.closure_laws.proofs.TargetLemmas.{kept_targets-Contains}

-- Each target of a number is a number of the graph.
pub target_below : (entries words : List (List ℕ)) → AreWords entries words → (s t : ℕ) → HasTarget (kept_lists entries words) s t →
    t < length (kept_lists entries words)
target_below entries words are s t has =
    let at = numbered_target entries words (kept_targets entries words) s t has in
    let move = ((kept_targets-Contains entries words at.source at.target).0 at.listed).0 in
    let state : IsState entries words at.target = IsState-target entries words at.source at.target at.is_state move in
    omega (arith, at.to, shaped-below entries at.target (shape_of_state entries words at.target are state), length-lists entries words (kept_targets entries words))

-- The moves of a number's state have its row left, whatever the numbering is called,
pub row_left : (told v : NumberingView) (n : ℕ) (moves : Option MovesView) → told ≡ v → n < length (kept_lists v.entries v.words) →
    numbers_left told moves ≡ numbers_by told.entries (kept_targets told.entries told.words) (state_of_number told.entries told.words n) →
    numbers_left v moves ≡ row (kept_lists v.entries v.words) n
row_left told v n moves same below left =
    subst (λ (w : NumberingView). numbers_left w moves ≡ numbers_by w.entries (kept_targets w.entries w.words) (state_of_number w.entries w.words n)) same left
    ∙ sym (row_of_number v.entries v.words (kept_targets v.entries v.words) n (omega (arith, below, length-lists v.entries v.words (kept_targets v.entries v.words))))

-- and the row is as short.
pub few_in_row : (told v : NumberingView) (n : ℕ) (moves : Option MovesView) → told ≡ v → n < length (kept_lists v.entries v.words) →
    numbers_left told moves ≡ numbers_by told.entries (kept_targets told.entries told.words) (state_of_number told.entries told.words n) →
    length (numbers_left told moves) < 4294967296 → length (row (kept_lists v.entries v.words) n) < 4294967296
few_in_row told v n moves same below left few =
    let short = subst (λ (w : NumberingView). length (numbers_left w moves) < 4294967296) same few in
    omega (arith, short, ap length (row_left told v n moves same below left))

-- the numbers of states by their nodes are those of the states
numbers_map : (entries : List (List ℕ)) (states : List State) → map (state_number entries) (map (state_at entries) states) ≡ numbers_at entries states
numbers_map entries [] = refl
numbers_map entries (s ∷ states) = ap (λ l. state_number entries (state_at entries s) ∷ l) (numbers_map entries states)

-- The numbers of the first targets stand before those of the others.
pub numbers_before : (entries : List (List ℕ)) (states : List State) (old new : List Abstract) → old ≡ map (state_at entries) states ++ new →
    map (state_number entries) old ≡ numbers_at entries states ++ map (state_number entries) new
numbers_before entries states old new left =
    ap (map (state_number entries)) left
    ∙ map-append (state_number entries) (map (state_at entries) states) new
    ∙ ap (λ l. l ++ map (state_number entries) new) (numbers_map entries states)
