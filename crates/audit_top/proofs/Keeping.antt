-- The parts of `settled`.
use Rattle.std.proofs.Common.{ℕ, ◌≡◌, ◌∙◌, List, ap₂, sym, subst, refl}
use Rattle.graph_rules.specs.Graphs.{AreSettled}
use Rattle.steno_rules.specs.ClosureGraphs.{kept_lists}
use Rattle.longest_match.specs.Rows.{Row}
use Rattle.state_numbering.specs.Numberings.{NumberingView}
use Rattle.dict_stack.specs.Stacks.{StackView}
use Rattle.round_core.specs.Searches.{IsSearched, SettledView}
use Rattle.round_core.proofs.OneSearch.{search_once}
use Rattle.conflict_example.specs.Chosen.{words_in_stack}
use Rattle.settled_pairs.specs.SettledRows.{AreChosenRows, AreSettledPairs, HasConflicts}
use Rattle.settled_pairs.proofs.RowsOnce.{settled_rows_once}
use Rattle.audit_top.specs.Outcomes.{Expected}
use Rattle.audit_top.specs.Kept.{IsSettled, settled_result}

-- the graph is that of the numbering
pub of-numbering : (graph numbering made : NumberingView) (s : SettledView) → graph ≡ numbering → numbering ≡ made → IsSearched 0 (kept_lists graph.entries graph.words) s → IsSearched 0 (kept_lists made.entries made.words) s
of-numbering graph numbering made s same is searched = subst (λ (g : NumberingView). IsSearched 0 (kept_lists g.entries g.words) s) (same ∙ is) searched

pub of-entries : (stack : StackView) (entries words : List (List ℕ)) (s : SettledView) → entries ≡ stack.outlines → words ≡ words_in_stack stack → IsSearched 0 (kept_lists entries words) s → IsSearched 0 (kept_lists stack.outlines (words_in_stack stack)) s
of-entries stack entries words s are ends searched =
    subst (λ es. IsSearched 0 (kept_lists es (words_in_stack stack)) s) are (subst (λ ws. IsSearched 0 (kept_lists entries ws) s) ends searched)

pub of-table : (entries words : List (List ℕ)) (s : SettledView) (table : List ℕ) → table ≡ s.words → IsSearched 0 (kept_lists entries words) s → AreSettled 0 (kept_lists entries words) table
of-table entries words s table same searched = subst (AreSettled 0 (kept_lists entries words)) (sym same) searched.words

pub chosen-of : (stack : StackView) (table words : List ℕ) (rows lent : List Row) → table ≡ words → lent ≡ rows → AreChosenRows stack.outlines (words_in_stack stack) table rows → AreChosenRows stack.outlines (words_in_stack stack) words lent
chosen-of stack table words rows lent same is chosen =
    subst (λ t. AreChosenRows stack.outlines (words_in_stack stack) t lent) same (subst (AreChosenRows stack.outlines (words_in_stack stack) table) (sym is) chosen)

-- what is printed of the pairs that were found is expected
pub pairs-are : (stack : StackView) (searched : SettledView) (rows : List Row) → AreSettledPairs stack.outlines (words_in_stack stack) rows → HasConflicts stack.outlines (words_in_stack stack) rows
    → AreChosenRows stack.outlines (words_in_stack stack) searched.words rows → IsSearched 0 (kept_lists stack.outlines (words_in_stack stack)) searched → IsSettled stack (settled_result stack searched rows)
pairs-are stack searched rows exact conflicts chosen search =
    record { rows = rows; searched = searched; exact = exact; conflicts = conflicts; chosen = chosen; search = search; produces = refl }

-- of what is expected there is at most one
pub settled-once : (stack : StackView) (a b : Expected) → IsSettled stack a → IsSettled stack b → a ≡ b
settled-once stack a b ha hb =
    let searched : ha.searched ≡ hb.searched = search_once 0 (kept_lists stack.outlines (words_in_stack stack)) ha.searched hb.searched ha.search hb.search in
    let chosen = subst (λ (s : SettledView). AreChosenRows stack.outlines (words_in_stack stack) s.words hb.rows) (sym searched) hb.chosen in
    let rows : ha.rows ≡ hb.rows = settled_rows_once stack.outlines (words_in_stack stack) ha.searched.words ha.rows hb.rows ha.exact hb.exact ha.chosen chosen in
    ha.produces ∙ ap₂ (λ (s : SettledView) (r : List Row). settled_result stack s r) searched rows ∙ sym hb.produces
