-- Which strokes have targets.
use Rattle.std.proofs.Common.{◌≡◌, ℕ, ◌<◌, List, [], ◌∷◌, ◌++◌, length, refl, sym, ap, subst, ◌∙◌, arith, true, true≢false, Option, Some, None, Contains, append_assoc}
use Rattle.std.specs.Prelude.{is_some}
use Rattle.steno_rules.specs.Outlines.{AreWords}
use Rattle.steno_rules.specs.Windows.{is_prefix}
use Rattle.steno_rules.specs.States.{State as Abstract, targets_by}
use Rattle.steno_rules.proofs.Lists.{in_first, unsnoc}
use Rattle.translation_laws.proofs.WindowEnds.{window-end}
use Rattle.closure_laws.proofs.TargetLemmas.{move_begins}
use Rattle.outline_trie.specs.Tries.{IsNode, node_strokes, child_of}
use Rattle.outline_trie.proofs.LookLemmas.{node_test}
use Rattle.closure_state.specs.declared.state.State.{State}
use Rattle.closure_state.specs.declared.row.Row.{Row}
use Rattle.closure_state.specs.declared.step.Step.{Step}
use Rattle.closure_state.specs.declared.chain.Chain.{Chain}
use Rattle.closure_state.specs.declared.rows.Rows.TheVariants.{Row as OfRow, Chain as OfChain}
use Rattle.closure_state.specs.NodeStates.{state_at}
use Rattle.match_window.specs.Ends.{next_window}
use Rattle.closure_state.specs.inside.Chains.{LeadsTo, IsChainStep}
use Rattle.closure_state.specs.inside.Steps.{IsChildByLast, IsChildRowStep}
use Rattle.closure_state.specs.inside.Rows.{IsDepthCut, IsCutChain, IsRowsStep}
use Rattle.closure_state.proofs.RowLemmas.{snoc_last}

-- a list without members is empty
no_members : {X : Type 0} (xs : List X) → ((x : X) → Contains xs x → ⊥) → xs ≡ []
no_members [] none = refl
no_members (x ∷ xs) none = absurd (none x (in_first x xs))

-- A stroke by which the open word's node has no child has no targets.
pub no_child : (entries words : List (List ℕ)) (s : Abstract) (opened c : ℕ) → AreWords entries words → s.v ≡ node_strokes entries opened → child_of entries opened c ≡ None → targets_by entries words s c ≡ []
no_child entries words s opened c are is none = no_members (targets_by entries words s c) (λ t has.
    let begins : is_prefix entries (node_strokes entries opened ++ c ∷ []) ≡ true = subst (λ v. is_prefix entries (v ++ c ∷ []) ≡ true) is (move_begins entries words s t c are has) in
    true≢false (sym begins ∙ sym (node_test entries (node_strokes entries opened ++ c ∷ [])) ∙ ap is_some none))

-- A step of a row.
pub row_next : (entries words : List (List ℕ)) (s : State) (bound : ℕ) (o : Option Step) (row : Row) → AreWords entries words →
    IsChildRowStep entries (node_strokes entries s.window) s.word bound o row → IsRowsStep entries words s bound o (OfRow row)
row_next entries words s bound None row are h = (λ c from. no_child entries words (state_at entries s) s.word c are refl (h.0 c from), record { are_words = are; by = h.1 })
row_next entries words s bound (Some step) row are h = (
  h.0,
  λ c from below. no_child entries words (state_at entries s) s.word c are refl (h.1 c from below),
  refl,
  record { are_words = are; by = h.2 },
)

-- the window to which a stroke leads ends with it, where it isn't empty
pub leads_ends : (entries : List (List ℕ)) (d : ℕ) (x : List ℕ) (c child : ℕ) → LeadsTo entries d x c child → (y : List ℕ) × (node_strokes entries child ≡ y ++ c ∷ [])
leads_ends entries d x c child leads = by (node_strokes entries child) (sym leads.is) (window-end entries (x ++ c ∷ [])) (omega (arith, leads.long, ap length leads.is))
  where
    by : (w : List ℕ) → next_window entries x c ≡ w → (before : List ℕ) × (x ++ c ∷ [] ≡ before ++ next_window entries x c) → 0 < length w → (y : List ℕ) × (w ≡ y ++ c ∷ [])
    by [] is split some = absurd (omega (arith, some))
    by (e ∷ w) is split some =
        let cut = unsnoc e w in
        let same : x ++ c ∷ [] ≡ (split.0 ++ cut.0) ++ cut.1 ∷ [] = split.1 ∙ ap (λ l. split.0 ++ l) (is ∙ cut.2) ∙ sym (append_assoc split.0 cut.0 (cut.1 ∷ [])) in
        (cut.0, cut.2 ∙ ap (λ k. cut.0 ++ k ∷ []) (sym (snoc_last x (split.0 ++ cut.0) c cut.1 same)))

-- A step of a chain,
pub chain_next : (entries words : List (List ℕ)) (s : State) (bound code next : ℕ) (word : Option ℕ) (old new : Chain) → AreWords entries words → IsCutChain entries words s bound old →
    IsChainStep entries (node_strokes entries s.window) bound (Some (code, next)) new → new.below ≡ old.below → new.depth ≡ old.depth →
    IsChildByLast entries s.word next word → IsRowsStep entries words s bound (Some (record { code = code; word = word; window = next })) (OfChain new)
chain_next entries words s bound code next word old new are l step below depth found =
    let ends = leads_ends entries new.depth (node_strokes entries s.window) code next step.least.1 in
    let cut : IsDepthCut entries words (state_at entries s) new.depth = subst (IsDepthCut entries words (state_at entries s)) (sym depth) l.cut in (
      record { from = step.least.0; word = found ends.0 code ends.1; window = record { inside = step.least.1.inside; is = step.least.1.is } },
      λ c from under. cut.short c (step.least.2 c from under),
      cut.long code step.least.1.long,
      record { are_words = are; by = record { chain_is = step.left; below = subst (IsNode entries) (sym below) l.below; some = omega (arith, depth, l.some); cut = cut } },
    )

-- and its end.
pub chain_done : (entries words : List (List ℕ)) (s : State) (bound : ℕ) (old new : Chain) → AreWords entries words → IsCutChain entries words s bound old →
    IsChainStep entries (node_strokes entries s.window) bound None new → new.below ≡ old.below → new.depth ≡ old.depth → IsRowsStep entries words s bound None (OfChain new)
chain_done entries words s bound old new are l step below depth = (
  λ c from. l.cut.short c (omega (arith, step.least c from, depth)),
  record { are_words = are; by = record { chain_is = step.left; below = subst (IsNode entries) (sym below) l.below; some = omega (arith, depth, l.some); cut = subst (IsDepthCut entries words (state_at entries s)) (sym depth) l.cut } },
)
