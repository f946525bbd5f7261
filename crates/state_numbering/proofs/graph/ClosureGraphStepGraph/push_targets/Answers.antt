use Rattle.std.proofs.Common.{◌≡◌, ℕ, ◌++◌, List, map, ap, sym, subst, ◌∙◌, append_assoc, append-nil}
use Rattle.std.specs.List.{AllByRecursion}
use Rattle.steno_rules.specs.StateNumbers.{state_number}
use Rattle.closure_state.specs.NodeStates.{state_at, IsNodeState}
use Rattle.closure_state.specs.Waits.{waits}
use Rattle.state_numbering.specs.Cursors.{numbers_at, numbers_left, OwnsMoves}
use Rattle.state_numbering.specs.Numberings.{NumberingView}
use Rattle.state_numbering.proofs.GraphRows.{few_in_row, numbers_before, row_left}
use Rattle.state_numbering.proofs.graph.ClosureGraphStepGraph.push_targets.Goals as goal

pub returns-in_default-clause-pushed : goal.returns-in_default-clause-pushed
returns-in_default-clause-pushed c =
    let v = c.args.self.now in
    let none = ap (λ o. numbers_left v o) (sym c.in_default.is) ∙ row_left _ v c.args.state c.moves.result c.self.view_is c.requires c.moves.ensures.left in
    sym (append-nil c.args.targets.now.items) ∙ ap (λ l. c.args.targets.now.items ++ l) none

pub returns-in_default-clause-few : goal.returns-in_default-clause-few
returns-in_default-clause-few c = few_in_row _ c.args.self.now c.args.state c.moves.result c.self.view_is c.requires c.moves.ensures.left c.moves.ensures.few

pub strokes-init : goal.strokes-init
strokes-init c =
    let v = c.args.self.now in
    let owned = subst (λ o. OwnsMoves v o) c.in-Some.is (subst (λ (w : NumberingView). OwnsMoves w c.moves.result) c.self.view_is c.moves.ensures.owned) in
    let whole = ap (λ o. numbers_left v o) (sym c.in-Some.is) ∙ row_left _ v c.args.state c.moves.result c.self.view_is c.requires c.moves.ensures.left in
    let step = c.next_stroke-waiting.ensures in
    let ws = waits c.next_stroke-waiting.result in
    let rest = c.next_stroke-waiting.new.self.left in
    let left = subst (λ (es : List (List ℕ)). c.in-Some.moves.left ≡ map (state_at es) ws ++ rest) owned.0 step.left in
    record {
      entries_are = step.entries ∙ owned.0;
      words_are = step.words ∙ owned.1;
      pushed = ap (λ l. c.args.targets.now.items ++ l) (sym (numbers_before v.entries ws c.in-Some.moves.left rest left) ∙ whole);
      done = step.done;
      states = subst (λ (x : List (List ℕ) × List (List ℕ)). AllByRecursion (IsNodeState x.0 x.1) ws) (λ i. (owned.0 i, owned.1 i)) step.states;
    }

pub returns-in_err-push_numbers-clause-few : goal.returns-in_err-push_numbers-clause-few
returns-in_err-push_numbers-clause-few c = few_in_row _ c.args.self.now c.args.state c.moves.result c.self.view_is c.requires c.moves.ensures.left c.moves.ensures.few

pub strokes-preserved : goal.strokes-preserved
strokes-preserved c =
    let v = c.args.self.now in
    let i = c.strokes.invariant in
    let step = c.next_stroke-waiting-in-strokes.ensures in
    let ws = waits c.next_stroke-waiting-in-strokes.result in
    let rest = c.next_stroke-waiting-in-strokes.new.self.left in
    let left = subst (λ (es : List (List ℕ)). c.strokes.moves.left ≡ map (state_at es) ws ++ rest) i.entries_are step.left in
    let first = numbers_at v.entries (waits c.strokes.waiting) in
    let now = subst (λ (w : NumberingView). c.push_numbers.new.numbers.items ≡ c.strokes.targets.items ++ numbers_at w.entries (waits c.strokes.waiting)) c.self.view_is c.in_ok-push_numbers.ensures in
    record {
      entries_are = step.entries ∙ i.entries_are;
      words_are = step.words ∙ i.words_are;
      pushed =
          ap (λ l. l ++ (numbers_at v.entries ws ++ map (state_number v.entries) rest)) now
          ∙ append_assoc c.strokes.targets.items first (numbers_at v.entries ws ++ map (state_number v.entries) rest)
          ∙ ap (λ l. c.strokes.targets.items ++ (first ++ l)) (sym (numbers_before v.entries ws c.strokes.moves.left rest left))
          ∙ i.pushed;
      done = step.done;
      states = subst (λ (x : List (List ℕ) × List (List ℕ)). AllByRecursion (IsNodeState x.0 x.1) ws) (λ k. (i.entries_are k, i.words_are k)) step.states;
    }

pub returns-clause-few : goal.returns-clause-few
returns-clause-few c = few_in_row _ c.args.self.now c.args.state c.moves.result c.self.view_is c.requires c.moves.ensures.left c.moves.ensures.few
