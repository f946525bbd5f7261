use Rattle.std.proofs.Common.{◌≡◌, ◌++◌, [], Some, None, map, sym, ap, ap₂, subst, ◌∙◌, arith, refl, true≢false}
use Rattle.std.specs.List.{AllByRecursion}
use Rattle.steno_rules.specs.States.{targets_by}
use Rattle.steno_rules.specs.WordSets.{words_in}
use Rattle.closure_state.specs.NodeStates.{state_at, IsNodeState}
use Rattle.closure_state.specs.inside.Strokes.{IsStrokesStep, left_of}
use Rattle.closure_state.specs.Waits.{waits}
use Rattle.closure_state.proofs.strokes.Strokes.refill.Goals as goal

pub waiting_of-waiting-requires-clause-step : goal.waiting_of-waiting-requires-clause-step
waiting_of-waiting-requires-clause-step c =
    let entries = c.args.trie.now in
    let words = words_in entries c.args.words.now in
    let step : IsStrokesStep entries words c.args.state c.loop-step.self (Some c.in-Some.step) c.next.new.self =
    subst (λ o. IsStrokesStep entries words c.args.state c.loop-step.self o c.next.new.self) c.in-Some.is (c.next.ensures words c.loop-step.invariant.strokes_are) in
    (c.loop-step.self.bound, step.0)

pub returns-then-not-is_empty : goal.returns-then-not-is_empty
returns-then-not-is_empty c =
    let entries = c.args.trie.now in
    let words = words_in entries c.args.words.now in
    let step : IsStrokesStep entries words c.args.state c.loop-step.self (Some c.in-Some.step) c.next.new.self =
    subst (λ o. IsStrokesStep entries words c.args.state c.loop-step.self o c.next.new.self) c.in-Some.is (c.next.ensures words c.loop-step.invariant.strokes_are) in record {
      left = c.loop-step.invariant.left ∙ step.1 ∙ ap (λ l. l ++ left_of entries words c.args.state c.next.new.self) (sym c.waiting_of-waiting.ensures.targets);
      done = λ none. absurd (true≢false (sym (c.if-not-is_empty.ensures.1 none)));
      each = c.waiting_of-waiting.ensures.each;
      strokes_are = step.3;
    }

pub loop-step-smaller : goal.loop-step-smaller
loop-step-smaller c =
    let entries = c.args.trie.now in
    let words = words_in entries c.args.words.now in
    let step : IsStrokesStep entries words c.args.state c.loop-step.self (Some c.in-Some.step) c.next.new.self =
    subst (λ o. IsStrokesStep entries words c.args.state c.loop-step.self o c.next.new.self) c.in-Some.is (c.next.ensures words c.loop-step.invariant.strokes_are) in
    omega (arith, step.2, step.3.fits)

pub loop-step-preserved : goal.loop-step-preserved
loop-step-preserved c =
    let entries = c.args.trie.now in
    let words = words_in entries c.args.words.now in
    let step : IsStrokesStep entries words c.args.state c.loop-step.self (Some c.in-Some.step) c.next.new.self =
    subst (λ o. IsStrokesStep entries words c.args.state c.loop-step.self o c.next.new.self) c.in-Some.is (c.next.ensures words c.loop-step.invariant.strokes_are) in
    let empty : waits c.waiting_of-waiting.result ≡ [] = c.if-not-is_empty.ensures.0 refl in
    let none : targets_by entries words (state_at entries c.args.state) c.in-Some.step.code ≡ [] = sym c.waiting_of-waiting.ensures.targets ∙ ap (map (state_at entries)) empty in record {
      strokes_are = step.3;
      left = c.loop-step.invariant.left ∙ step.1 ∙ ap (λ l. l ++ left_of entries words c.args.state c.next.new.self) none;
    }

pub returns : goal.returns
returns c =
    let entries = c.args.trie.now in
    let words = words_in entries c.args.words.now in
    let step : IsStrokesStep entries words c.args.state c.loop-step.self None c.next.new.self =
    subst (λ o. IsStrokesStep entries words c.args.state c.loop-step.self o c.next.new.self) c.in_default.is (c.next.ensures words c.loop-step.invariant.strokes_are) in record {
      left = c.loop-step.invariant.left ∙ step.0 ∙ sym (ap₂ (λ w l. map (state_at entries) w ++ l) c.none.ensures step.1);
      done = λ none. step.1;
      each = subst (AllByRecursion (IsNodeState entries words)) (sym c.none.ensures) tt;
      strokes_are = step.2;
    }
