use Rattle.std.proofs.Common.{◌≡◌, sym, ap, ◌∙◌, true, true≢false}
use Rattle.round_core.specs.declared.event.Event.TheVariants.{Close}
use Rattle.round_core.specs.Hands.{machine_of}
use Rattle.round_core.specs.Machines.{is_enabled, all_free, none_untaken}
use Rattle.round_core.proofs.Steps.{close_test, free_view}
use Rattle.round_core.proofs.machine.RoundState.is_enabled.Goals.{then-self, else-self}
use Rattle.round_core.proofs.machine.RoundState.is_enabled.Goals as goal

pub returns-then-are_taken : goal.returns-then-are_taken
returns-then-are_taken g c =
    let s = c.self.inside in let o = g.G.StepGraph.origin s.graph.now in let ls = g.G.StepGraph.lists s.graph.now in let left = g.G.StepGraph.left s.graph.now in
    let m = machine_of left ls s.words.items s.front.items s.closed s.begun s.noted.items s.size s.untaken.items s.hands.items in
    let free = c.are_free_hands.ensures ∙ ap (λ hs. all_free hs) c.as_slice-then-are_taken.ensures.value ∙ sym (free_view left ls s.front.items s.hands.items) in
    elim c.if-self.branch [
      | then-self w ↦ (
          let taken : none_untaken s.untaken.items ≡ true = sym (w.are_taken.ensures ∙ ap none_untaken w.as_slice-then-self.ensures.value) ∙ sym w.value-is ∙ c.if-are_taken.true in
          free ∙ close_test m w.if-self.true taken ∙ ap (λ v. is_enabled v.now Close) c.self.view_is ∙ ap (is_enabled c.args.self.now.now) (sym c.in-Close.is))
      | else-self w ↦ absurd (true≢false (sym c.if-are_taken.true ∙ w.value-is ∙ w.if-self.false))
    ]
