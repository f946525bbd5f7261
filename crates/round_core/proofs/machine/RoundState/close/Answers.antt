use Rattle.std.proofs.Common.{◌≡◌, sym, ap, subst, arith, ◌∙◌, true}
use Rattle.round_core.specs.declared.event.Event.TheVariants.{Close}
use Rattle.round_core.specs.Hands.{machine_of, stepped}
use Rattle.round_core.specs.Machines.{is_enabled, sorted}
use Rattle.round_core.proofs.Steps.{reached_after, reached_good, close_parts, begun_few, close_is, made}
use Rattle.std.specs.Vec.{vec_capacity}
use Rattle.round_core.proofs.machine.RoundState.close.Goals as goal

pub overflow_add-self : goal.overflow_add-self
overflow_add-self g c =
    let s = c.self.inside in let o = g.G.StepGraph.origin s.graph.now in let ls = g.G.StepGraph.lists s.graph.now in let left = g.G.StepGraph.left s.graph.now in
    let m = machine_of left ls s.words.items s.front.items s.closed s.begun s.noted.items s.size s.untaken.items s.hands.items in
    let on : is_enabled m (Close) ≡ true = subst (λ v. is_enabled v.now (Close) ≡ true) (sym c.self.view_is) c.requires in
    let good = reached_good o ls m c.self.invariant.graph c.self.invariant.reached in
    let few = begun_few o ls m c.self.invariant.graph good (close_parts m on).0 in omega (arith, few)

pub invariant_of-self : goal.invariant_of-self
invariant_of-self g c =
    let s = c.self.inside in let o = g.G.StepGraph.origin s.graph.now in let ls = g.G.StepGraph.lists s.graph.now in let left = g.G.StepGraph.left s.graph.now in
    let m = machine_of left ls s.words.items s.front.items s.closed s.begun s.noted.items s.size s.untaken.items s.hands.items in
    let on : is_enabled m (Close) ≡ true = subst (λ v. is_enabled v.now (Close) ≡ true) (sym c.self.view_is) c.requires in
    let is = close_is left ls s.words.items s.front.items s.closed s.begun s.noted.items s.size s.untaken.items s.hands.items c.rise.new.front.items c.clear.new.self.items on
    (c.rise.ensures.items ∙ ap (λ v. sorted v.items) c.swap.ensures.x_after) c.clear.ensures.items in
    let x = ap vec_capacity c.swap.ensures.x_after in let y = ap vec_capacity c.swap.ensures.y_after in
    let a = c.rise.ensures.room in let b = c.clear.ensures.capacity in let f = c.self.invariant.front in let n = c.self.invariant.noted in
    record {
      graph = c.self.invariant.graph;
      reached = reached_after o ls m _ Close c.self.invariant.reached is;
      owned = c.self.invariant.owned;
      front = omega (arith, x, a, n);
      noted = omega (arith, y, b, f);
      untaken = c.self.invariant.untaken;
    }

pub returns : goal.returns
returns g c =
    let s = c.self.inside in let o = g.G.StepGraph.origin s.graph.now in let ls = g.G.StepGraph.lists s.graph.now in let left = g.G.StepGraph.left s.graph.now in
    let m = machine_of left ls s.words.items s.front.items s.closed s.begun s.noted.items s.size s.untaken.items s.hands.items in
    let on : is_enabled m (Close) ≡ true = subst (λ v. is_enabled v.now (Close) ≡ true) (sym c.self.view_is) c.requires in
    let is = close_is left ls s.words.items s.front.items s.closed s.begun s.noted.items s.size s.untaken.items s.hands.items c.rise.new.front.items c.clear.new.self.items on
    (c.rise.ensures.items ∙ ap (λ v. sorted v.items) c.swap.ensures.x_after) c.clear.ensures.items in
    made o ls m _ Close is ∙ ap (λ v. stepped v Close) c.self.view_is
