use Rattle.std.proofs.Common.{◌≡◌, ◌*◌, ◌<◌, length, sym, ap, subst, arith, ◌∙◌, true, Some, None}
use Rattle.round_core.specs.declared.event.Event.TheVariants.{Take}
use Rattle.round_core.specs.Hands.{machine_of, hand_moves, stepped, AreBelow}
use Rattle.round_core.specs.Machines.{is_enabled, batch_of, moves_in}
use Rattle.round_core.proofs.Steps.{reached_after, reached_good, take_parts, front_below, front_short, batch_inside, view_inside, owned_set, take_is, made}
use Rattle.round_core.proofs.machine.RoundState.take.Goals as goal

pub overflow_mul-at : goal.overflow_mul-at
overflow_mul-at g c =
    let s = c.self.inside in let o = g.G.StepGraph.origin s.graph.now in let ls = g.G.StepGraph.lists s.graph.now in let left = g.G.StepGraph.left s.graph.now in
    let m = machine_of left ls s.words.items s.front.items s.closed s.begun s.noted.items s.size s.untaken.items s.hands.items in
    let on : is_enabled m (Take c.args.worker c.args.batch) ≡ true = subst (λ v. is_enabled v.now (Take c.args.worker c.args.batch) ≡ true) (sym c.self.view_is) c.requires in
    let good = reached_good o ls m c.self.invariant.graph c.self.invariant.reached in
    let parts = take_parts m c.args.worker c.args.batch on in
    let inside = (batch_inside o ls m c.args.batch good parts.1).0 in
    let short = front_short o ls m good in let few = c.self.invariant.graph.few in
    omega (arith, inside, short, few)

pub hand_at-hand-requires-clause-place : goal.hand_at-hand-requires-clause-place
hand_at-hand-requires-clause-place g c =
    let s = c.self.inside in let o = g.G.StepGraph.origin s.graph.now in let ls = g.G.StepGraph.lists s.graph.now in let left = g.G.StepGraph.left s.graph.now in
    let m = machine_of left ls s.words.items s.front.items s.closed s.begun s.noted.items s.size s.untaken.items s.hands.items in
    let on : is_enabled m (Take c.args.worker c.args.batch) ≡ true = subst (λ v. is_enabled v.now (Take c.args.worker c.args.batch) ≡ true) (sym c.self.view_is) c.requires in
    let good = reached_good o ls m c.self.invariant.graph c.self.invariant.reached in
    let parts = take_parts m c.args.worker c.args.batch on in
    let inside = (batch_inside o ls m c.args.batch good parts.1).0 in
    subst (λ f. c.args.batch * s.size < length f) (sym c.as_slice.ensures.value) inside

pub hand_at-hand-requires-clause-size : goal.hand_at-hand-requires-clause-size
hand_at-hand-requires-clause-size g c =
    let s = c.self.inside in let o = g.G.StepGraph.origin s.graph.now in let ls = g.G.StepGraph.lists s.graph.now in let left = g.G.StepGraph.left s.graph.now in
    let m = machine_of left ls s.words.items s.front.items s.closed s.begun s.noted.items s.size s.untaken.items s.hands.items in
    let on : is_enabled m (Take c.args.worker c.args.batch) ≡ true = subst (λ v. is_enabled v.now (Take c.args.worker c.args.batch) ≡ true) (sym c.self.view_is) c.requires in
    let good = reached_good o ls m c.self.invariant.graph c.self.invariant.reached in
    (batch_inside o ls m c.args.batch good (take_parts m c.args.worker c.args.batch on).1).1

pub hand_at-hand-requires-clause-front : goal.hand_at-hand-requires-clause-front
hand_at-hand-requires-clause-front g c =
    let s = c.self.inside in let o = g.G.StepGraph.origin s.graph.now in let ls = g.G.StepGraph.lists s.graph.now in let left = g.G.StepGraph.left s.graph.now in
    let m = machine_of left ls s.words.items s.front.items s.closed s.begun s.noted.items s.size s.untaken.items s.hands.items in
    let good = reached_good o ls m c.self.invariant.graph c.self.invariant.reached in
    subst (λ f. AreBelow (length ls) f) (sym c.as_slice.ensures.value) (front_below o ls m good)

pub index_mut-requires-2 : goal.index_mut-requires-2
index_mut-requires-2 g c =
    let s = c.self.inside in let o = g.G.StepGraph.origin s.graph.now in let ls = g.G.StepGraph.lists s.graph.now in let left = g.G.StepGraph.left s.graph.now in
    let m = machine_of left ls s.words.items s.front.items s.closed s.begun s.noted.items s.size s.untaken.items s.hands.items in
    let on : is_enabled m (Take c.args.worker c.args.batch) ≡ true = subst (λ v. is_enabled v.now (Take c.args.worker c.args.batch) ≡ true) (sym c.self.view_is) c.requires in
    let inside = view_inside left ls s.front.items s.hands.items c.args.worker None (take_parts m c.args.worker c.args.batch on).0 in omega (arith, inside)

pub invariant_of-self : goal.invariant_of-self
invariant_of-self g c =
    let s = c.self.inside in let o = g.G.StepGraph.origin s.graph.now in let ls = g.G.StepGraph.lists s.graph.now in let left = g.G.StepGraph.left s.graph.now in
    let m = machine_of left ls s.words.items s.front.items s.closed s.begun s.noted.items s.size s.untaken.items s.hands.items in
    let on : is_enabled m (Take c.args.worker c.args.batch) ≡ true = subst (λ v. is_enabled v.now (Take c.args.worker c.args.batch) ≡ true) (sym c.self.view_is) c.requires in
    let hand = c.hand_at-hand.result in
    let moves = subst (λ f. hand_moves left ls f hand ≡ moves_in ls (batch_of f s.size c.args.batch)) c.as_slice.ensures.value c.hand_at-hand.ensures.moves in
    let is = take_is left ls s.words.items s.front.items s.closed s.begun s.noted.items s.size s.untaken.items s.hands.items c.args.worker c.args.batch hand on moves in
    record {
      graph = c.self.invariant.graph;
      reached = reached_after o ls m _ (Take c.args.worker c.args.batch) c.self.invariant.reached is;
      owned = owned_set (g.G.StepGraph.owns s.graph.now) s.hands.items c.args.worker (Some hand) (view_inside left ls s.front.items s.hands.items c.args.worker None (take_parts m c.args.worker c.args.batch on).0) c.self.invariant.owned c.hand_at-hand.ensures.owned;
      front = c.self.invariant.front;
      noted = c.self.invariant.noted;
      untaken = c.self.invariant.untaken;
    }

pub returns : goal.returns
returns g c =
    let s = c.self.inside in let o = g.G.StepGraph.origin s.graph.now in let ls = g.G.StepGraph.lists s.graph.now in let left = g.G.StepGraph.left s.graph.now in
    let m = machine_of left ls s.words.items s.front.items s.closed s.begun s.noted.items s.size s.untaken.items s.hands.items in
    let on : is_enabled m (Take c.args.worker c.args.batch) ≡ true = subst (λ v. is_enabled v.now (Take c.args.worker c.args.batch) ≡ true) (sym c.self.view_is) c.requires in
    let hand = c.hand_at-hand.result in
    let moves = subst (λ f. hand_moves left ls f hand ≡ moves_in ls (batch_of f s.size c.args.batch)) c.as_slice.ensures.value c.hand_at-hand.ensures.moves in
    let is = take_is left ls s.words.items s.front.items s.closed s.begun s.noted.items s.size s.untaken.items s.hands.items c.args.worker c.args.batch hand on moves in
    made o ls m _ (Take c.args.worker c.args.batch) is ∙ ap (λ v. stepped v (Take c.args.worker c.args.batch)) c.self.view_is
