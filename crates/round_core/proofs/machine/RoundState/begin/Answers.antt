use Rattle.std.proofs.Common.{◌≡◌, length, sym, ap, subst, arith, ◌∙◌, true, replicate}
use Rattle.round_core.specs.declared.event.Event.TheVariants.{Begin}
use Rattle.round_core.specs.Hands.{machine_of}
use Rattle.round_core.specs.Machines.{is_enabled, batch_count}
use Rattle.round_core.proofs.Steps.{reached_after, reached_good, begin_parts, front_short, begin_is}
use Rattle.round_core.proofs.Moves.{batches_short}
use Rattle.round_core.proofs.machine.RoundState.begin.Goals as goal

pub refill-requires : goal.refill-requires
refill-requires g c =
    let s = c.self.inside in let o = g.G.StepGraph.origin s.graph.now in let ls = g.G.StepGraph.lists s.graph.now in let left = g.G.StepGraph.left s.graph.now in
    let m = machine_of left ls s.words.items s.front.items s.closed s.begun s.noted.items s.size s.untaken.items s.hands.items in
    let on : is_enabled m (Begin c.args.size) ≡ true = subst (λ v. is_enabled v.now (Begin c.args.size) ≡ true) (sym c.self.view_is) c.requires in
    let good = reached_good o ls m c.self.invariant.graph c.self.invariant.reached in
    let parts = begin_parts m c.args.size on in let some = parts.0 in let positive = parts.1 in
    let few = batches_short (length s.front.items) c.args.size some positive in
    let short = front_short o ls m good in
    let room = c.self.invariant.untaken in
    let len : c.len.result ≡ length s.front.items = (let e = c.len.ensures in omega (arith, e)) in
    let count = ap (λ n. batch_count n c.args.size) len in
    omega (arith, few, short, room, count)

pub invariant_of-self : goal.invariant_of-self
invariant_of-self g c =
    let s = c.self.inside in let o = g.G.StepGraph.origin s.graph.now in let ls = g.G.StepGraph.lists s.graph.now in let left = g.G.StepGraph.left s.graph.now in
    let m = machine_of left ls s.words.items s.front.items s.closed s.begun s.noted.items s.size s.untaken.items s.hands.items in
    let on : is_enabled m (Begin c.args.size) ≡ true = subst (λ v. is_enabled v.now (Begin c.args.size) ≡ true) (sym c.self.view_is) c.requires in
    let len : c.len.result ≡ length s.front.items = (let e = c.len.ensures in omega (arith, e)) in
    let is = begin_is left ls s.words.items s.front.items s.closed s.begun s.noted.items s.size c.args.size s.untaken.items c.refill.new.untaken.items s.hands.items on
    (c.refill.ensures.items ∙ ap (λ n. replicate (batch_count n c.args.size) true) len) in
    record {
      graph = c.self.invariant.graph;
      reached = reached_after o ls m _ (Begin c.args.size) c.self.invariant.reached is;
      owned = c.self.invariant.owned;
      front = c.self.invariant.front;
      noted = c.self.invariant.noted;
      untaken = (let room = c.refill.ensures.room in let old = c.self.invariant.untaken in omega (arith, room, old));
    }
