use Rattle.std.proofs.Common.{ℕ, ◌<◌, ◌≤◌, ◌++◌, List, [], ◌∷◌, length, sym, subst, ap, ◌∙◌, arith, All}
use Rattle.round_core.specs.inside.InRounds.{moves_of}
use Rattle.steal_rounds.specs.inside.Crews.{IsRound}
use Rattle.steal_rounds.specs.inside.Fronts.{IsBeforeRound, IsWorked}
use Rattle.steal_rounds.specs.inside.Orders.{IsOrdered}
use Rattle.steal_rounds.proofs.Lists.{all_of}
use Rattle.steal_rounds.proofs.Spreads.{goes_self, goes_on}
use Rattle.steal_rounds.proofs.Fronts.{has_moves, are_rounds}
use Rattle.steal_rounds.proofs.Counts.{first_counted, all_counted}
use Rattle.steal_rounds.proofs.Orders.{order_length, order_moves, order_round, order_worked}
use Rattle.steal_rounds.proofs.Steps.{graph_at, within_count, is_round, few_front, round_ready, round_counts, search_ready, none_legal, none_left}
use Rattle.steal_rounds.proofs.searches.search_on.Goals as goal

pub search-init : goal.search-init
search-init g c =
    let t = c.args.table.now in
    let n = c.count-count.ensures in
    let graph = graph_at t.origin _ t.lists _ c.requires.graph.0 c.requires.graph.1 (record { few = n.most; start = c.start.ensures.below; targets = n.targets }) in
    let first = c.in_ok-push.ensures.items ∙ ap (λ (l : List ℕ). l ++ c.start.result ∷ []) c.in_ok-frontier.ensures.items ∙ ap (λ (s : ℕ). s ∷ []) (c.start.ensures.start ∙ sym c.requires.graph.0) in
    record {
      goes = goes_self t c.args.pass.now (c.requires.pass.0, none_legal t c.args.pass.now.seen c.requires.pass.1);
      ready = search_ready t c.push.new.self.items c.args.pass.now.seen graph first c.requires.pass.1;
      counted = first_counted t;
      below = omega arith;
    }

pub in_order-requires : goal.in_order-requires
in_order-requires g c =
    let t = c.args.table.now in
    let n = c.count-count.ensures in
    let graph = graph_at t.origin _ t.lists _ c.requires.graph.0 c.requires.graph.1 (record { few = n.most; start = c.start.ensures.below; targets = n.targets }) in
    let front = c.search.frontier.items in
    let some : 0 < length front = omega (arith, c.search-test.true, c.len.ensures, c.search.frontier.ok.0) in
    let round = is_round t c.search.rounds front c.search.pass.seen graph c.search.invariant.ready some in
    let lists = g.G.StepGraph.lists c.args.graph.now in
    subst (λ (l : List ℕ). All (λ (s : ℕ). s < length lists) l) (sym c.as_slice.ensures.value)
    (all_of (λ (s : ℕ). s < length lists) front (λ i s at. subst (λ (ls : List (List ℕ)). s < length ls) c.requires.graph.1 (round.1 i s at).0))

pub work_round-requires-clause-round : goal.work_round-requires-clause-round
work_round-requires-clause-round g c κs within =
    let t = c.args.table.now in
    let n = c.count-count.ensures in
    let graph = graph_at t.origin _ t.lists _ c.requires.graph.0 c.requires.graph.1 (record { few = n.most; start = c.start.ensures.below; targets = n.targets }) in
    let front = c.search.frontier.items in
    let some : 0 < length front = omega (arith, c.search-test.true, c.len.ensures, c.search.frontier.ok.0) in
    let has_rank = g.G.StepGraph.has_rank c.args.graph.now in
    let order = c.in_ok-order.order.items in
    let o = subst (λ (l : List ℕ). IsOrdered has_rank l order) c.as_slice.ensures.value c.in_ok-order.ensures in
    subst (λ (l : List ℕ). IsRound t c.search.rounds l) (sym c.as_slice-in-search.ensures.value)
    (order_round has_rank t c.search.rounds front order o (is_round t c.search.rounds front c.search.pass.seen graph c.search.invariant.ready some))

pub work_round-requires-clause-size : goal.work_round-requires-clause-size
work_round-requires-clause-size g c κs within =
    let t = c.args.table.now in
    let n = c.count-count.ensures in
    let graph = graph_at t.origin _ t.lists _ c.requires.graph.0 c.requires.graph.1 (record { few = n.most; start = c.start.ensures.below; targets = n.targets }) in
    let front = c.search.frontier.items in
    let some : 0 < length front = omega (arith, c.search-test.true, c.len.ensures, c.search.frontier.ok.0) in
    let has_rank = g.G.StepGraph.has_rank c.args.graph.now in
    let order = c.in_ok-order.order.items in
    let o = subst (λ (l : List ℕ). IsOrdered has_rank l order) c.as_slice.ensures.value c.in_ok-order.ensures in
    subst (λ (n : ℕ). (0 < n) × (n ≤ 33554432)) (sym (ap length c.as_slice-in-search.ensures.value ∙ order_length has_rank front order o))
    (some, few_front t c.search.rounds front c.search.pass.seen graph c.search.invariant.ready)

pub search-preserved : goal.search-preserved
search-preserved g c =
    let t = c.args.table.now in
    let n = c.count-count.ensures in
    let graph = graph_at t.origin _ t.lists _ c.requires.graph.0 c.requires.graph.1 (record { few = n.most; start = c.start.ensures.below; targets = n.targets }) in
    let i = c.search.invariant in let k = c.search.rounds in
    let front = c.search.frontier.items in
    let some : 0 < length front = omega (arith, c.search-test.true, c.len.ensures, c.search.frontier.ok.0) in
    let has_rank = g.G.StepGraph.has_rank c.args.graph.now in
    let order = c.in_ok-order.order.items in
    let o = subst (λ (l : List ℕ). IsOrdered has_rank l order) c.as_slice.ensures.value c.in_ok-order.ensures in
    let now = c.work_round.new.pass.seen in let notes = c.in_ok-notes.notes.items in
    let in_turn = subst (λ (l : List ℕ). IsWorked t k l c.search.pass.seen now notes) c.as_slice-in-search.ensures.value c.in_ok-notes.ensures.worked in
    let w = order_worked has_rank t k front order c.search.pass.seen now notes o in_turn in
    let m = c.in_ok-notes.ensures.counted ∙ ap (λ (l : List ℕ). moves_of t.lists l) c.as_slice-in-search.ensures.value ∙ order_moves has_rank t.lists front order o in
    record {
      goes = goes_on t c.args.pass.now c.search.pass c.work_round.new.pass i.goes c.in_ok-notes.ensures.pass;
      ready = round_ready t k front c.rise.new.notes.items notes c.search.pass.seen now graph some i.ready w c.in_ok-rise.ensures.some c.in_ok-rise.ensures.all c.in_ok-rise.ensures.rising;
      counted = round_counts t k c.search.relaxed c.in_ok-notes.moves c.in-Some.sum front c.search.pass.seen i.ready i.counted m c.in-Some.ensures.1;
      below = let b = within_count t k front c.search.pass.seen i.ready some in omega (arith, b);
    }

pub search-smaller : goal.search-smaller
search-smaller g c =
    let t = c.args.table.now in
    let some : 0 < length c.search.frontier.items = omega (arith, c.search-test.true, c.len.ensures, c.search.frontier.ok.0) in
    let b = within_count t c.search.rounds c.search.frontier.items c.search.pass.seen c.search.invariant.ready some in omega (arith, b)

pub returns-clause-moves : goal.returns-clause-moves
returns-clause-moves g c =
    let e = none_left c.search.frontier.items (omega (arith, c.search-test.false, c.len.ensures, c.search.frontier.ok.0)) in
    has_moves c.args.table.now c.search.rounds c.search.pass.seen (subst (λ (l : List ℕ). IsBeforeRound c.args.table.now c.search.rounds l c.search.pass.seen) e c.search.invariant.ready)

pub returns-clause-rounds : goal.returns-clause-rounds
returns-clause-rounds g c =
    let t = c.args.table.now in
    let n = c.count-count.ensures in
    let graph = graph_at t.origin _ t.lists _ c.requires.graph.0 c.requires.graph.1 (record { few = n.most; start = c.start.ensures.below; targets = n.targets }) in
    let e = none_left c.search.frontier.items (omega (arith, c.search-test.false, c.len.ensures, c.search.frontier.ok.0)) in
    are_rounds t c.search.rounds c.search.pass.seen graph (subst (λ (l : List ℕ). IsBeforeRound t c.search.rounds l c.search.pass.seen) e c.search.invariant.ready)

pub returns-clause-relaxed : goal.returns-clause-relaxed
returns-clause-relaxed g c =
    let t = c.args.table.now in
    let n = c.count-count.ensures in
    let graph = graph_at t.origin _ t.lists _ c.requires.graph.0 c.requires.graph.1 (record { few = n.most; start = c.start.ensures.below; targets = n.targets }) in
    let e = none_left c.search.frontier.items (omega (arith, c.search-test.false, c.len.ensures, c.search.frontier.ok.0)) in
    all_counted t c.search.rounds c.search.relaxed c.search.pass.seen graph (subst (λ (l : List ℕ). IsBeforeRound t c.search.rounds l c.search.pass.seen) e c.search.invariant.ready) c.search.invariant.counted
