use Rattle.std.proofs.Common.{ℕ, List, map, sym, subst, ap, ◌∙◌}
use Rattle.steal_rounds.specs.inside.Orders.{low_half, IsOrdered}
use Rattle.steal_rounds.proofs.Lists.{ok_map}
use Rattle.steal_rounds.proofs.Orders.{ordered}
use Rattle.steal_rounds.proofs.order.in_order.Goals as goal

pub returns : goal.returns
returns g c =
    let has_rank = g.G.StepGraph.has_rank c.args.graph.now in
    let sorted = c.sort_unstable.new.self.items in
    let o = ordered has_rank c.args.frontier.now c.in_ok-keys.keys.items sorted c.in_ok-keys.ensures c.sort_unstable.ensures.permutation c.sort_unstable.ensures.sorted in
    ok_map _ _ c.numbers_of.result (λ numbers is. subst (λ (l : List ℕ). IsOrdered has_rank c.args.frontier.now l) (sym (is ∙ ap (λ (l : List ℕ). map low_half l) c.as_slice.ensures.value)) o) c.numbers_of.ensures
