use Rattle.std.proofs.Common.{rules, ◌≡◌, ℕ, ◌+◌, ◌*◌, ◌++◌, ◌∷◌, [], List, take, get_or, arith, subst, sym, refl}
use Rattle.std.proofs.lemmas.List.{take_more}
use Rattle.steal_rounds.specs.inside.Orders.{AreKeys}
use Rattle.steal_rounds.proofs.Orders.{keys_next}
use Rattle.steal_rounds.proofs.order.keys_of.Goals as goal

pub loop-number-preserved : goal.loop-number-preserved
loop-number-preserved g c =
    let i = c.loop-number.number-index in
    let xs = c.args.frontier.now in
    let s = get_or xs i 0 in
    let key = c.rank-rank.result * 4294967296 + s in
    let pushed : c.push.new.self.items ≡ c.loop-number.keys.items ++ key ∷ [] = search rules in
    let has_rank = g.G.StepGraph.has_rank c.args.graph.now in
    let next = keys_next has_rank (take i xs) c.loop-number.keys.items s c.rank-rank.result key c.loop-number.invariant (let f = c.type_inv.frontier i in omega (arith, f)) c.rank-rank.ensures refl in
    subst (λ (l : List ℕ). AreKeys has_rank l c.push.new.self.items) (sym (take_more xs i 0 (omega arith)))
    (subst (λ (l : List ℕ). AreKeys has_rank (take i xs ++ s ∷ []) l) (sym pushed) next)
