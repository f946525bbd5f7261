use Rattle.std.proofs.lemmas.List.Sorted.{Contains-permutation, IsPermutation-sym}
use Rattle.steal_rounds.proofs.Rises.{contains_has, has_contains}
use Rattle.steal_rounds.proofs.Spreads.{alone_worked}
use Rattle.steal_rounds.proofs.alone.work_alone.Goals as goal

pub returns-clause-worked : goal.returns-clause-worked
returns-clause-worked g c =
    let p = c.sort_unstable.ensures.permutation in
    let xs = c.spread_gated.new.notes.items in let ys = c.sort_unstable.new.self.items in
    alone_worked c.args.table.now c.args.distance c.args.frontier.now c.args.pass.now c.spread_gated.new.pass _ xs ys c.in_ok-moves.ensures.pass c.new-notes.ensures.items c.in_ok-moves.ensures.made c.in_ok-moves.ensures.adds
    (λ u has. contains_has ys u (Contains-permutation xs ys u p (has_contains xs u has)))
    (λ u has. contains_has xs u (Contains-permutation ys xs u (IsPermutation-sym xs ys p) (has_contains ys u has)))
