use Rattle.std.proofs.lemmas.List.Sorted.{Contains-permutation, IsPermutation-sym}
use Rattle.steal_rounds.proofs.Rises.{contains_has, has_contains}
use Rattle.steal_rounds.proofs.Takings.{turned_sorted}
use Rattle.steal_rounds.proofs.work.RoundTurnCrewMember.turn.Goals as goal

pub returns : goal.returns
returns g c =
    let p = c.sort_unstable.ensures.permutation in
    let xs = c.work.new.member.notes.items in let ys = c.sort_unstable.new.self.items in
    turned_sorted _ _ _ _ c.work.new.member c.sort_unstable.new.self c.work.ensures
    (λ u has. contains_has ys u (Contains-permutation xs ys u p (has_contains xs u has)))
    (λ u has. contains_has xs u (Contains-permutation ys xs u (IsPermutation-sym xs ys p) (has_contains ys u has)))
