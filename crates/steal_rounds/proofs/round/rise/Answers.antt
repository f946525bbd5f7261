use Rattle.std.proofs.Common.{◌≡◌, ℕ, List, eqb, sym, subst}
use Rattle.std.specs.List.{dedup}
use Rattle.round_core.specs.Rounds.{Has, AreRisingNumbers}
use Rattle.std.proofs.lemmas.List.Sorted.{Contains-permutation, IsPermutation-sym}
use Rattle.std.proofs.lemmas.List.Kept.{Contains-dedup_nat, Contains-from_dedup}
use Rattle.std.proofs.lemmas.Map.Keys.{IsStrictlyIncreasing-dedup}
use Rattle.std.proofs.lemmas.List.Filters.{dedup_is}
use Rattle.steal_rounds.proofs.Rises.{contains_has, has_contains, are_rising}
use Rattle.steal_rounds.proofs.round.rise.Goals as goal

pub returns-clause-some : goal.returns-clause-some
returns-clause-some c = λ u has.
    let xs = c.args.notes.now.items in let ys = c.sort.new.self.items in
    let d : c.dedup.new.self.items ≡ dedup eqb ys = dedup_is eqb ys c.dedup.new.self.items c.dedup.ensures.filtered in
    contains_has xs u (Contains-permutation ys xs u (IsPermutation-sym xs ys c.in_ok-sort.ensures.permutation) (Contains-from_dedup eqb ys u (has_contains (dedup eqb ys) u (subst (λ (l : List ℕ). Has l u) d has))))

pub returns-clause-all : goal.returns-clause-all
returns-clause-all c = λ u has.
    let xs = c.args.notes.now.items in let ys = c.sort.new.self.items in
    let d : c.dedup.new.self.items ≡ dedup eqb ys = dedup_is eqb ys c.dedup.new.self.items c.dedup.ensures.filtered in
    subst (λ (l : List ℕ). Has l u) (sym d) (contains_has (dedup eqb ys) u (Contains-dedup_nat ys u (Contains-permutation xs ys u c.in_ok-sort.ensures.permutation (has_contains xs u has))))

pub returns-clause-rising : goal.returns-clause-rising
returns-clause-rising c =
    let ys = c.sort.new.self.items in
    let d : c.dedup.new.self.items ≡ dedup eqb ys = dedup_is eqb ys c.dedup.new.self.items c.dedup.ensures.filtered in
    subst (λ (l : List ℕ). AreRisingNumbers l) (sym d) (are_rising (dedup eqb ys) (IsStrictlyIncreasing-dedup ys c.in_ok-sort.ensures.sorted))
