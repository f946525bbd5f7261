use Rattle.std.proofs.Common.{◌≡◌, ◌<◌, List, length, set, arith, sym, subst, refl, ap, ◌∙◌, ⊎_elim, inl, inr}
use Rattle.steal_batches.specs.Deques.{ThiefView}
use Rattle.steal_rounds.specs.inside.Crews.{Stole, SameThieves}
use Rattle.steal_rounds.proofs.Takings.{more_by, thieves_self, thieves_set, stole_set}
use Rattle.steal_rounds.proofs.work.steal_any.Goals as goal

pub returns-in-Some-clause-took : goal.returns-in-Some-clause-took
returns-in-Some-clause-took g c = λ b s.
    let xs = c.loop-i.thieves.items in
    let batch = c.in-Some.receipt.batch in
    let is = c.in-Some.ensures.taken ∙ ap (λ (t : ThiefView). more_by t batch) c.index_mut.ensures.value in
    let same : length xs ≡ length c.args.thieves.now.items = ap (λ (l : List ThiefView). length l) c.loop-i.invariant in
    let below : c.loop-i.i < length xs = omega (arith, same, c.loop-i-test.true, c.len-i-end.ensures, c.args.thieves.now.ok.0) in
    ⊎_elim (λ (new : batch ≡ b). inl (new, refl)) (λ (old : Stole xs b). inr (subst (λ (l : List ThiefView). Stole l b) c.loop-i.invariant old))
    (stole_set xs c.loop-i.i batch c.index_mut.result.now below b (subst (λ (t : ThiefView). Stole (set xs c.loop-i.i t) b) is s))

pub returns-in-Some-clause-same : goal.returns-in-Some-clause-same
returns-in-Some-clause-same g c =
    let xs = c.loop-i.thieves.items in
    let batch = c.in-Some.receipt.batch in
    let is = c.in-Some.ensures.taken ∙ ap (λ (t : ThiefView). more_by t batch) c.index_mut.ensures.value in
    let same : length xs ≡ length c.args.thieves.now.items = ap (λ (l : List ThiefView). length l) c.loop-i.invariant in
    let below : c.loop-i.i < length xs = omega (arith, same, c.loop-i-test.true, c.len-i-end.ensures, c.args.thieves.now.ok.0) in
    subst (λ (l : List ThiefView). SameThieves l (set xs c.loop-i.i c.steal.new.self)) c.loop-i.invariant
    (subst (λ (t : ThiefView). SameThieves xs (set xs c.loop-i.i t)) (sym is) (thieves_set xs c.loop-i.i batch c.index_mut.result.now below))

pub returns-clause-same : goal.returns-clause-same
returns-clause-same g c = subst (λ (l : List ThiefView). SameThieves c.args.thieves.now.items l) (sym c.loop-i.invariant) (thieves_self c.args.thieves.now.items)
