use Rattle.std.proofs.Common.{◌≡◌, ℕ, Some, subst, refl, ap, ⊎_elim, inl, inr}
use Rattle.steal_batches.specs.Deques.{DequeView}
use Rattle.std.specs.Prelude.{slice_get}
use Rattle.steal_rounds.specs.inside.Crews.{Stole}
use Rattle.steal_rounds.proofs.Takings.{thieves_self}
use Rattle.steal_rounds.proofs.work.next_batch.Goals as goal

pub returns-in-Some-clause-same : goal.returns-in-Some-clause-same
returns-in-Some-clause-same g c =
    let d = c.in-Some.ensures.taken in
    (refl, refl, refl, refl, refl, (ap (λ (x : DequeView). x.id) d, ap (λ (x : DequeView). x.worker) d, ap (λ (x : DequeView). x.room) d, ap (λ (x : DequeView). x.made) d, ap (λ (x : DequeView). x.thieves) d, ap (λ (x : DequeView). x.offered) d), thieves_self c.args.member.now.thieves.items)

pub returns-clause-took : goal.returns-clause-took
returns-clause-took g c = λ b s.
    ⊎_elim
    (λ (own : (i : ℕ) × (slice_get c.take.new.self.taken i ≡ Some b)). inr (inl (subst (λ (d : DequeView). (i : ℕ) × (slice_get d.taken i ≡ Some b)) c.in_default.ensures.none own)))
    (λ (st : Stole c.steal_any.new.thieves.items b). ⊎_elim (λ new. inl new) (λ (old : Stole c.args.member.now.thieves.items b). inr (inr old)) (c.steal_any.ensures.took b st))
    s
