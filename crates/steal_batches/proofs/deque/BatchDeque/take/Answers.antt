use Rattle.std.proofs.Common.{refl, ap, subst, ◌∙◌, inl}
use Rattle.steal_batches.specs.Rules.{owner_knows, WasEmpty}
use Rattle.steal_batches.specs.Deques.{DequeView}
use Rattle.steal_batches.proofs.StepLemmas.{gets, all_taken}
use Rattle.steal_batches.specs.declared.hand.Hand.{Hand}
use Rattle.steal_batches.proofs.deque.BatchDeque.take.Goals as goal

pub pop_as-requires-clause-fifo : goal.pop_as-requires-clause-fifo
pop_as-requires-clause-fifo c = λ _. let i = c.self.invariant in gets _ _ (inl (ap (λ (h : Hand). h.owns) i.1, ap (λ (h : Hand). h.live) i.1))

pub returns-in-None-clause-all : goal.returns-in-None-clause-all
returns-in-None-clause-all c = λ out. all_taken (owner_knows c.args.self.now.made c.args.self.now.thieves c.args.self.now.offered c.args.self.now.taken) refl out
    (subst WasEmpty (c.self.invariant.1 ∙ ap (λ (d : DequeView). owner_knows d.made d.thieves d.offered d.taken) c.self.view_is) c.in-None.ensures.rule.1)
