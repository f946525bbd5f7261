use Rattle.std.proofs.Common.{rules, ◌≡◌, ◌+◌, ◌-◌, ◌/◌, ◌%◌, ◌<◌, length, length-set, set, arith, sym, subst, ◌∙◌, refl}
use Rattle.steal_batches.specs.Deques.{DequeView}
use Rattle.dist_table.specs.Tables.{TableView, PassView}
use Rattle.steal_rounds.specs.inside.Records.{AreBlank, AreIdle}
use Rattle.steal_rounds.proofs.Lists.{at_get}
use Rattle.steal_rounds.proofs.Makes.{Offering, offering, offering_first, offering_next, offering_blank, offering_idle, room_left, hiring}
use Rattle.steal_rounds.proofs.make.offer_all.Goals as goal

pub loop-batch-init : goal.loop-batch-init
loop-batch-init c = record {
  count = refl;
  blank = λ t p h. h;
  idle = λ h. h;
  offering = offering_first c.args.workers ((c.args.batches - 1) / c.args.workers + 1) c.args.crew.now.items c.requires.workers.1 c.requires.room;
}

pub offer-requires : goal.offer-requires
offer-requires c =
    let xs = c.loop-batch.crew.items in let b = c.loop-batch.batch in let i = c.loop-batch.invariant in
    let some = c.requires.workers.0 in
    let below : b % c.args.workers < length xs = search rules in
    let at = at_get xs (b % c.args.workers) c.index_mut.result.now below c.index_mut.ensures.value in
    let r = i.offering.roomy (b % c.args.workers) c.index_mut.result.now at in
    let left = room_left (length c.index_mut.result.now.deque.offered) b c.args.workers c.args.batches some c.loop-batch-test.true r.0 in
    let room = r.1 in
    omega (arith, left, room)

pub loop-batch-preserved : goal.loop-batch-preserved
loop-batch-preserved c =
    let xs = c.loop-batch.crew.items in let b = c.loop-batch.batch in let i = c.loop-batch.invariant in
    let a = b % c.args.workers in let x = c.index_mut.result.now in
    let some = c.requires.workers.0 in
    let below : a < length xs = search rules in
    let at = at_get xs a x below c.index_mut.ensures.value in
    let room = (c.args.batches - 1) / c.args.workers + 1 in
    let next = b + 1 in
    subst (λ (z : DequeView). record {
      count : length (set xs a (hiring x z)) ≡ length c.args.crew.now.items;
      blank : (t : TableView) (p : PassView) → AreBlank t p c.args.crew.now.items → AreBlank t p (set xs a (hiring x z));
      idle : AreIdle c.args.crew.now.items → AreIdle (set xs a (hiring x z));
      offering : Offering c.args.workers room next (set xs a (hiring x z));
    }) (sym c.offer.ensures) (record {
      count = length-set xs a (offering x b) ∙ i.count;
      blank = λ t p h. offering_blank t p xs a b x at (i.blank t p h);
      idle = λ h. offering_idle xs a b x at (i.idle h);
      offering = subst (λ n. Offering c.args.workers room n (set xs a (offering x b))) (omega arith) (offering_next c.args.workers room b a xs x some refl at i.offering);
    })
