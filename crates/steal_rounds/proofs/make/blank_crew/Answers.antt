use Rattle.std.proofs.Common.{◌≡◌, ◌∷◌, [], List, Some, false, length, length-append, arith, ap, sym, subst, ◌∙◌, refl}
use Rattle.dist_table.specs.Tables.{PassView}
use Rattle.std.specs.Prelude.{slice_get}
use Rattle.steal_batches.specs.Deques.{ThiefView}
use Rattle.steal_rounds.specs.declared.member.CrewMember.{CrewMember}
use Rattle.steal_rounds.specs.inside.Records.{AreBlank, AreIdle, HaveRoom}
use Rattle.steal_rounds.proofs.Makes.{fresh_snoc}
use Rattle.steal_rounds.proofs.make.blank_crew.Goals as goal

pub loop-worker-preserved : goal.loop-worker-preserved
loop-worker-preserved g c =
    let i = c.loop-worker.invariant in let xs = c.loop-worker.crew.items in
    let d = c.in_ok-deque.ensures in let n = c.in_ok-own.ensures in
    let is = c.in_ok-push.ensures.items in
    let x : CrewMember = record { worker = c.loop-worker.worker; pass = c.in_ok-own.own; deque = c.in_ok-deque.deque; thieves = c.new-in-loop-worker.result; notes = c.new-in-loop-worker-2.result; moves = 0; short = false } in
    let l = ap (λ (z : List CrewMember). length z) is in let a = length-append xs (x ∷ []) in let k = i.count in
    record {
      same = c.in_ok-own.ensures.same ∙ i.same;
      count = omega (arith, l, a, k);
      fresh = subst (λ (z : List CrewMember). AreBlank c.args.table.now c.args.pass.now z × AreIdle z × HaveRoom c.args.room z) (sym is)
          (fresh_snoc c.args.table.now c.args.pass.now c.args.room xs x i.fresh
          (record { pass = n.table; seen = n.seen ∙ ap (λ (p : PassView). p.seen) i.same; deque = d.batches.1; thieves = λ j th e. absurd (let f = subst (λ (l : List ThiefView). slice_get l j ≡ Some th) c.new-in-loop-worker.ensures.items e in cc f); notes = c.new-in-loop-worker-2.ensures.items; moves = refl; short = refl })
          c.new-in-loop-worker.ensures.items d.thieves.1 d.batches.0 d.worker.1);
    }
