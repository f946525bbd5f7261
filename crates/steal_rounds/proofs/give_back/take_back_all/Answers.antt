use Rattle.std.proofs.Common.{arith}
use Rattle.steal_rounds.proofs.Returns.{returned_on, all_back}
use Rattle.steal_rounds.proofs.give_back.take_back_all.Goals as goal

pub loop-victim-preserved : goal.loop-victim-preserved
loop-victim-preserved c = record {
  held = c.take_back_of.ensures.held;
  same = returned_on _ _ _ c.loop-victim.invariant.same c.take_back_of.ensures.same;
}

pub returns-clause-back : goal.returns-clause-back
returns-clause-back c = all_back c.loop-victim.crew.items c.loop-victim.victim (let n = c.loop-victim.invariant.same.count in omega (arith, c.loop-victim-test.false, c.loop-victim.auto.victim-end, c.len-victim-end.ensures, n, c.args.crew.now.ok.0)) c.loop-victim.invariant.held
