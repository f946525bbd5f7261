use Rattle.std.proofs.Common.{◌∙◌, rules}
use Rattle.steal_rounds.proofs.Takings.{works_self, works_on}
use Rattle.steal_rounds.proofs.work.work.Goals as goal

pub loop-init : goal.loop-init
loop-init g c = works_self c.args.table.now c.args.distance c.args.frontier.now c.args.member.now c.requires.pass

pub loop-preserved : goal.loop-preserved
loop-preserved g c = works_on c.args.table.now c.args.distance c.args.frontier.now c.args.member.now c.loop.member c.work_one.new.member c.loop.invariant c.work_one.ensures.works

pub returns-then-not-work_one : goal.returns-then-not-work_one
returns-then-not-work_one g c = record {
  works = works_on c.args.table.now c.args.distance c.args.frontier.now c.args.member.now c.loop.member c.work_one.new.member c.loop.invariant c.work_one.ensures.works;
  emptied = λ short none. c.work_one.ensures.emptied (search rules) short (c.loop.invariant.same.deque.4 ∙ none);
}
