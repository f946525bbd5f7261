use Rattle.std.proofs.Common.{rules, length}
use Rattle.std.proofs.lemmas.List.{append-nil}
use Rattle.steal_rounds.proofs.Spreads.{goes_on}
use Rattle.steal_rounds.proofs.Gathers.{gathered_next, member_there, gathered_all, joins_goes}
use Rattle.steal_rounds.proofs.gather.join_all.Goals as goal

pub loop-member-preserved : goal.loop-member-preserved
loop-member-preserved g c =
    let i = c.loop-member.invariant in
    let j = c.join.ensures in
    record {
      goes = goes_on c.args.table.now c.args.pass.now c.loop-member.pass c.join.new.pass i.goes (joins_goes c.args.table.now c.loop-member.pass _ c.join.new.pass i.goes.0 j);
      gathered = gathered_next c.args.crew.items c.loop-member.crew.items c.pop.new.self.items c.in-Some.member c.loop-member.pass.seen c.join.new.pass.seen c.in-Some.ensures.items j.former j.latter i.gathered;
    }

pub join-requires-clause-other : goal.join-requires-clause-other
join-requires-clause-other g c = c.requires.crew (length c.pop.new.self.items) c.in-Some.member (member_there c.args.crew.items c.loop-member.crew.items c.pop.new.self.items c.in-Some.member c.loop-member.pass.seen c.in-Some.ensures.items c.loop-member.invariant.gathered)

pub returns-clause-seen : goal.returns-clause-seen
returns-clause-seen g c = gathered_all c.args.crew.items c.loop-member.crew.items c.loop-member.pass.seen (search (rules, append-nil)) c.loop-member.invariant.gathered
