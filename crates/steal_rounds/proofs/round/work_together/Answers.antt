use Rattle.std.proofs.Common.{rules, ◌≡◌, ◌+◌, ◌*◌, ◌≤◌, List, length, sym, subst, arith, ◌/◌, IfOk}
use Rattle.dist_table.specs.Tables.{PassView}
use Rattle.steal_rounds.specs.declared.member.CrewMember.{CrewMember}
use Rattle.steal_rounds.specs.inside.Lists.{Each}
use Rattle.steal_rounds.specs.inside.Moves.{IsLaterPass}
use Rattle.round_core.specs.inside.InRounds.{moves_of}
use Rattle.steal_rounds.specs.inside.Crews.{Turned}
use Rattle.steal_rounds.specs.inside.Fronts.{IsWorked}
use Rattle.steal_rounds.specs.inside.Records.{AreHeld, AreReturned, AreCollected}
use Rattle.steal_rounds.proofs.Lists.{lent_whole, each_length, ok_map}
use Rattle.steal_rounds.proofs.Rounds.{held_turned, returned_legal, turns_legal}
use Rattle.steal_rounds.proofs.Worked.{round_worked, round_counted}
use Rattle.steal_rounds.proofs.round.work_together.Goals as goal

pub take_back_all-requires : goal.take_back_all-requires
take_back_all-requires g c =
    let t = c.args.table.now in let k = c.args.distance in let front = c.args.frontier.now in
    let xs0 = c.in_ok-crew.crew.items in let xs1 = c.run_round.new.crew in
    let lent : c.as_mut_slice.result.now ≡ xs0 = search rules in
    let run = subst (λ (l : List CrewMember). Each (Turned t k front) l xs1) lent c.run_round.ensures in
    let len : c.in_ok-crew.crew.len ≡ length xs0 = c.in_ok-crew.crew.ok.0 in
    let all = lent_whole xs0 xs1 c.in_ok-crew.crew.len len (each_length (Turned t k front) xs0 xs1 run) in
    subst (λ (l : List CrewMember). AreHeld 0 0 l) (sym all) (held_turned t k front 0 0 xs0 xs1 run c.in_ok-crew.ensures.made.held)

pub work_rest-requires-clause-passes : goal.work_rest-requires-clause-passes
work_rest-requires-clause-passes g c =
    let t = c.args.table.now in let k = c.args.distance in let front = c.args.frontier.now in
    let xs0 = c.in_ok-crew.crew.items in let xs1 = c.run_round.new.crew in
    let lent : c.as_mut_slice.result.now ≡ xs0 = search rules in
    let run = subst (λ (l : List CrewMember). Each (Turned t k front) l xs1) lent c.run_round.ensures in
    let len : c.in_ok-crew.crew.len ≡ length xs0 = c.in_ok-crew.crew.ok.0 in
    let all = lent_whole xs0 xs1 c.in_ok-crew.crew.len len (each_length (Turned t k front) xs0 xs1 run) in
    let xs2 = c.take_back_all.new.crew.items in
    let ret = subst (λ (l : List CrewMember). AreReturned l xs2) all c.take_back_all.ensures.same in
    returned_legal t k front xs0 xs1 xs2 run ret

pub join_all-requires-clause-crew : goal.join_all-requires-clause-crew
join_all-requires-clause-crew g c = turns_legal c.args.table.now c.args.distance c.args.frontier.now c.take_back_all.new.crew.items c.work_rest.new.crew.items c.work_rest.ensures

pub returns-clause-worked : goal.returns-clause-worked
returns-clause-worked g c =
    let t = c.args.table.now in let k = c.args.distance in let front = c.args.frontier.now in
    let xs0 = c.in_ok-crew.crew.items in let xs1 = c.run_round.new.crew in
    let lent : c.as_mut_slice.result.now ≡ xs0 = search rules in
    let run = subst (λ (l : List CrewMember). Each (Turned t k front) l xs1) lent c.run_round.ensures in
    let len : c.in_ok-crew.crew.len ≡ length xs0 = c.in_ok-crew.crew.ok.0 in
    let all = lent_whole xs0 xs1 c.in_ok-crew.crew.len len (each_length (Turned t k front) xs0 xs1 run) in
    let xs2 = c.take_back_all.new.crew.items in let xs3 = c.work_rest.new.crew.items in
    let ret = subst (λ (l : List CrewMember). AreReturned l xs2) all c.take_back_all.ensures.same in
    let made = c.in_ok-crew.ensures.made in
    let p = c.args.pass.now in let q = c.join_all.new.pass in
    let goes = subst (λ (x : PassView). IsLaterPass t x q) c.in_ok-crew.ensures.same c.join_all.ensures.pass in
    let covers : length front ≤ 64 * ((length front + 63) / 64) = omega arith in
    let col = subst (λ (l : List CrewMember). IfOk c.collect-found.result (λ r. AreCollected l r.0.items r.1)) c.as_slice.ensures.value c.collect-found.ensures in
    ok_map (λ r. AreCollected xs3 r.0.items r.1) (λ r. IsWorked t k front p.seen q.seen r.0.items) c.collect-found.result
    (λ r h. round_worked t k front p c.min.result ((length front + 63) / 64) xs0 xs1 xs2 xs3 made run ret c.take_back_all.ensures.back c.work_rest.ensures r.0.items r.1 h q goes c.join_all.ensures.seen covers) col

pub returns-clause-counted : goal.returns-clause-counted
returns-clause-counted g c =
    let t = c.args.table.now in let k = c.args.distance in let front = c.args.frontier.now in
    let xs0 = c.in_ok-crew.crew.items in let xs1 = c.run_round.new.crew in
    let lent : c.as_mut_slice.result.now ≡ xs0 = search rules in
    let run = subst (λ (l : List CrewMember). Each (Turned t k front) l xs1) lent c.run_round.ensures in
    let len : c.in_ok-crew.crew.len ≡ length xs0 = c.in_ok-crew.crew.ok.0 in
    let all = lent_whole xs0 xs1 c.in_ok-crew.crew.len len (each_length (Turned t k front) xs0 xs1 run) in
    let xs2 = c.take_back_all.new.crew.items in let xs3 = c.work_rest.new.crew.items in
    let ret = subst (λ (l : List CrewMember). AreReturned l xs2) all c.take_back_all.ensures.same in
    let made = c.in_ok-crew.ensures.made in
    let p = c.args.pass.now in let q = c.join_all.new.pass in
    let goes = subst (λ (x : PassView). IsLaterPass t x q) c.in_ok-crew.ensures.same c.join_all.ensures.pass in
    let covers : length front ≤ 64 * ((length front + 63) / 64) = omega arith in
    let col = subst (λ (l : List CrewMember). IfOk c.collect-found.result (λ r. AreCollected l r.0.items r.1)) c.as_slice.ensures.value c.collect-found.ensures in
    ok_map (λ r. AreCollected xs3 r.0.items r.1) (λ r. r.1 ≡ moves_of t.lists front) c.collect-found.result
    (λ r h. round_counted t k front p c.min.result ((length front + 63) / 64) xs0 xs1 xs2 xs3 made run ret c.take_back_all.ensures.back c.work_rest.ensures r.0.items r.1 h q goes c.join_all.ensures.seen covers) col
