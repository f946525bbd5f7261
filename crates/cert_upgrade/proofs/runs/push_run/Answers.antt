use Rattle.std.proofs.Common.{arith, ap, length, ◌∙◌, ◌≡◌}
use Rattle.std.specs.declared.alloc.Global.{Global}
use Rattle.std.specs.declared.vec.Vec.{Vec}
use Rattle.certificate.specs.declared.lines.CertLine.{CertLine}
use Rattle.cert_upgrade.proofs.RunJoins.{alone_last, apart_last, joined_last}
use Rattle.cert_upgrade.proofs.runs.push_run.Goals as goal
use Rattle.cert_upgrade.proofs.runs.push_run.Goals.{in-None, in-Some+in-None-run_before+in_ok-push-in-None-run_before}

pub returns-in-Some-run_before : goal.returns-in-Some-run_before
returns-in-Some-run_before c =
    joined_last c.args.lines.now.items c.pop.new.self.items c.push.new.self.items c.in-Some.line c.args.first c.args.last c.args.distance c.in-Some-run_before.start c.in-Some.ensures.items c.in-Some-run_before.ensures c.in_ok-push-in-Some-run_before.ensures.items

pub returns : goal.returns
returns c = elim c.match-pop.branch [
  | in-None w ↦ (
      let none = w.in-None.ensures.cases in
      let old = c.args.lines.now.ok.0 in
      let new = c.pop.new.self.ok.0 in
      let empty : length c.pop.new.self.items ≡ 0 = (let n = none.1 in omega (arith, n, new)) in
      alone_last c.args.lines.now.items c.match-pop.lines.items c.push-2.new.self.items c.args.first c.args.last c.args.distance (let n = none.0 in omega (arith, n, old)) (ap (λ (v : Vec CertLine Global). length v.items) w.lines-is ∙ empty) c.in_ok-push.ensures.items)
  | in-Some+in-None-run_before+in_ok-push-in-None-run_before w ↦
      apart_last c.args.lines.now.items c.pop.new.self.items c.match-pop.lines.items c.push-2.new.self.items w.in-Some.line c.args.first c.args.last c.args.distance w.in-Some.ensures.items w.in-None-run_before.ensures
      (ap (λ (v : Vec CertLine Global). v.items) w.lines-is ∙ w.in_ok-push-in-None-run_before.ensures.items) c.in_ok-push.ensures.items
]
