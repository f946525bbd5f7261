use Rattle.std.proofs.Common.{◌<◌, ◌+◌, ◌*◌, refl, arith}
use Rattle.std.proofs.Math.Nat.{mod-lt}
use Rattle.round_core.proofs.Samples.{lists_count, row_done, row_next}
use Rattle.round_core.proofs.tests.RegularStepGraph.next.Goals as goal

pub returns-then-cursor-self-clause-next : goal.returns-then-cursor-self-clause-next
returns-then-cursor-self-clause-next c =
    let g = c.args.self.now in let at = c.args.cursor.now in
    let done = row_done g.count g.degree g.factor g.turn g.shift at.state at.place c.if-cursor-self.true in
    (done, done)

pub returns-clause-next : goal.returns-clause-next
returns-clause-next c =
    let g = c.args.self.now in let at = c.args.cursor.now in
    let a = c.from.ensures in let b = c.from-2.ensures in let d = c.from-3.ensures in let e = c.from-4.ensures in let f = c.from-5.ensures in let n = c.from-6.ensures in
    row_next g.count g.degree g.factor g.turn g.shift at.state at.place _ c.if-cursor-self.false (rw (a, b, d, e, f, n) refl)

pub returns-clause-below : goal.returns-clause-below
returns-clause-below c =
    let g = c.args.self.now in let count = lists_count g.count g.degree g.factor g.turn g.shift in
    let some = g.bound.1 in let is = c.from-6.ensures in
    let positive : 0 < c.from-6.result = omega (arith, some, is) in
    let least = mod-lt (c.from.result * c.from-2.result + c.from-3.result * c.from-4.result + c.from-5.result) positive in
    omega (arith, least, count, is)
