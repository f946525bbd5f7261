use Rattle.std.proofs.Common.{◌≡◌, ℕ, ◌+◌, ◌*◌, ◌%◌, ◌<◌, ◌≤◌, length, ap, sym, ◌∙◌, arith}
use Rattle.steal_rounds.proofs.SampleRows.{length_from, row_from, targets_below}
use Rattle.steal_rounds.specs.inside.Samples.{mixed_targets, mixed_lists}
use Rattle.std.proofs.Math.Nat.{mod-lt}
use Rattle.steal_rounds.proofs.samples.MixedStepGraph.next.Goals.{in-0, in-1, in-2, in-3}
use Rattle.steal_rounds.proofs.samples.MixedStepGraph.next.Goals as goal

pub returns-clause-below : goal.returns-clause-below
returns-clause-below c =
    let n = c.args.self.now.count in let l = length_from n 0 n in let some = c.args.self.now.bound.0 in
    elim c.match-cursor.branch [
      | in-0 w ↦ (let e = w.target-is in let m = mod-lt (c.args.cursor.now.state * 7 + 1) some in omega (arith, l, e, m))
      | in-1 w ↦ (let e = w.target-is in let m = mod-lt (c.args.cursor.now.state * 13 + 5) some in omega (arith, l, e, m))
      | in-2 w ↦ (let e = w.target-is in let m = mod-lt (c.args.cursor.now.state * 31 + 11) some in omega (arith, l, e, m))
      | in-3 w ↦ (let e = w.target-is in let m = mod-lt (c.args.cursor.now.state + 1) some in omega (arith, l, e, m))
    ]
