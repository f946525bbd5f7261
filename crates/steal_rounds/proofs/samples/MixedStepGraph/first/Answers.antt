use Rattle.std.proofs.Common.{◌≡◌, ℕ, ◌+◌, ◌*◌, ◌%◌, ◌<◌, ◌≤◌, length, ap, sym, ◌∙◌, arith, refl}
use Rattle.steal_rounds.proofs.SampleRows.{length_from, row_from, targets_below}
use Rattle.steal_rounds.specs.inside.Samples.{mixed_targets, mixed_lists}
use Rattle.steal_rounds.proofs.samples.MixedStepGraph.first.Goals as goal

pub returns-clause-whole : goal.returns-clause-whole
returns-clause-whole c =
    let r = c.requires in let l = length_from c.args.self.now.count 0 c.args.self.now.count in
    let lt : c.args.state < c.args.self.now.count = omega (arith, r, l) in
    sym (row_from c.args.self.now.count 0 c.args.self.now.count c.args.state lt ∙ ap (mixed_targets c.args.self.now.count) (let e : 0 + c.args.state ≡ c.args.state = omega arith in e))

pub returns-clause-few : goal.returns-clause-few
returns-clause-few c =
    let r = c.requires in let l = length_from c.args.self.now.count 0 c.args.self.now.count in
    let lt : c.args.state < c.args.self.now.count = omega (arith, r, l) in
    let e = ap length (row_from c.args.self.now.count 0 c.args.self.now.count c.args.state lt) in
    let four : length (mixed_targets c.args.self.now.count (0 + c.args.state)) ≡ 4 = refl in omega (arith, e, four)

pub returns-clause-mine : goal.returns-clause-mine
returns-clause-mine c = let r = c.requires in let l = length_from c.args.self.now.count 0 c.args.self.now.count in (omega (arith, r, l), omega arith)
