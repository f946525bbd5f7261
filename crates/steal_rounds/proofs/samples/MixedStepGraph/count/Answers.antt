use Rattle.std.proofs.Common.{◌≡◌, ℕ, ◌+◌, ◌*◌, ◌%◌, ◌<◌, ◌≤◌, length, ap, sym, ◌∙◌, arith}
use Rattle.steal_rounds.proofs.SampleRows.{length_from, row_from, targets_below}
use Rattle.steal_rounds.specs.inside.Samples.{mixed_targets, mixed_lists}
use Rattle.steal_rounds.proofs.samples.MixedStepGraph.count.Goals as goal

pub returns-clause-count : goal.returns-clause-count
returns-clause-count c = sym (length_from c.args.self.now.count 0 c.args.self.now.count)

pub returns-clause-most : goal.returns-clause-most
returns-clause-most c = let l = length_from c.args.self.now.count 0 c.args.self.now.count in let b = c.args.self.now.bound.1 in omega (arith, l, b)

pub returns-clause-targets : goal.returns-clause-targets
returns-clause-targets c = λ s t h. targets_below c.args.self.now.count s t c.args.self.now.bound.0 h
