use Rattle.std.proofs.Common.{rules, ℕ, ltb}
use Rattle.std.proofs.lemmas.List.Sorted.{IsPartitionPoint-from_clause, IsPartitionedBy-ltb}
use Rattle.closure_state.proofs.BoundLemmas.{children_from, codes_rise}
use Rattle.closure_state.proofs.chain.from_bound.Goals as goal

pub returns : goal.returns
returns c = λ entries node children.
    children_from entries node c.args.bound c.partition_point-at.result c.args.row.now c.split_at.result.1.now children c.partition_point-at.ensures.bound c.split_at.ensures.back
    (IsPartitionPoint-from_clause (λ (p : ℕ × ℕ). ltb p.0 c.args.bound) c.args.row.now c.partition_point-at.result c.partition_point-at.ensures.partitioned
    (IsPartitionedBy-ltb (λ (p : ℕ × ℕ). p.0) c.args.row.now c.args.bound (codes_rise entries node c.args.row.now children)) (λ a r f' called. search rules))
