use Rattle.std.proofs.Common.{ℕ, ◌≡◌, ◌+◌, ◌-◌, ◌*◌, ◌<◌, ◌≤◌, sym, arith, inl, inr, add-one}
use Rattle.std.proofs.lemmas.Bool.{cases_lt}
use Rattle.std.proofs.Math.Pow.{pow_mono}
use Rattle.std.proofs.Math.Nat.{pow-suc}
use Rattle.edge_pool.specs.Classes.{class_of, size_of, IsLen}
use Rattle.edge_pool.proofs.ClassLemmas.{class_of_is}
use Rattle.edge_pool.proofs.classes.class_of_len.Goals as goal

pub returns-then-len-eq1-clause-is : goal.returns-then-len-eq1-clause-is
returns-then-len-eq1-clause-is c = sym (class_of_is c.args.len 0 (omega arith) (omega arith) (λ k below. absurd (omega arith)))

-- a logarithm that is below the size of the last class
short : (len log : ℕ) → len ≤ 4194304 → size_of log ≤ len - 1 → 0 < len → log + 1 < 23
short len log bound power pos = elim (cases_lt (log + 1) 23) [
  | inl known ↦ known
  | inr large ↦ absurd (omega (arith, pow_mono {i = 22} {j = log} (omega arith)))
]

class_by_log : (len log : ℕ) → IsLen len → size_of log ≤ len - 1 → len - 1 < 2 * size_of log → log + 1 ≡ class_of len
class_by_log len log is power next =
    sym (class_of_is len (log + 1) (short len log is.1 power is.0) (rw (add-one log, pow-suc 2 log) (omega (arith, is.0)))
    (λ k below. omega (arith, is.0, pow_mono {i = k} {j = log} (omega arith))))

pub returns-clause-is : goal.returns-clause-is
returns-clause-is c = class_by_log c.args.len c.ilog2.result c.requires c.ilog2.ensures.power_le c.ilog2.ensures.next_power_gt

pub returns-clause-known : goal.returns-clause-known
returns-clause-known c = short c.args.len c.ilog2.result c.requires.1 c.ilog2.ensures.power_le c.requires.0
